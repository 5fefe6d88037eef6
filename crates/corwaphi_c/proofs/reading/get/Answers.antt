use Rattle.std.proofs.Common.{ℕ, subst, sym, ◌∙◌}
use Rattle.lsm_machine.specs.Calls.{Get, Reply}
use Rattle.lsm_mapped.specs.Disks.{IsPast}
use Rattle.corwaphi_c.specs.Calls.{Answers, IsValue}
use Rattle.corwaphi_c.proofs.Moving.{gets, lent, read}
use Rattle.corwaphi_c.proofs.reading.get.Goals as goal

pub new-device-requires : goal.new-device-requires
new-device-requires g c = subst (λ (n : ℕ). IsPast n c.args.image.now g.past) (sym c.sectors.ensures) (c.requires c.in-Some.parked (sym c.in-Some.ensures.value))

pub lend-store-requires : goal.lend-store-requires
lend-store-requires g c = c.new-device.ensures.size ∙ c.sectors.ensures

pub returns : goal.returns
returns g c = λ s is. read
    (Answers (Get c.args.at c.args.key.now) (λ (reply : Reply). IsValue reply c.get_in-answer.result c.get_in-answer.new.room c.get_in-answer.new.size))
    s c.lend-store.result c.get_in-answer.new.store c.park.new.self.store _ g.past (lent _ c.in-Some.parked s c.lend-store.result _ _ g.past _ (sym c.in-Some.ensures.value) is c.lend-store.ensures c.new-device.ensures.medium c.sectors.ensures) c.get_in-answer.ensures (gets c.args.at c.args.key.now (λ (reply : Reply). IsValue reply c.get_in-answer.result c.get_in-answer.new.room c.get_in-answer.new.size) c.lend-store.result c.get_in-answer.new.store) c.park.ensures.kept
