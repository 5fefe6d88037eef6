use Rattle.std.proofs.Common.{ℕ, List, Bor, option_map, subst, sym, ◌∙◌}
use Rattle.lsm_machine.specs.Calls.{Scan, Reply}
use Rattle.lsm_mapped.specs.Disks.{IsPast}
use Rattle.corwaphi_c.specs.Calls.{Answers, IsRows}
use Rattle.corwaphi_c.proofs.Moving.{lent, read, scans}
use Rattle.corwaphi_c.proofs.reading.rows.Goals as goal

pub new-device-requires : goal.new-device-requires
new-device-requires g c = subst (λ (n : ℕ). IsPast n c.args.image.now g.past) (sym c.sectors.ensures) (c.requires c.in-Some.parked (sym c.in-Some.ensures.value))

pub lend-store-requires : goal.lend-store-requires
lend-store-requires g c = c.new-device.ensures.size ∙ c.sectors.ensures

pub returns : goal.returns
returns g c = λ s is.
    let to = option_map {T = Bor (List ℕ)} {U = List ℕ} (λ to. to.now) c.args.to in
    let Told = λ (reply : Reply). IsRows reply c.rows_in-answer.result c.rows_in-answer.new.room c.rows_in-answer.new.told in
    read
    (Answers (Scan c.args.at c.args.from.now to c.args.limit) Told)
    s c.lend-store.result c.rows_in-answer.new.store c.park.new.self.store _ g.past (lent _ c.in-Some.parked s c.lend-store.result _ _ g.past _ (sym c.in-Some.ensures.value) is c.lend-store.ensures c.new-device.ensures.medium c.sectors.ensures) c.rows_in-answer.ensures (scans c.args.at c.args.from.now to c.args.limit Told c.lend-store.result c.rows_in-answer.new.store) c.park.ensures.kept
