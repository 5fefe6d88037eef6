use Rattle.std.proofs.Common.{ℕ, subst, sym, refl, inl, inr, arith, ◌∙◌}
use Rattle.lsm_machine.specs.Calls.{Reply}
use Rattle.lsm_mapped.specs.Disks.{IsPast}
use Rattle.corwaphi_c.specs.Calls.{Answers, IsDone, sync_of}
use Rattle.corwaphi_c.proofs.Moving.{answers, lent, made}
use Rattle.corwaphi_c.proofs.lasting.make.Goals as goal

pub returns-then-journal-lt-JOURNAL_BYTES : goal.returns-then-journal-lt-JOURNAL_BYTES
returns-then-journal-lt-JOURNAL_BYTES g c = λ s is. inr (omega (arith, c.if-journal-lt-JOURNAL_BYTES.true), c.code.ensures, (refl, is))

pub lend-store-requires : goal.lend-store-requires
lend-store-requires g c = c.new-device.ensures.size ∙ c.sectors.ensures

pub new-device-requires : goal.new-device-requires
new-device-requires g c = subst (λ (n : ℕ). IsPast n c.args.image.now g.past) (sym c.sectors.ensures) (c.requires c.in-Some.parked (sym c.in-Some.ensures.value))

pub returns : goal.returns
returns g c = λ s is. inl (
  omega (arith, c.if-journal-lt-JOURNAL_BYTES.false, c.journal-1.given.1.0),
  made
      (Answers (sync_of c.args.last) (λ (reply : Reply). IsDone reply c.sync-answer.result))
      s c.lend-store.result c.sync-answer.new.store c.park.new.self.store _ c.used.result g.past _ c.park.new.device (lent _ c.in-Some.parked s c.lend-store.result _ _ g.past _ (sym c.in-Some.ensures.value) is c.lend-store.ensures c.new-device.ensures.medium c.sectors.ensures) c.sync-answer.ensures (answers _ _ _ _ c.sync-answer.ensures) c.park.ensures.kept c.park.ensures.device c.used.ensures.filled c.journal-1.given.1.1,
)
