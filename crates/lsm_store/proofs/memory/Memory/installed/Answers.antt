use Rattle.std.proofs.Common.{subst}
use Rattle.lsm_jobs.proofs.Found.{found_there}
use Rattle.lsm_jobs.proofs.Outcomes.{outputs_law}
use Rattle.lsm_jobs.specs.Slots.{slot_of, outputs_at}
use Rattle.lsm_levels.specs.Held.{IsHeld}
use Rattle.lsm_levels.specs.Tables.{IsRun}
use Rattle.lsm_store.proofs.InstallTests.{told_slot, written_not, next_told}
use Rattle.lsm_store.proofs.memory.Memory.installed.Goals as goal

pub returns-in_err-written-clause-refused : goal.returns-in_err-written-clause-refused
returns-in_err-written-clause-refused g c = absurd (written_not (slot_of c.args.job c.args.self.now.jobs.slots) c.in_err-written.field-0.0 c.requires.written c.in_err-written.ensures.refused)

pub fit-requires : goal.fit-requires
fit-requires g c =
    let told = told_slot c.in_ok-written.written (slot_of c.args.job c.args.self.now.jobs.slots) c.in_ok-written.ensures.found in
    subst IsRun told.outputs (outputs_law.run told.slot.input (outputs_at told.slot.stage) told.made)

pub next_levels-requires-clause-has : goal.next_levels-requires-clause-has
next_levels-requires-clause-has g c =
    let m = c.args.self.now in
    let told = told_slot c.in_ok-written.written (slot_of c.args.job m.jobs.slots) c.in_ok-written.ensures.found in
    (told.slot.input.bottom, subst (IsHeld m.levels told.slot.input.bottom) told.job (c.requires.kept.jobs.kept.held told.slot (found_there c.args.job m.jobs.slots told.slot told.is)))

pub returns-clause-next : goal.returns-clause-next
returns-clause-next g c =
    let m = c.args.self.now in
    let written = c.in_ok-written.written in
    next_told m c.args.job written (told_slot written (slot_of c.args.job m.jobs.slots) c.in_ok-written.ensures.found) c.is_flush-flush.result c.in_ok-levels.levels c.is_flush-flush.ensures c.in_ok-levels.ensures (c.fit.ensures.0 c.if-not-fit.false)
