use Rattle.std.proofs.Common.{sym, ap, subst, length, List}
use Rattle.std.specs.Prelude.{Result}
use Rattle.lsm_codec.specs.Answers.{Passes}
use Rattle.lsm_device.specs.declared.refusal.Refusal.{Refusal}
use Rattle.lsm_jobs.specs.Refusing.{IsNotWritten}
use Rattle.lsm_jobs.specs.Slots.{slot_of}
use Rattle.lsm_levels.specs.Tables.{Table}
use Rattle.lsm_store.specs.Memory.{state_of, work_of}
use Rattle.lsm_machine.specs.Work.{Install}
use Rattle.lsm_machine.specs.WorkRefusals.{work_refusal}
use Rattle.lsm_store.proofs.InstallTests.{told_slot, live_few, live_most, live_taken, tells_not_written, tells_many_runs, tells_many_tables, tells_exhausted, tells_none}
use Rattle.lsm_machine.proofs.Unrefused.{err_of}
use Rattle.lsm_store.proofs.memory.Memory.check_install.Goals as goal

pub returns-in_err-written : goal.returns-in_err-written
returns-in_err-written g c =
    let m = c.args.self.now in
    let found = err_of c.from_residual-in_err-written.result _ c.from_residual-in_err-written.ensures.1 in
    subst (λ (r : Result (Unit {0}) Refusal). Passes (work_refusal (record { state = state_of m; work = work_of m }) (Install c.args.job)) r) (sym found.1)
    (tells_not_written m c.requires c.args.job c.in_ok-check_running.ensures.refused found.0 (subst (IsNotWritten (slot_of c.args.job m.jobs.slots)) (sym found.2) c.in_err-written.ensures.refused))

pub returns-then-has_too_many_runs : goal.returns-then-has_too_many_runs
returns-then-has_too_many_runs g c =
    tells_many_runs c.args.self.now c.requires c.args.job c.in_ok-check_running.ensures.refused c.in_ok-written.written (told_slot c.in_ok-written.written (slot_of c.args.job c.args.self.now.jobs.slots) c.in_ok-written.ensures.found)
    c.has_too_many_runs.result (length c.runs-runs.result.now) (ap (λ (l : List (List Table)). length l) c.runs-runs.ensures.same) c.has_too_many_runs.ensures c.if-has_too_many_runs.true

pub count_live-live-requires : goal.count_live-live-requires
count_live-live-requires g c = live_few c.args.self.now c.requires

pub has_too_many_tables-requires-clause-most : goal.has_too_many_tables-requires-clause-most
has_too_many_tables-requires-clause-most g c =
    live_most c.args.self.now c.requires c.args.job c.in_ok-check_running.ensures.refused c.in_ok-written.written (told_slot c.in_ok-written.written (slot_of c.args.job c.args.self.now.jobs.slots) c.in_ok-written.ensures.found) c.count_live-live.result c.count_live-live.ensures

pub has_too_many_tables-requires-clause-taken_in : goal.has_too_many_tables-requires-clause-taken_in
has_too_many_tables-requires-clause-taken_in g c =
    live_taken c.args.self.now c.requires c.args.job c.in_ok-check_running.ensures.refused c.in_ok-written.written (told_slot c.in_ok-written.written (slot_of c.args.job c.args.self.now.jobs.slots) c.in_ok-written.ensures.found) c.count_live-live.result c.runs-runs.ensures.runs c.count_live-live.ensures

pub returns-then-has_too_many_tables : goal.returns-then-has_too_many_tables
returns-then-has_too_many_tables g c =
    tells_many_tables c.args.self.now c.requires c.args.job c.in_ok-check_running.ensures.refused c.in_ok-written.written (told_slot c.in_ok-written.written (slot_of c.args.job c.args.self.now.jobs.slots) c.in_ok-written.ensures.found)
    c.has_too_many_runs.result (length c.runs-runs.result.now) (ap (λ (l : List (List Table)). length l) c.runs-runs.ensures.same) c.has_too_many_runs.ensures c.if-has_too_many_runs.false
    c.has_too_many_tables.result c.count_live-live.result c.count_live-live.ensures c.has_too_many_tables.ensures c.if-has_too_many_tables.true

pub returns-then-self : goal.returns-then-self
returns-then-self g c =
    tells_exhausted c.args.self.now c.requires c.args.job c.in_ok-check_running.ensures.refused c.in_ok-written.written (told_slot c.in_ok-written.written (slot_of c.args.job c.args.self.now.jobs.slots) c.in_ok-written.ensures.found)
    c.has_too_many_runs.result (length c.runs-runs.result.now) (ap (λ (l : List (List Table)). length l) c.runs-runs.ensures.same) c.has_too_many_runs.ensures c.if-has_too_many_runs.false
    c.has_too_many_tables.result c.count_live-live.result c.count_live-live.ensures c.has_too_many_tables.ensures c.if-has_too_many_tables.false c.if-self.true

pub returns : goal.returns
returns g c =
    tells_none c.args.self.now c.requires c.args.job c.in_ok-check_running.ensures.refused c.in_ok-written.written (told_slot c.in_ok-written.written (slot_of c.args.job c.args.self.now.jobs.slots) c.in_ok-written.ensures.found)
    c.has_too_many_runs.result (length c.runs-runs.result.now) (ap (λ (l : List (List Table)). length l) c.runs-runs.ensures.same) c.has_too_many_runs.ensures c.if-has_too_many_runs.false
    c.has_too_many_tables.result c.count_live-live.result c.count_live-live.ensures c.has_too_many_tables.ensures c.if-has_too_many_tables.false c.if-self.false
