use Rattle.std.proofs.Common.{ℕ, Some, sym, ◌∙◌, ap, subst}
use Rattle.std.specs.Prelude.{Result}
use Rattle.lsm_device.specs.declared.refusal.Refusal.{Refusal}
use Rattle.lsm_jobs.specs.Reading.{JobCanBeRead}
use Rattle.lsm_store.specs.Backing.{machine_of}
use Rattle.lsm_machine.specs.Calls.{Number, reply_of}
use Rattle.lsm_store.specs.Memory.{view_of}
use Rattle.lsm_machine.specs.Work.{Read}
use Rattle.lsm_store.specs.Working.{Works}
use Rattle.lsm_machine.proofs.Unrefused.{err_of}
use Rattle.lsm_store.proofs.WorkingMemory.{can_be_read, read_kept}
use Rattle.lsm_store.proofs.WorkedReads.{read_works}
use Rattle.lsm_store.proofs.Works.{stopped_refuses, runs_then, works_refused}
use Rattle.lsm_store.proofs.working.read.Goals as goal

pub returns-in_err-check_running-clause-works : goal.returns-in_err-check_running-clause-works
returns-in_err-check_running-clause-works g c = λ cache.
    let old = view_of (g.D.Device.medium c.args.device.now) c.args.memory.now cache in
    let piece = Read c.args.job in
    let found = err_of c.from_residual.result _ c.from_residual.ensures.1 in
    subst (λ (r : Result ℕ Refusal). Works old piece (reply_of Number r) old) (sym found.1)
    (works_refused old piece found.0 (stopped_refuses (machine_of old) piece found.0 (c.in_err-check_running.ensures.refused ∙ ap Some (sym found.2))))

pub read-requires : goal.read-requires
read-requires g c =
    let size = (g.D.Device.medium c.args.device.now).size in
    subst (λ (n : ℕ). JobCanBeRead size n c.args.job c.args.memory.now.jobs.slots) (sym c.data_start-area.ensures)
    (can_be_read c.args.memory.now c.requires.kept size c.args.job c.runs-runs.ensures.runs c.requires.inside)

pub returns-clause-works : goal.returns-clause-works
returns-clause-works g c = λ cache.
    let medium = g.D.Device.medium c.args.device.now in
    let old = view_of medium c.args.memory.now cache in
    let e = c.read.ensures in
    read_works old c.args.job (g.D.Device.medium c.read.new.device) (runs_then (machine_of old) c.in_ok-check_running.ensures.refused) c.requires.kept.jobs.merges c.data_start-area.result c.data_start-area.ensures
    c.read.result c.read.new.self e.reads e.absent e.wrong e.bad e.refused e.same e.faults e.io e.calls e.untouched e.unchanged e.same_size e.same_lasting

pub returns-clause-kept : goal.returns-clause-kept
returns-clause-kept g c = read_kept c.args.memory.now c.requires.kept c.data_start-area.result c.args.job (g.D.Device.medium c.args.device.now) c.read.result c.read.new.self c.read.ensures.reads c.read.ensures.same
