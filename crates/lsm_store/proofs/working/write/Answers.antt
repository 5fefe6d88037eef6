use Rattle.std.proofs.Common.{ℕ, true, false, [], Some, sym, ◌∙◌, ap, subst}
use Rattle.std.specs.Prelude.{Result}
use Rattle.std.specs.List.{AllByRecursion}
use Rattle.lsm_device.specs.declared.refusal.Refusal.{Refusal}
use Rattle.lsm_device.specs.declared.refusal.Refusal.TheVariants.{Io}
use Rattle.lsm_device.specs.Refusals.{is_no_fault}
use Rattle.lsm_jobs.specs.Outputs.{EndsWithin}
use Rattle.lsm_jobs.specs.Refusing.{RefusesWrite}
use Rattle.lsm_jobs.specs.Slots.{JobSlots, slot_of, outputs_of}
use Rattle.lsm_jobs.specs.Writing.{WritesBlocks, next_of}
use Rattle.lsm_store.specs.Backing.{machine_of}
use Rattle.lsm_machine.specs.Calls.{Number, Refused, reply_of}
use Rattle.lsm_store.specs.Memory.{AreConsistent, view_of}
use Rattle.lsm_machine.specs.Work.{Write}
use Rattle.lsm_store.specs.Working.{Works}
use Rattle.lsm_store.specs.declared.memory.Memory.{Memory}
use Rattle.lsm_store.proofs.States.{stopped_kept}
use Rattle.lsm_machine.proofs.Unrefused.{err_of}
use Rattle.lsm_store.proofs.WrittenMemory.{outputs_within, stopped_same, written_kept}
use Rattle.lsm_store.proofs.WrittenWorks.{step_at, write_done, write_io, write_refused}
use Rattle.lsm_store.proofs.Works.{stopped_refuses, runs_then, works_refused}
use Rattle.lsm_store.proofs.working.write.Goals as goal

pub returns-in_err-check_running-clause-works : goal.returns-in_err-check_running-clause-works
returns-in_err-check_running-clause-works g c = λ cache.
    let old = view_of (g.D.Device.medium c.args.device.now) c.args.memory.now cache in
    let piece = Write c.args.job in
    let found = err_of c.from_residual.result _ c.from_residual.ensures.1 in
    subst (λ (r : Result ℕ Refusal). Works old piece (reply_of Number r) old) (sym found.1)
    (works_refused old piece found.0 (stopped_refuses (machine_of old) piece found.0 (c.in_err-check_running.ensures.refused ∙ ap Some (sym found.2))))

pub write-requires : goal.write-requires
write-requires g c =
    let size = (g.D.Device.medium c.args.device.now).size in
    subst (λ (n : ℕ). AllByRecursion (EndsWithin size n) (outputs_of (slot_of c.args.job c.args.memory.now.jobs.slots))) (sym c.data_start-area.ensures)
    (outputs_within c.args.memory.now c.requires.kept size c.args.job c.partition.ensures c.requires.inside)

pub returns-in-Ok-clause-works : goal.returns-in-Ok-clause-works
returns-in-Ok-clause-works g c = λ cache.
    let old = view_of (g.D.Device.medium c.args.device.now) c.args.memory.now cache in
    let e = c.in-Ok.ensures in
    write_done old c.args.job (g.D.Device.medium c.write.new.device) (runs_then (machine_of old) c.in_ok-check_running.ensures.refused) c.in-Ok.left c.write.new.self e.left
    (step_at (slot_of c.args.job c.args.memory.now.jobs.slots) true (g.D.Device.medium c.args.device.now) (g.D.Device.medium c.write.new.device) c.data_start-area.ensures e.written e.calls e.untouched)

pub returns-in-Ok-clause-kept : goal.returns-in-Ok-clause-kept
returns-in-Ok-clause-kept g c = written_kept c.args.memory.now c.requires.kept c.args.job c.in-Ok.left c.write.new.self c.in-Ok.ensures.left

pub returns-in-Io-clause-works : goal.returns-in-Io-clause-works
returns-in-Io-clause-works g c = λ cache.
    let m = c.args.memory.now in
    let medium = g.D.Device.medium c.args.device.now in
    let new = g.D.Device.medium c.write.new.device in
    let old = view_of medium m cache in
    let e = c.in-Err.ensures in
    let at = slot_of c.args.job m.jobs.slots in
    let is = stopped_same m c.stop_in_write.new.self c.write.new.self c.stop_in_write.ensures e.unchanged in
    subst (λ (x : Memory g.row.A.Denot). Works old (Write c.args.job) (Refused Io) (view_of new x cache)) (sym is)
    (write_io old c.args.job new (runs_then (machine_of old) c.in_ok-check_running.ensures.refused) (subst (RefusesWrite at) c.in-Io.is e.refused)
    (step_at at false medium new c.data_start-area.ensures (subst (λ (r : Refusal). WritesBlocks c.data_start-area.result (next_of at) (is_no_fault r) medium new) c.in-Io.is e.written) e.calls e.untouched))

pub returns-in-Io-clause-kept : goal.returns-in-Io-clause-kept
returns-in-Io-clause-kept g c =
    let m = c.args.memory.now in
    let is = stopped_same m c.stop_in_write.new.self c.write.new.self c.stop_in_write.ensures c.in-Err.ensures.unchanged in
    subst (λ (x : Memory g.row.A.Denot). AreConsistent x) (sym is) (stopped_kept m c.requires.kept [])

pub returns-in_default-clause-works : goal.returns-in_default-clause-works
returns-in_default-clause-works g c = λ cache.
    let m = c.args.memory.now in
    let new = g.D.Device.medium c.write.new.device in
    let old = view_of (g.D.Device.medium c.args.device.now) m cache in
    let e = c.in-Err.ensures in
    subst (λ (js : JobSlots). Works old (Write c.args.job) (Refused c.in-Err.refusal) (view_of new (record m { jobs = js }) cache)) (sym e.unchanged)
    (write_refused old c.args.job new (runs_then (machine_of old) c.in_ok-check_running.ensures.refused) c.in-Err.refusal c.in_default.not-Io e.refused e.untouched)

pub returns-in_default-clause-kept : goal.returns-in_default-clause-kept
returns-in_default-clause-kept g c =
    let m = c.args.memory.now in
    subst (λ (js : JobSlots). AreConsistent (record m { jobs = js })) (sym c.in-Err.ensures.unchanged) c.requires.kept
