use Rattle.std.proofs.Common.{Some, sym, ◌∙◌, ap, subst}
use Rattle.std.specs.Prelude.{Result}
use Rattle.lsm_device.specs.declared.refusal.Refusal.{Refusal}
use Rattle.lsm_store.specs.Backing.{machine_of}
use Rattle.lsm_machine.specs.Calls.{Done, reply_of}
use Rattle.lsm_store.specs.Memory.{view_of}
use Rattle.lsm_machine.specs.Work.{Drop}
use Rattle.lsm_store.specs.Working.{Works}
use Rattle.lsm_machine.proofs.Unrefused.{err_of}
use Rattle.lsm_store.proofs.WorkAnswers.{drop_works}
use Rattle.lsm_store.proofs.WorkingMemory.{outputs_held, dropped_kept, dropped_blocks}
use Rattle.lsm_store.proofs.Works.{stopped_refuses, runs_then, works_refused}
use Rattle.lsm_store.proofs.working.drop.Goals as goal

pub returns-in_err-check_running-clause-works : goal.returns-in_err-check_running-clause-works
returns-in_err-check_running-clause-works g c = λ medium cache.
    let old = view_of medium c.args.memory.now cache in
    let piece = Drop c.args.job in
    let found = err_of c.from_residual.result _ c.from_residual.ensures.1 in
    subst (λ (r : Result (Unit {0}) Refusal). Works old piece (reply_of (λ x. Done) r) old) (sym found.1)
    (works_refused old piece found.0 (stopped_refuses (machine_of old) piece found.0 (c.in_err-check_running.ensures.refused ∙ ap Some (sym found.2))))

pub drop-requires : goal.drop-requires
drop-requires g c = outputs_held c.args.memory.now c.requires c.args.job c.partition.ensures

pub returns-clause-works : goal.returns-clause-works
returns-clause-works g c = λ medium cache.
    let old = view_of medium c.args.memory.now cache in
    let e = c.drop.ensures in
    drop_works c.args.memory.now medium cache (runs_then (machine_of old) c.in_ok-check_running.ensures.refused) c.args.job c.drop.result c.drop.new.self c.drop.new.extents e.absent e.refusals e.freed e.given_back e.unchanged

pub returns-clause-kept : goal.returns-clause-kept
returns-clause-kept g c =
    let e = c.drop.ensures in
    dropped_kept c.args.memory.now c.requires c.args.job c.drop.result c.drop.new.self c.drop.new.extents c.partition.ensures e.freed e.given_back e.unchanged

pub returns-clause-inside : goal.returns-clause-inside
returns-clause-inside g c = λ size within. record { lie = within.lie; area = dropped_blocks c.args.memory.now c.args.job c.drop.result c.drop.new.self c.drop.new.extents c.drop.ensures.given_back c.drop.ensures.unchanged ∙ within.area }
