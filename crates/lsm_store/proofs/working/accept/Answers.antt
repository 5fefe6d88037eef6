use Rattle.std.proofs.Common.{Some, sym, ◌∙◌, ap, subst}
use Rattle.std.specs.Prelude.{Result}
use Rattle.lsm_device.specs.declared.refusal.Refusal.{Refusal}
use Rattle.lsm_store.specs.Backing.{machine_of}
use Rattle.lsm_machine.specs.Calls.{Done, Refused, reply_of}
use Rattle.lsm_store.specs.Memory.{view_of}
use Rattle.lsm_machine.specs.Work.{Accept}
use Rattle.lsm_store.specs.Working.{Works}
use Rattle.lsm_store.proofs.AcceptedResults.{accept_refused}
use Rattle.lsm_machine.proofs.Unrefused.{err_of}
use Rattle.lsm_store.proofs.Works.{stopped_refuses, runs_then, works_refused}
use Rattle.lsm_store.proofs.working.accept.Goals as goal

pub returns-in_err-check_running-clause-works : goal.returns-in_err-check_running-clause-works
returns-in_err-check_running-clause-works g c = λ medium cache within sized.
    let old = view_of medium c.args.memory.now cache in
    let piece = Accept c.args.job (Some c.args.built.now) in
    let found = err_of c.from_residual.result _ c.from_residual.ensures.1 in
    subst (λ (r : Result (Unit {0}) Refusal). Works old piece (reply_of (λ x. Done) r) old) (sym found.1)
    (works_refused old piece found.0 (stopped_refuses (machine_of old) piece found.0 (c.in_err-check_running.ensures.refused ∙ ap Some (sym found.2))))

pub returns-in_err-check_result-clause-works : goal.returns-in_err-check_result-clause-works
returns-in_err-check_result-clause-works g c = λ medium cache within sized.
    let m = c.args.memory.now in
    let old = view_of medium m cache in
    let piece = Accept c.args.job (Some c.args.built.now) in
    let found = err_of c.from_residual-in_err-check_result.result _ c.from_residual-in_err-check_result.ensures.1 in
    subst (λ (r : Result (Unit {0}) Refusal). Works old piece (reply_of (λ x. Done) r) old) (sym found.1)
    (subst (λ (e : Refusal). Works old piece (Refused e) old) (sym found.2)
    (accept_refused m medium cache (runs_then (machine_of old) c.in_ok-check_running.ensures.refused) c.args.job c.args.built.now _ (c.in_err-check_result.ensures.refused m.next_table m.extents)))

pub returns-clause-works : goal.returns-clause-works
returns-clause-works g c = c.accept_own.ensures.works
