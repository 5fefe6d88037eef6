use Rattle.std.proofs.Common.{Some, sym, ◌∙◌, ap, subst}
use Rattle.std.specs.Arc.{arc_value}
use Rattle.std.specs.Prelude.{Result}
use Rattle.std.specs.declared.sync.Arc.{Arc}
use Rattle.lsm_device.specs.declared.refusal.Refusal.{Refusal}
use Rattle.lsm_merge.specs.Inputs.{MergeInput}
use Rattle.lsm_store.specs.Backing.{machine_of}
use Rattle.lsm_store.specs.Memory.{view_of}
use Rattle.lsm_machine.specs.Work.{Ask}
use Rattle.lsm_store.specs.Working.{Works}
use Rattle.lsm_machine.specs.Calls.{Handed, reply_of}
use Rattle.lsm_machine.proofs.Unrefused.{err_of}
use Rattle.lsm_store.proofs.WorkAnswers.{input_works}
use Rattle.lsm_store.proofs.Works.{stopped_refuses, runs_then, works_refused}
use Rattle.lsm_store.proofs.working.input.Goals as goal

pub returns-in_err-check_running-clause-works : goal.returns-in_err-check_running-clause-works
returns-in_err-check_running-clause-works g c = λ medium cache.
    let old = view_of medium c.args.memory.now cache in
    let piece = Ask c.args.job in
    let found = err_of c.from_residual.result _ c.from_residual.ensures.1 in
    subst (λ (r : Result (Arc MergeInput g.row.A.Denot) Refusal). Works old piece (reply_of (λ (input : Arc MergeInput g.row.A.Denot). Handed (arc_value input)) r) old) (sym found.1)
    (works_refused old piece found.0 (stopped_refuses (machine_of old) piece found.0 (c.in_err-check_running.ensures.refused ∙ ap Some (sym found.2))))

pub returns-clause-works : goal.returns-clause-works
returns-clause-works g c = λ medium cache.
    let old = view_of medium c.args.memory.now cache in
    input_works c.args.memory.now medium cache (runs_then (machine_of old) c.in_ok-check_running.ensures.refused) c.args.job c.input.result c.input.ensures.input c.input.ensures.refused
