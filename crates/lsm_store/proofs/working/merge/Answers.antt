use Rattle.std.proofs.Common.{inl, inr, sym, subst, rules}
use Rattle.std.specs.Arc.{arc_value}
use Rattle.lsm_device.specs.declared.refusal.Refusal.{Refusal}
use Rattle.lsm_merge.specs.Inputs.{MergeInput}
use Rattle.lsm_jobs.specs.Refusing.{HasInput}
use Rattle.lsm_jobs.specs.Slots.{slot_of}
use Rattle.lsm_machine.specs.Calls.{Refused}
use Rattle.lsm_machine.specs.Work.{Ask}
use Rattle.lsm_machine.proofs.Unrefused.{err_of}
use Rattle.lsm_store.specs.Memory.{view_of}
use Rattle.lsm_store.specs.Merging.{RefusesMerge}
use Rattle.lsm_store.specs.Working.{Works}
use Rattle.lsm_store.proofs.Merged.{refused_holds, merged_answered}
use Rattle.lsm_store.proofs.working.merge.Goals as goal

pub returns-in_err-input-clause-works : goal.returns-in_err-input-clause-works
returns-in_err-input-clause-works g c = λ medium cache within sized.
    let old = view_of medium c.args.memory.now cache in
    let found = err_of c.from_residual.result _ c.from_residual.ensures.1 in
    refused_holds _ (λ (e : Refusal). RefusesMerge c.args.job c.args.divisions.items e old old) c.from_residual.result found.0 found.1
    (inl (subst (λ (e : Refusal). Works old (Ask c.args.job) (Refused e) old) (sym found.2) (c.in_err-input.ensures.works medium cache)))

pub returns-in_err-alloc-clause-works : goal.returns-in_err-alloc-clause-works
returns-in_err-alloc-clause-works g c = λ medium cache within sized.
    let old = view_of medium c.args.memory.now cache in
    let found = err_of c.from_residual-in_err-alloc.result _ c.from_residual-in_err-alloc.ensures.1 in
    refused_holds _ (λ (e : Refusal). RefusesMerge c.args.job c.args.divisions.items e old old) c.from_residual-in_err-alloc.result found.0 found.1
    (inr (inl (arc_value c.in_ok-input.input, c.in_ok-input.ensures.works medium cache, search rules)))

pub returns-in_err-built-clause-works : goal.returns-in_err-built-clause-works
returns-in_err-built-clause-works g c = λ medium cache within sized.
    let old = view_of medium c.args.memory.now cache in
    let found = err_of c.from_residual-in_err-built.result _ c.from_residual-in_err-built.ensures.1 in
    refused_holds _ (λ (e : Refusal). RefusesMerge c.args.job c.args.divisions.items e old old) c.from_residual-in_err-built.result found.0 found.1
    (inr (inl (arc_value c.in_ok-input.input, c.in_ok-input.ensures.works medium cache, search rules)))

pub accept_own-requires-clause-own : goal.accept_own-requires-clause-own
accept_own-requires-clause-own g c =
    subst (λ (input : MergeInput). HasInput input (slot_of c.args.job c.args.memory.now.jobs.slots)) (sym c.in_ok-built.ensures.input) c.in_ok-input.ensures.own

pub returns-clause-works : goal.returns-clause-works
returns-clause-works g c = λ medium cache within sized.
    merged_answered c.args.job c.args.divisions.items _ _ (arc_value c.in_ok-input.input) c.in_ok-built.built c.accept_own.result (c.in_ok-input.ensures.works medium cache) c.in_ok-built.ensures.input c.in_ok-built.ensures.divisions c.in_ok-built.ensures.tables
    (c.accept_own.ensures.works medium cache within sized)
