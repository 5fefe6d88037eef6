use Rattle.std.proofs.Common.{Some, sym, ◌∙◌, ap, subst}
use Rattle.std.specs.Prelude.{Result}
use Rattle.lsm_device.specs.declared.refusal.Refusal.{Refusal}
use Rattle.lsm_store.specs.Backing.{machine_of}
use Rattle.lsm_machine.specs.Calls.{Done, Refused, reply_of}
use Rattle.lsm_store.specs.Memory.{view_of}
use Rattle.lsm_machine.specs.Work.{Accept}
use Rattle.lsm_store.specs.Working.{Works}
use Rattle.lsm_store.proofs.AcceptedResults.{accept_unchanged, accept_done}
use Rattle.lsm_machine.proofs.Unrefused.{err_of}
use Rattle.lsm_store.proofs.WorkingMemory.{accepted_kept, unaccepted_kept}
use Rattle.lsm_store.proofs.Works.{moved_on, stopped_refuses, runs_then, works_refused}
use Rattle.lsm_extent.specs.Area.{Area}
use Rattle.lsm_jobs.proofs.Accepted.{same_blocks}
use Rattle.lsm_store.proofs.working.accept_own.Goals as goal

pub returns-in_err-check_running-clause-works : goal.returns-in_err-check_running-clause-works
returns-in_err-check_running-clause-works g c = λ medium cache within sized.
    let old = view_of medium c.args.memory.now cache in
    let piece = Accept c.args.job (Some c.args.built.now) in
    let found = err_of c.from_residual.result _ c.from_residual.ensures.1 in
    subst (λ (r : Result (Unit {0}) Refusal). Works old piece (reply_of (λ x. Done) r) old) (sym found.1)
    (works_refused old piece found.0 (stopped_refuses (machine_of old) piece found.0 (c.in_err-check_running.ensures.refused ∙ ap Some (sym found.2))))

pub returns-in_err-next-clause-works : goal.returns-in_err-next-clause-works
returns-in_err-next-clause-works g c = λ medium cache within sized.
    let m = c.args.memory.now in
    let old = view_of medium m cache in
    let piece = Accept c.args.job (Some c.args.built.now) in
    let js = c.accept_own.new.self in
    let area = c.accept_own.new.extents in
    let found = err_of c.from_residual-in_err-next.result _ c.from_residual-in_err-next.ensures.1 in
    subst (λ (r : Result (Unit {0}) Refusal). Works old piece (reply_of (λ x. Done) r) (moved_on old js m.next_table area medium)) (sym found.1)
    (subst (λ (e : Refusal). Works old piece (Refused e) (moved_on old js m.next_table area medium)) (sym found.2)
    (accept_unchanged m medium cache (runs_then (machine_of old) c.in_ok-check_running.ensures.refused) c.args.job c.args.built.now c.in_err-next.field-0.0 js area c.in_err-next.ensures.unchanged c.in_err-next.ensures.refused))

pub returns-in_err-next-clause-kept : goal.returns-in_err-next-clause-kept
returns-in_err-next-clause-kept g c = unaccepted_kept c.args.memory.now c.requires.kept c.accept_own.new.self c.accept_own.new.extents c.in_err-next.ensures.unchanged

pub returns-clause-works : goal.returns-clause-works
returns-clause-works g c = λ medium cache within sized.
    let m = c.args.memory.now in
    let old = view_of medium m cache in
    let result = c.args.built.now in
    let kept = accepted_kept m c.requires.kept c.args.job c.in_ok-next.next result.input result.images c.accept_own.new.self c.accept_own.new.extents c.in_ok-next.ensures.next c.in_ok-next.ensures.accepted in
    accept_done m medium cache (runs_then (machine_of old) c.in_ok-check_running.ensures.refused) c.args.job c.args.built.now c.accept_own.new.self c.accept_own.new.extents c.in_ok-next.ensures.accepted c.images-images.ensures.kept kept.jobs c.partition.ensures within.area sized
    c.in_ok-next.next c.in_ok-next.ensures.next

pub returns-clause-kept : goal.returns-clause-kept
returns-clause-kept g c =
    let result = c.args.built.now in
    accepted_kept c.args.memory.now c.requires.kept c.args.job c.in_ok-next.next result.input result.images c.accept_own.new.self c.accept_own.new.extents c.in_ok-next.ensures.next c.in_ok-next.ensures.accepted

pub returns-clause-inside : goal.returns-clause-inside
returns-clause-inside g c = λ size within.
    let placing = c.in_ok-next.ensures.accepted.placing in
    record { lie = within.lie; area = ap (λ (x : Area). x.blocks) placing.taken ∙ same_blocks c.in_ok-next.ensures.accepted.tables c.args.memory.now.extents ∙ within.area }
