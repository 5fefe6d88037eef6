use Rattle.std.proofs.Common.{◌≡◌, ℕ, Option, Some, Err, ◌==◌, not, is_some, sym, ◌∙◌, ap, subst}
use Rattle.std.specs.Prelude.{Result, option_map}
use Rattle.lsm_device.specs.declared.refusal.Refusal.{Refusal}
use Rattle.lsm_device.specs.declared.refusal.Refusal.TheVariants.{Exhausted}
use Rattle.lsm_mem.specs.Versions.{sealed_versions}
use Rattle.lsm_jobs.specs.declared.taking.TakenJob.{TakenJob}
use Rattle.lsm_store.specs.Backing.{machine_of}
use Rattle.lsm_machine.specs.Calls.{Refused, reply_of, taken_reply}
use Rattle.lsm_store.specs.Memory.{view_of}
use Rattle.lsm_machine.specs.Work.{Take}
use Rattle.lsm_store.specs.Working.{Works}
use Rattle.lsm_machine.proofs.Unrefused.{err_of}
use Rattle.lsm_store.proofs.WorkAnswers.{take_told, take_past, take_free, take_short, ok_no_err, mapped_some}
use Rattle.lsm_store.proofs.WorkingMemory.{waits_told, told_waits, told_sealed, told_is, cuts_made, take_kept}
use Rattle.lsm_store.proofs.Works.{stopped_refuses, runs_then, works_refused}
use Rattle.lsm_store.proofs.working.take.Goals as goal

pub returns-in_err-check_running-clause-works : goal.returns-in_err-check_running-clause-works
returns-in_err-check_running-clause-works g c = λ medium cache.
    let old = view_of medium c.args.memory.now cache in
    let found = err_of c.from_residual.result _ c.from_residual.ensures.1 in
    subst (λ (r : Result (Option TakenJob) Refusal). Works old (Take c.args.asked) (reply_of taken_reply r) old) (sym found.1)
    (works_refused old (Take c.args.asked) found.0 (stopped_refuses (machine_of old) (Take c.args.asked) found.0 (c.in_err-check_running.ensures.refused ∙ ap Some (sym found.2))))

pub returns-in_err-has_next-clause-works : goal.returns-in_err-has_next-clause-works
returns-in_err-has_next-clause-works g c = λ medium cache.
    let m = c.args.memory.now in
    let old = view_of medium m cache in
    let found = err_of c.from_residual-in_err-has_next.result _ c.from_residual-in_err-has_next.ensures.1 in
    let is : found.0 ≡ Exhausted = found.2 ∙ c.in_err-has_next.ensures.refusals in
    let runs = runs_then (machine_of old) c.in_ok-check_running.ensures.refused in
    subst (λ (r : Result (Option TakenJob) Refusal). Works old (Take c.args.asked) (reply_of taken_reply r) old) (sym found.1)
    (subst (λ (e : Refusal). Works old (Take c.args.asked) (Refused e) old) (sym is)
    (take_past m medium cache runs c.args.asked (not c.is_empty-waits.result) (waits_told m c.requires c.is_empty-waits.result (c.is_empty-waits.ensures ∙ ap (λ (n : ℕ). n == 0) m.regions.closed.ok.0)) (c.in_err-has_next.ensures.exhausted.0 (ap (λ (e : Refusal). Err e) c.in_err-has_next.ensures.refusals))))

pub returns-then-not-branch-clause-works : goal.returns-then-not-branch-clause-works
returns-then-not-branch-clause-works g c = λ medium cache.
    let m = c.args.memory.now in
    let old = view_of medium m cache in
    take_free m medium cache (runs_then (machine_of old) c.in_ok-check_running.ensures.refused) c.args.asked (not c.is_empty-waits.result) (waits_told m c.requires c.is_empty-waits.result (c.is_empty-waits.ensures ∙ ap (λ (n : ℕ). n == 0) m.regions.closed.ok.0))
    (sym c.in_ok-has_next.ensures.given ∙ c.if-not-branch.true)

pub returns-in_err-cuts-clause-works : goal.returns-in_err-cuts-clause-works
returns-in_err-cuts-clause-works g c = λ medium cache.
    let m = c.args.memory.now in
    let old = view_of medium m cache in
    let found = err_of c.from_residual-in_err-cuts.result _ c.from_residual-in_err-cuts.ensures.1 in
    let has = sym c.in_ok-has_next.ensures.given ∙ c.if-not-branch.false in
    subst (λ (r : Result (Option TakenJob) Refusal). Works old (Take c.args.asked) (reply_of taken_reply r) old) (sym found.1)
    (subst (λ (e : Refusal). Works old (Take c.args.asked) (Refused e) old) (sym found.2)
    (take_short m medium cache (runs_then (machine_of old) c.in_ok-check_running.ensures.refused) c.args.asked (not c.is_empty-waits.result) (waits_told m c.requires c.is_empty-waits.result (c.is_empty-waits.ensures ∙ ap (λ (n : ℕ). n == 0) m.regions.closed.ok.0)) has
    (λ both. ok_no_err c.in_ok-has_next.field-0 Exhausted (c.in_ok-has_next.ensures.exhausted.1 both))))

pub take-requires-clause-cuts : goal.take-requires-clause-cuts
take-requires-clause-cuts g c = cuts_made c.args.memory.now c.requires c.in_ok-cuts.cuts.items c.in_ok-cuts.ensures

pub returns-clause-works : goal.returns-clause-works
returns-clause-works g c = λ medium cache.
    let m = c.args.memory.now in
    let old = view_of medium m cache in
    let e = c.take.ensures in
    let sealed = c.waiting-sealed.result in
    let told = told_is m c.requires c.deref.result.now c.deref.ensures.value (option_map (λ s. s.now) sealed) c.waiting-sealed.ensures in
    let waits = mapped_some (λ s. s.now) sealed ∙ ap is_some told ∙ told_waits m c.requires in
    let has = sym c.in_ok-has_next.ensures.given ∙ c.if-not-branch.false in
    take_told m medium cache (runs_then (machine_of old) c.in_ok-check_running.ensures.refused) c.args.asked (not c.is_empty-waits.result) (waits_told m c.requires c.is_empty-waits.result (c.is_empty-waits.ensures ∙ ap (λ (n : ℕ). n == 0) m.regions.closed.ok.0)) has
    (λ both. ok_no_err c.in_ok-has_next.field-0 Exhausted (c.in_ok-has_next.ensures.exhausted.1 both)) (is_some sealed) waits (sealed_versions (option_map (λ s. s.now) sealed)) c.in_ok-cuts.cuts.items c.in_ok-cuts.ensures
    (λ some. ap sealed_versions told ∙ told_sealed m c.requires (sym waits ∙ some)) c.take.result c.take.new.self e.given e.taken e.exhausted e.refusals e.unchanged

pub returns-clause-kept : goal.returns-clause-kept
returns-clause-kept g c =
    let e = c.take.ensures in
    take_kept c.args.memory.now c.requires (is_some c.waiting-sealed.result) c.args.asked (sealed_versions (option_map (λ s. s.now) c.waiting-sealed.result)) c.in_ok-cuts.cuts.items c.take.result c.take.new.self c.runs-runs.ensures.runs e.taken e.unchanged
