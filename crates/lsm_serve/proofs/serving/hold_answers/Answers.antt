use Rattle.std.proofs.Common.{◌∙◌, arith, ap, refl}
use Rattle.std.specs.Prelude.{is_some}
use Rattle.lsm_language.specs.Faults.{refusal}
use Rattle.std.proofs.lemmas.Result.{err_from_is_err_and}
use Rattle.lsm_serve.proofs.ServingLaws.{holding-begins, holding-ends, holding-exhausts, holding-fails, holding-more, held-untold, held-unwritten}
use Rattle.lsm_serve.proofs.AnsweringLaws.{answers_shown}
use Rattle.lsm_serve.proofs.serving.hold_answers.Goals as goal

pub loop-number-init : goal.loop-number-init
loop-number-init g c = holding-begins _ _ _ _ c.requires

pub returns-in_err-ahead : goal.returns-in_err-ahead
returns-in_err-ahead g c =
    let p = err_from_is_err_and c.from_residual.result c.from_residual.ensures.1 in
    rw (p.1, p.2) (holding-fails _ _ _ _ _ _ _ _ c.loop-number.invariant _ c.in_err-ahead.ensures.fails)

pub returns-in_default : goal.returns-in_default
returns-in_default g c = holding-ends _ _ _ _ _ _ _ _ c.loop-number.invariant _ _ _ (ap is_some c.in_default.is) c.in_ok-ahead.ensures.line

pub returns-in_err-hold_answer : goal.returns-in_err-hold_answer
returns-in_err-hold_answer g c =
    let p = err_from_is_err_and c.from_residual-in_err-hold_answer.result c.from_residual-in_err-hold_answer.ensures.1 in
    let added = rw c.in_err-hold_answer.was at c.hold_answer.ensures.added in
    rw p.1 (held-untold _ _ _ _ _ _ _ _ _ _ _ _ _ (ap is_some c.in-Some.is) c.loop-number.invariant c.in_ok-ahead.ensures.line
    (answers_shown _ _ _ _ c.hold_answer.ensures.answered c.deref.ensures.value c.hold_answer.ensures.answers) _ _ (p.2 ∙ ap refusal added.0) added.1)

pub returns-in_err-write_unless : goal.returns-in_err-write_unless
returns-in_err-write_unless g c =
    let p = err_from_is_err_and c.from_residual-in_err-write_unless.result c.from_residual-in_err-write_unless.ensures.1 in
    rw (p.1, p.2) (held-unwritten _ _ _ _ _ _ _ _ _ _ _ _ _ (ap is_some c.in-Some.is) c.loop-number.invariant c.in_ok-ahead.ensures.line
    (answers_shown _ _ _ _ c.hold_answer.ensures.answered c.deref.ensures.value c.hold_answer.ensures.answers) _ _ _ c.in_err-write_unless.ensures)

pub loop-number-preserved : goal.loop-number-preserved
loop-number-preserved g c =
    holding-more _ _ _ _ _ _ _ _ _ _ _ _ _ (ap is_some c.in-Some.is) c.loop-number.invariant c.in_ok-ahead.ensures.line
    (answers_shown _ _ _ _ c.hold_answer.ensures.answered c.deref.ensures.value c.hold_answer.ensures.answers) _ _ _ _ refl (rw c.in_ok-hold_answer.was at c.hold_answer.ensures.added) c.in_ok-write_unless.ensures

pub returns : goal.returns
returns g c = holding-exhausts _ _ _ _ _ _ _ _ c.loop-number.invariant _ refl (omega (arith, c.loop-number-test.false, c.loop-number.auto.number-end))
