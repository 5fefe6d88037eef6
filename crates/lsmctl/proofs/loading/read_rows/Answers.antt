use Rattle.std.proofs.Common.{ap, arith}
use Rattle.std.proofs.lemmas.Result.{err_from_is_err_and}
use Rattle.lsmctl.specs.declared.loading.Loading.{Loading}
use Rattle.lsmctl.proofs.LoadingLaws.{reading-begins, reading-not_taken}
use Rattle.lsmctl.proofs.ReadingLaws.{ends_when, more_when, no_row_when, reading-counted, reading-exhausted, reading-unread}
use Rattle.lsmctl.proofs.loading.read_rows.Goals as goal

pub loop-init : goal.loop-init
loop-init g c = (reading-begins _ _ _ c.requires, ap (λ (l : Loading). l.read) c.requires)

pub returns-then-not-branch : goal.returns-then-not-branch
returns-then-not-branch g c = ends_when _ _ _ _ _ _ _ _ c.if-not-branch.true c.loop.invariant.0 c.in_ok-next_line.ensures.line

pub loop-preserved : goal.loop-preserved
loop-preserved g c = (
  more_when _ _ _ _ _ _ _ _ _ _ _ _ c.if-not-branch.false c.loop.invariant.0 c.in_ok-next_line.ensures.line c.deref.ensures.value c.in_ok-row.ensures c.in_ok-take.ensures,
  reading-counted _ _ _ _ _ _ _ _ _ c.loop.invariant.0 c.in_ok-take.ensures c.loop.invariant.1,
)

pub returns-in_err-next_line : goal.returns-in_err-next_line
returns-in_err-next_line g c =
    let p = err_from_is_err_and c.from_residual.result c.from_residual.ensures.1 in
    rw (p.1, p.2) (reading-unread _ _ _ _ _ _ c.loop.invariant.0 c.in_err-next_line.ensures.fails)

pub returns-in_err-row : goal.returns-in_err-row
returns-in_err-row g c =
    let p = err_from_is_err_and c.from_residual-in_err-row.result c.from_residual-in_err-row.ensures.1 in
    rw (p.1, p.2) (no_row_when _ _ _ _ _ _ _ _ _ _ c.if-not-branch.false c.loop.invariant.0 c.in_ok-next_line.ensures.line c.deref.ensures.value c.in_err-row.ensures)

pub returns-in_err-take : goal.returns-in_err-take
returns-in_err-take g c =
    let p = err_from_is_err_and c.from_residual-in_err-take.result c.from_residual-in_err-take.ensures.1 in
    rw p.1 (reading-not_taken _ _ p.0 _ _ _ _ _ _ c.loop.invariant.0 p.2 c.in_err-take.ensures)

pub returns : goal.returns
returns g c = reading-exhausted _ _ _ _ _ c.loop.counter (omega (arith, c.loop-test.false, c.loop.auto.counter-end)) c.loop.invariant.0 c.loop.invariant.1
