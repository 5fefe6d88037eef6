use Rattle.std.proofs.Common.{arith, subst, sym}
use Rattle.std.proofs.lemmas.Result.{err_from_is_err_and}
use Rattle.lsm_language.specs.Faults.{Reason}
use Rattle.lsmctl.specs.Dumping.{StopsDumping}
use Rattle.lsmctl.proofs.DumpingLaws.{dumping-exhausted, dumping-not_begun, dumping-onward, dumping-stops, dumping-through}
use Rattle.lsmctl.proofs.dumping.dump_rows.Goals as goal

pub returns-in_err-walk : goal.returns-in_err-walk
returns-in_err-walk g c =
    let p = err_from_is_err_and c.from_residual.result c.from_residual.ensures.1 in
    let output = g.O.Write.contents c.args.output.now in
    rw p.1 (subst (λ (reason : Reason). StopsDumping reason c.args.store.now output output) (sym p.2) (dumping-not_begun c.args.store.now output))

pub returns-then-not-branch : goal.returns-then-not-branch
returns-then-not-branch g c = dumping-through c.loop.counter _ _ _ _ _ _ _ _ _ c.if-not-branch.true c.loop.invariant c.in_ok-dump_page.ensures

pub loop-preserved : goal.loop-preserved
loop-preserved g c = dumping-onward c.loop.counter _ _ _ _ _ _ _ _ _ c.if-not-branch.false c.loop.invariant c.in_ok-dump_page.ensures

pub returns-in_err-dump_page : goal.returns-in_err-dump_page
returns-in_err-dump_page g c =
    let p = err_from_is_err_and c.from_residual-in_err-dump_page.result c.from_residual-in_err-dump_page.ensures.1 in
    rw (p.1, p.2) (dumping-stops c.loop.counter _ _ _ _ _ _ _ c.loop.invariant c.in_err-dump_page.ensures)

pub returns : goal.returns
returns g c = dumping-exhausted c.loop.counter _ _ _ _ _ (omega (arith, c.loop-test.false, c.loop.auto.counter-end)) c.loop.invariant
