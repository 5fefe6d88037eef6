use Rattle.std.proofs.Common.{length, ap, arith}
use Rattle.lsm_levels.proofs.OldestRuns.{kept_here, kept_before}
use Rattle.lsm_levels.proofs.levels.count_newer.Goals as goal

pub returns-in-None-checked_sub : goal.returns-in-None-checked_sub
returns-in-None-checked_sub g c =
    kept_here c.next.new.self.iter.rest.now c.loop-run.run-iterator.iter.rest.now c.args.runs.now c.in-Some.run'.now c.loop-run.kept c.loop-run.left c.args.tables c.loop-run.invariant c.in-Some.ensures.steps
    (omega (arith, c.in-None-checked_sub.ensures, ap length c.tables.ensures.same))

pub loop-run-preserved : goal.loop-run-preserved
loop-run-preserved g c =
    kept_before c.next.new.self.iter.rest.now c.loop-run.run-iterator.iter.rest.now c.args.runs.now c.in-Some.run'.now c.loop-run.kept c.loop-run.left c.args.tables c.loop-run.invariant c.in-Some.ensures.steps
    c.in-Some-checked_sub.rest (omega (arith, c.in-Some-checked_sub.ensures, ap length c.tables.ensures.same)) (omega (arith, c.in-Some-checked_sub.ensures, ap length c.tables.ensures.same))
