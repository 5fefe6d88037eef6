use Rattle.std.proofs.Common.{refl, sym}
use Rattle.lsm_levels.proofs.Ranges.{no}
use Rattle.lsm_levels.proofs.RunTests.{run_refused, run_ended}
use Rattle.lsm_levels.proofs.run.is_run.Goals as goal

pub returns-then-not-stands_before : goal.returns-then-not-stands_before
returns-then-not-stands_before g c = (
  λ h. absurd (no (sym h)),
  λ r. absurd (run_refused c.args.tables.now c.loop-i.i c.loop-i.invariant c.index-tables-i.result c.stands_before.result c.loop-i-test.true c.index-tables-i.is c.stands_before.ensures c.if-not-stands_before.true r),
)

pub returns : goal.returns
returns g c = (λ _. run_ended c.args.tables.now c.loop-i.i c.loop-i.invariant c.loop-i-test.false, λ _. refl)
