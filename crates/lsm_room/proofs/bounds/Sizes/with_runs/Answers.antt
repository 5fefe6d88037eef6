use Rattle.std.proofs.Common.{◌≡◌, ◌+◌, List, ◌++◌, length, drop, sym, ap, subst, arith}
use Rattle.std.proofs.lemmas.List.{length-append}
use Rattle.std.proofs.lemmas.List.Sums.{sum_by-append}
use Rattle.lsm_levels.specs.Tables.{Table}
use Rattle.lsm_levels.specs.Levels.{all_tables}
use Rattle.lsm_policy.specs.Room.{blocks_of as blocks_in}
use Rattle.lsm_room.specs.Measuring.{AreRaised}
use Rattle.lsm_room.proofs.Raising.{raised_append, run_and_rest}
use Rattle.lsm_room.proofs.bounds.Sizes.with_runs.Goals as goal

pub loop-run-preserved : goal.loop-run-preserved
loop-run-preserved g c =
    let run : List Table = c.tables.result.now in
    let rest : List Table = all_tables (drop (c.loop-run.run-index + 1) c.args.runs.now) in
    let are : all_tables (drop c.loop-run.run-index c.args.runs.now) ≡ run ++ rest =
    subst (λ (r : List Table). all_tables (drop c.loop-run.run-index c.args.runs.now) ≡ r ++ rest) (sym c.tables.ensures.same) (run_and_rest c.args.runs.now c.loop-run.run-index c.run-item.result c.loop-run-test.true c.run-item.is) in
    record {
      entries = omega (arith, c.loop-run.invariant.entries, c.with_all-sizes.ensures.entries, ap (λ (ts : List Table). length ts) are, length-append run rest);
      space = omega (arith, c.loop-run.invariant.space, c.with_all-sizes.ensures.space, ap blocks_in are, sum_by-append (λ (t : Table). t.blocks) run rest);
      raised = λ new others.
          c.loop-run.invariant.raised new
          (subst (λ (ts : List Table). AreRaised c.loop-run.sizes ts new) (sym are)
          (raised_append run rest c.loop-run.sizes c.with_all-sizes.result new c.with_all-sizes.ensures.raised others));
    }
