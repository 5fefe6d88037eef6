use Rattle.std.proofs.Common.{◌≡◌, ◌++◌, take, drop}
use Rattle.lsm_store.proofs.next_levels.set_levels.Given as goal

abbrev pub invariant-loop-below : goal.invariant-loop-below
invariant-loop-below g l = l.levels ≡ record { runs = l.fn.levels.runs; deeper = take l.below l.deeper ++ drop l.below l.fn.levels.deeper }
