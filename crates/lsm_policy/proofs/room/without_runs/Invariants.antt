use Rattle.std.proofs.Common.{◌≡◌, drop}
use Rattle.lsm_levels.specs.Levels.{all_tables}
use Rattle.lsm_policy.specs.Room.{blocks_of, left_of}
use Rattle.lsm_policy.proofs.room.without_runs.Given as goal

abbrev pub invariant-loop-run : goal.invariant-loop-run
invariant-loop-run g l = left_of l.left (blocks_of (all_tables (drop l.run-index l.runs))) ≡ left_of l.limit (blocks_of (all_tables l.runs))
