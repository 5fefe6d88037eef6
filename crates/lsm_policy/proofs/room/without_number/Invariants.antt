use Rattle.std.proofs.Common.{◌≡◌, drop, length}
use Rattle.lsm_levels.specs.Levels.{all_tables}
use Rattle.lsm_policy.specs.Room.{left_of}
use Rattle.lsm_policy.proofs.room.without_number.Given as goal

abbrev pub invariant-loop-run : goal.invariant-loop-run
invariant-loop-run g l = left_of l.left (length (all_tables (drop l.run-index l.runs))) ≡ left_of l.limit (length (all_tables l.runs))
