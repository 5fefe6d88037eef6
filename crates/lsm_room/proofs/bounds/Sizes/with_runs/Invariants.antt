use Rattle.std.proofs.Common.{◌≤◌, ◌+◌, ◌*◌, drop, length}
use Rattle.lsm_levels.specs.Levels.{all_tables}
use Rattle.lsm_room.specs.Measuring.{AreRaised}
use Rattle.lsm_room.specs.declared.bounds.Sizes.{Sizes}
use Rattle.lsm_policy.specs.Room.{blocks_of}
use Rattle.lsm_room.proofs.bounds.Sizes.with_runs.Given as goal

abbrev pub invariant-loop-run : goal.invariant-loop-run
invariant-loop-run g l = record {
  entries : l.sizes.entries + 3200 * length (all_tables (drop l.run-index l.runs)) ≤ l.fn.self.entries + 3200 * length (all_tables l.runs);
  space : l.sizes.«data» + blocks_of (all_tables (drop l.run-index l.runs)) ≤ l.fn.self.«data» + blocks_of (all_tables l.runs);
  raised : (new : Sizes) → AreRaised l.sizes (all_tables (drop l.run-index l.runs)) new → AreRaised l.fn.self (all_tables l.runs) new;
}
