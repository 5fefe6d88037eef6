use Rattle.std.proofs.Common.{◌≤◌, ◌+◌, ◌*◌, drop, length}
use Rattle.lsm_room.specs.Measuring.{AreRaised}
use Rattle.lsm_room.specs.declared.bounds.Sizes.{Sizes}
use Rattle.lsm_policy.specs.Room.{blocks_of}
use Rattle.lsm_room.proofs.bounds.Sizes.with_all.Given as goal

abbrev pub invariant-loop-table : goal.invariant-loop-table
invariant-loop-table g l = record {
  entries : l.sizes.entries + 3200 * length (drop l.table-index l.tables) ≤ l.fn.self.entries + 3200 * length l.tables;
  space : l.sizes.«data» + blocks_of (drop l.table-index l.tables) ≤ l.fn.self.«data» + blocks_of l.tables;
  raised : (new : Sizes) → AreRaised l.sizes (drop l.table-index l.tables) new → AreRaised l.fn.self l.tables new;
}
