use Rattle.std.proofs.Common.{List, take}
use Rattle.lsm_codec.specs.Versions.{Version}
use Rattle.lsm_levels.specs.Orders.{IsNewerPlace}
use Rattle.lsm_check.specs.Seen.{IsSeen}
use Rattle.lsm_check.proofs.seen.Seen.are_older.Given as goal

abbrev pub invariant-loop-entry : goal.invariant-loop-entry
invariant-loop-entry g l = (versions : List Version) → IsSeen versions l.self → IsNewerPlace versions (take l.entry-index l.entries)
