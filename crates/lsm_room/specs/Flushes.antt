-- What flushes of memory make, and that they leave blocks free.
use Rattle.std.specs.Prelude.{ℕ, ◌+◌, ◌<◌, ◌≤◌, Bool, List}
use Rattle.lsm_codec.specs.Versions.{Version}
use Rattle.lsm_mem.specs.Sizes.{Covers}
use Rattle.lsm_mem.specs.declared.size.MemSize.{MemSize}
use Rattle.lsm_table.specs.Division.{TableBlocks}
use Rattle.lsm_table.specs.BlockCounts.{extent_blocks}
use Rattle.lsm_room.specs.Measuring.{AreOfKept}
use Rattle.lsm_room.specs.Outputs.{AreCuts, TakeAtMost}
use Rattle.lsm_room.specs.declared.bounds.Outputs.{Outputs}

-- Images are those that a flush makes of versions, where a snapshot is live or none is.
pub record AreFlushed (live : Bool) (versions : List Version) (images : List TableBlocks) : Type 0 where
  pub cuts : List ℕ
  pub bottom : Bool
  pub are_cuts : AreCuts live cuts
  pub are_kept : AreOfKept cuts bottom versions images

-- Whatever versions a size covers, a flush makes no more of them than these outputs.
abbrev pub FlushTakes : Bool → MemSize → Outputs → Type 0
FlushTakes live size outputs = outputs.blocks < 4294967296
    → (versions : List Version) (images : List TableBlocks) → Covers versions size → AreFlushed live versions images → TakeAtMost outputs.blocks outputs.largest images

-- Of `free` free blocks the flushes of what waits and of the memtable leave `spare`.
abbrev pub LeaveFree : ℕ → ℕ → Bool → List Version → List Version → Type 0
LeaveFree spare free live waiting versions = (first images : List TableBlocks) → AreFlushed live waiting first → AreFlushed live versions images → extent_blocks first + extent_blocks images + spare ≤ free

-- That holds whatever versions these sizes cover.
abbrev pub FlushesLeave : ℕ → ℕ → Bool → MemSize → MemSize → Type 0
FlushesLeave spare free live waiting memory = (old versions : List Version) → Covers old waiting → Covers versions memory → LeaveFree spare free live old versions
