-- How large tables are together, by their numbers, and how large the outputs of their merge are.
use Rattle.std.specs.Prelude.{◌≡◌, ◌<◌, ◌≤◌, ◌⊎◌, ℕ, ◌+◌, ◌-◌, ◌*◌, ◌/◌, Bool, true, false, List, [], ◌∷◌, ◌++◌, length, ltb, if◌then◌else◌}
use Rattle.std.specs.List.{AllByRecursion}
use Rattle.std.specs.Int.{div_ceil}
use Prim.Native.Nat.{min, max}
use Rattle.lsm_codec.specs.Versions.{Version, AreOrdered}
use Rattle.lsm_table.specs.BlockCounts.{block_count}
use Rattle.lsm_table.specs.Division.{TableBlocks, IsTable, IsTables}
use Rattle.lsm_codec.specs.Keys.{Bytes}
use Rattle.lsm_merge.specs.Divisions.{AreTablesAt}
use Rattle.lsm_merge.specs.Keeping.{keep}
use Rattle.lsm_levels.specs.Tables.{Table, IsRun, versions_of}
use Rattle.lsm_levels.specs.Sizes.{AreAtMost}
use Rattle.lsm_room.specs.Outputs.{StandsDivided, AreCuts, TakeAtMost}
use Rattle.lsm_room.specs.declared.bounds.Outputs.{Outputs}
use Rattle.lsm_room.specs.declared.bounds.Sizes.{Sizes}

-- a sum, or the greatest number of 64 bits
abbrev pub sum_up_to : ℕ → ℕ → ℕ
sum_up_to a b = min (a + b) 18446744073709551615

-- how many of a table's entries may be large, where none has more bytes: a put in each block at most
abbrev pub large_of : ℕ → Table → ℕ
large_of most t = if ltb 2047 most then min (t.outline.entries - t.deletes) (length t.outline.edges) else 0

-- Sizes were raised by those of a table.
pub record IsRaised (old : Sizes) (t : Table) (new : Sizes) : Type 0 where
  pub most : ℕ
  pub at_most : AreAtMost most t.versions
  pub entries : new.entries ≡ sum_up_to old.entries t.outline.entries
  pub deletes : new.deletes ≡ sum_up_to old.deletes t.deletes
  pub blocks : new.«data» ≡ sum_up_to old.«data» (length t.outline.edges)
  pub large : new.large ≡ sum_up_to old.large (large_of most t)
  pub largest : new.largest ≡ max old.largest most

-- Sizes were raised by those of tables, one after the other.
abbrev pub AreRaised : Sizes → List Table → Sizes → Type 0
AreRaised old [] new = new ≡ old
AreRaised old (t ∷ tables) new = (between : Sizes) × IsRaised old t between × AreRaised between tables new

-- those of no table
abbrev pub no_sizes : Sizes
no_sizes = record { entries = 0; deletes = 0; «data» = 0; large = 0; largest = 0 }

-- Sizes are those of tables.
abbrev pub AreSizes : List Table → Sizes → Type 0
AreSizes tables sizes = AreRaised no_sizes tables sizes

-- ---- what images take

-- how many images there are at most of `blocks` data blocks and `entries` entries: with a live snapshot up to 33 entries may have one key
abbrev pub most_images : Bool → ℕ → ℕ → ℕ
most_images live blocks entries =
    if live then entries / 3168 + ((blocks + entries / 3168) / 31 + 1) else entries / 3200 + ((blocks + entries / 3200) / 63 + 1)

-- `images` images of `blocks` data blocks take no more than these outputs, and each no more than the largest
pub record Hold (blocks images : ℕ) (outputs : Outputs) : Type 0 where
  pub all : blocks + (div_ceil (264 * blocks) 4096 + 3 * images) ≤ outputs.blocks
  pub each : min blocks 64 + (div_ceil (264 * min blocks 64) 4096 + 2) ≤ outputs.largest

-- So do the images of `entries` entries that take `blocks` data blocks in one table, where the outputs are below 2^32.
abbrev pub HoldImages : Bool → ℕ → ℕ → Outputs → Type 0
HoldImages live blocks entries outputs = outputs.blocks < 4294967296
    → Hold (blocks + (most_images live blocks entries - 1)) (most_images live blocks entries) outputs

-- ---- what a merge makes

-- Tables are in the sectors of a device, and these are their sizes.
pub record HaveSizes (sectors : List (List ℕ)) (from : ℕ) (tables : List Table) (sizes : Sizes) : Type 0 where
  pub stand : AllByRecursion (StandsDivided sectors from) tables
  pub are : AreSizes tables sizes

-- Images are those of what is kept of versions.
pub record AreOfKept (cuts : List ℕ) (bottom : Bool) (versions : List Version) (images : List TableBlocks) : Type 0 where
  pub tables : IsTables (keep cuts bottom versions) images
  pub each : AllByRecursion IsTable images

-- Outputs are enough for a merge that keeps at most `entries` entries, which take at most `blocks` data blocks in one table.
abbrev pub AreEnoughFor : Bool → ℕ → ℕ → Outputs → Type 0
AreEnoughFor live blocks entries outputs = outputs.blocks < 4294967296 → (cuts : List ℕ) (bottom : Bool) (versions : List Version) (images : List TableBlocks) → AreCuts live cuts → AreOfKept cuts bottom versions images
    → block_count (keep cuts bottom versions) ≤ blocks → length (keep cuts bottom versions) ≤ entries → TakeAtMost outputs.blocks outputs.largest images

-- Outputs are enough for what a merge makes of a run with these sizes.
abbrev pub AreEnough : Bool → Sizes → Outputs → Type 0
AreEnough live sizes outputs = outputs.blocks < 4294967296 → (sectors : List (List ℕ)) (from : ℕ) (tables : List Table) → HaveSizes sectors from tables sizes → AreOrdered (versions_of tables)
    → (cuts : List ℕ) (bottom : Bool) (images : List TableBlocks) → AreCuts live cuts → AreOfKept cuts bottom (versions_of tables) images → TakeAtMost outputs.blocks outputs.largest images

-- They are enough for what it makes of upper tables over a run below. Where it drops deletes, no snapshot is live, and nothing is below.
abbrev pub AreEnoughOver : Bool → Bool → Sizes → Sizes → Outputs → Type 0
AreEnoughOver live drops upper lower outputs = outputs.blocks < 4294967296 → (sectors : List (List ℕ)) (from : ℕ) (uppers lowers : List Table)
    → HaveSizes sectors from uppers upper → HaveSizes sectors from lowers lower → AreOrdered (versions_of lowers)
    → (cuts : List ℕ) (bottom : Bool) (images : List TableBlocks) → AreCuts live cuts → (drops ≡ true → (live ≡ false) × (bottom ≡ true))
    → AreOfKept cuts bottom (versions_of (uppers ++ lowers)) images → TakeAtMost outputs.blocks outputs.largest images

-- Outputs are enough for what a merge makes of upper tables over lower ones: by the sizes of both, or where there is no lower table, by those
-- of the upper ones, which are a run.
pub record AreMerged (live drops : Bool) (uppers lowers : List Table) (outputs : Outputs) : Type 0 where
  pub upper : Sizes
  pub lower : Sizes
  pub upper_sizes : AreSizes uppers upper
  pub lower_sizes : AreSizes lowers lower
  pub enough : AreEnoughOver live drops upper lower outputs ⊎ ((lower.«data» ≡ 0) × (AreEnough live upper outputs × IsRun uppers))

-- Outputs are enough for what a rewrite makes of one table that is cut at a key.
abbrev pub AreEnoughAt : Bool → Bytes → Table → Outputs → Type 0
AreEnoughAt live key t outputs = outputs.blocks < 4294967296 → (sectors : List (List ℕ)) (from : ℕ) → StandsDivided sectors from t
    → (cuts : List ℕ) (bottom : Bool) (images : List TableBlocks) → AreCuts live cuts → AreTablesAt (key ∷ []) (keep cuts bottom (versions_of (t ∷ []))) images → AllByRecursion IsTable images
    → TakeAtMost outputs.blocks outputs.largest images

-- outputs cover two others together
pub record AreBeside (first second both : Outputs) : Type 0 where
  pub all : first.blocks + second.blocks ≤ both.blocks
  pub each : (first.largest ≤ both.largest) × (second.largest ≤ both.largest)
