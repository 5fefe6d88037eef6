-- The data area of a store: just the extents of its tables, and of the outputs that its jobs write, are handed out.
use Rattle.std.specs.Prelude.{◌≡◌, ◌⊎◌, ◌<◌, ◌≤◌, ◌+◌, ◌==◌, ◌&&◌, ℕ, Bool, List, [], ◌∷◌, ◌++◌, length, filter}
use Rattle.std.specs.List.{AllByRecursion, list_any}
use Rattle.lsm_extent.specs.declared.extent.Extent.{Extent}
use Rattle.lsm_extent.specs.Area.{Area, IsPartition, covers, is_held}
use Rattle.lsm_levels.specs.Tables.{Table}
use Rattle.lsm_levels.specs.Levels.{all_tables, places}
use Rattle.lsm_levels.specs.Held.{AreRuns}
use Rattle.lsm_jobs.specs.Keeping.{AreKept}
use Rattle.lsm_jobs.specs.Placing.{extent_of, AreHandedOut}
use Rattle.lsm_jobs.specs.Slots.{Slots, slot_of, inputs_of, outputs_of}
use Rattle.lsm_machine.specs.Work.{WorkView}

-- whether two extents are one
abbrev pub is_same_extent : Extent → Extent → Bool
is_same_extent a b = (a.first == b.first) && (a.blocks == b.blocks)

-- how many of these extents are this one, and how many of these tables stand there
abbrev pub extents_like : Extent → List Extent → ℕ
extents_like e extents = length (filter (is_same_extent e) extents)

abbrev pub tables_like : Extent → List Table → ℕ
tables_like e tables = length (filter (λ t. is_same_extent e (extent_of t)) tables)

-- the outputs that jobs have placed
abbrev pub outputs_in : Slots → List Table
outputs_in [] = []
outputs_in (held ∷ rest) = outputs_of held ++ outputs_in rest

-- the tables of a store that have an extent: those in its levels, and the outputs that its jobs have placed
abbrev pub tables_placed : WorkView → List Table
tables_placed w = all_tables (places w.levels) ++ outputs_in w.jobs.slots

-- The extents that are handed out are just those of the tables, each once for each table.
pub record AreAccounted (w : WorkView) : Type 0 where
  pub each : (e : Extent) → extents_like e w.area.held ≡ tables_like e (tables_placed w)

-- how many of these tables have this number
abbrev pub tables_numbered : ℕ → List Table → ℕ
tables_numbered n tables = length (filter (λ t. t.number == n) tables)

-- No two of these tables have one number, and each number is below the next table's.
pub record AreNumbered (next_table : ℕ) (tables : List Table) : Type 0 where
  pub once : (n : ℕ) → tables_numbered n tables ≤ 1
  pub below : (n : ℕ) → next_table ≤ n → tables_numbered n tables ≡ 0

-- two tables have no block in common
abbrev pub LieApart : Table → Table → Type 0
LieApart t u = (t.start + t.blocks ≤ u.start) ⊎ (u.start + u.blocks ≤ t.start)

abbrev pub AllLieApart : List Table → Type 0
AllLieApart [] = Unit {0}
AllLieApart (t ∷ rest) = AllByRecursion (LieApart t) rest × AllLieApart rest

-- Of such tables each has an extent of its own in the area, and a block that is handed out is one of a table's.
pub record ArePlacedIn (tables : List Table) (area : Area) : Type 0 where
  pub out : AreHandedOut tables area
  pub apart : AllLieApart tables
  pub inside : AllByRecursion (λ t. (0 < t.blocks) × (t.start + t.blocks ≤ area.blocks)) tables
  pub only : (k : ℕ) → is_held area.held k ≡ list_any (λ t. covers k (extent_of t)) tables

-- So each block of the area is free, or in the extent of one table. What a job has placed may be given back, and what it takes in.
pub record AccountsLaw : Type 0 where
  pub placed : (w : WorkView) → AreAccounted w → IsPartition w.area → ArePlacedIn (tables_placed w) w.area
  pub outputs : (w : WorkView) (job : ℕ) → AreAccounted w → IsPartition w.area → AreHandedOut (outputs_of (slot_of job w.jobs.slots)) w.area
  pub inputs : (w : WorkView) (job : ℕ) → AreAccounted w → IsPartition w.area → AreRuns w.levels → AreKept w.levels w.jobs.next w.jobs.slots → AreHandedOut (inputs_of (slot_of job w.jobs.slots)) w.area
