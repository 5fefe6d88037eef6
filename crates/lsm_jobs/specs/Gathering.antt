-- What is read of a merge's tables, before it is merged.
use Rattle.std.specs.Prelude.{◌≡◌, ℕ, zero, suc, ◌+◌, ◌-◌, ◌*◌, ◌<◌, Bool, true, false, not, ltb, IsTrue, List, [], ◌∷◌, ◌++◌, length, map, filter, take, drop, min, sum_by, Result, Ok, if◌then◌else◌}
use Rattle.std.specs.List.{flat_map, list_all}
use Rattle.lsm_device.specs.declared.refusal.Refusal.{Refusal}
use Rattle.lsm_device.specs.Calls.{AtMost, faults_after}
use Rattle.lsm_device.specs.Medium.{Medium}
use Rattle.lsm_codec.specs.Versions.{Version, AreOrdered}
use Rattle.lsm_codec.specs.Entries.{entries_in}
use Rattle.lsm_table.specs.Places.{stands_before}
use Rattle.lsm_merge.specs.Inputs.{MergeInput}
use Rattle.lsm_levels.specs.Tables.{Table, is_below, versions_of}
use Rattle.lsm_levels.specs.Asking.{OnlyReads, sector_of}
use Rattle.lsm_levels.specs.Stored.{blocks_from}

-- how many data blocks tables have
abbrev pub data_blocks : List Table → ℕ
data_blocks tables = sum_by (λ t. length t.outline.edges) tables

-- whether a table is the last of its run, where these come after it
abbrev pub ends_run : Table → List Table → Bool
ends_run t [] = true
ends_run t (u ∷ rest) = not (is_below t.last u.first)

-- runs with a table before them: a run of its own, or with the first of them
abbrev pub with_first : Bool → Table → List (List Table) → List (List Table)
with_first true t runs = (t ∷ []) ∷ runs
with_first false t [] = (t ∷ []) ∷ []
with_first false t (run ∷ runs) = (t ∷ run) ∷ runs

-- the runs that tables are, one after the other: one ends where the next table doesn't begin after its last one
abbrev pub ascending_runs : List Table → List (List Table)
ascending_runs [] = []
ascending_runs (t ∷ rest) = with_first (ends_run t rest) t (ascending_runs rest)

-- how many tables the first run has
abbrev pub run_length : List Table → ℕ
run_length [] = 0
run_length (t ∷ rest) = if ends_run t rest then 1 else suc (run_length rest)

-- the data blocks of tables as they stand in sectors, in order, where the data area begins with the sector `area`
abbrev pub blocks_in : List (List ℕ) → ℕ → List Table → List (List ℕ)
blocks_in sectors area [] = []
blocks_in sectors area (t ∷ rest) = blocks_from sectors (sector_of area t 0) (length t.outline.edges) ++ blocks_in sectors area rest

-- what blocks encode, one entry after the other; invalid bytes are a refusal
abbrev pub items_in : List (List ℕ) → List (Result Version Refusal)
items_in blocks = flat_map entries_in blocks

-- A run goes on with items, to a new end: none of them is a refusal, and the run with them at its end is in the order of entries.
pub record GoesOn (run : List Version) (items : List (Result Version Refusal)) (new : List Version) : Type 0 where
  pub entries : List Version
  pub spelled : items ≡ map Ok entries
  pub whole : new ≡ run ++ entries
  pub ordered : AreOrdered new

-- the new list is the old one, perhaps with more after it
pub record IsLonger (old new : List Version) : Type 0 where
  pub more : List Version
  pub whole : new ≡ old ++ more

-- At most this number of blocks was read, and nothing else was done to a device: `ok` is false just where a call faulted, which
-- was the last one. A device of which no block was to be read wasn't touched.
pub record ReadsBlocks (blocks : ℕ) (ok : Bool) (old new : Medium) : Type 0 where
  pub calls : AtMost (8 * blocks) 0 0 old.calls new.calls
  pub faults : new.calls.faults ≡ faults_after ok old.calls.faults
  pub stops : ok ≡ false → IsTrue new.calls.last_faulted
  pub only_reads : OnlyReads old new
  pub untouched : blocks ≡ 0 → new ≡ old
  pub some : ok ≡ false → 0 < blocks

-- the versions of a table in its data blocks from one on: those that the edges of all blocks before it stand before
abbrev pub versions_from : ℕ → Table → List Version
versions_from i t = filter (λ v. list_all (stands_before v.key v.number) (take i t.outline.edges)) t.versions

-- the versions of tables after their first d data blocks
abbrev pub versions_behind : ℕ → List Table → List Version
versions_behind zero tables = versions_of tables
versions_behind (suc d) [] = []
versions_behind (suc d) (t ∷ rest) = if ltb (suc d) (length t.outline.edges) then versions_from (suc d) t ++ versions_of rest else versions_behind (suc d - length t.outline.edges) rest

-- What was read of a merge so far: the entries of each run of its tables, from the first `done` data blocks; with the cuts of
-- its taking, and its bottom flag.
pub record ReadSoFar : Type 0 where
  pub runs : List (List Version)
  pub done : ℕ
  pub cuts : List ℕ
  pub bottom : Bool

-- nothing is read yet of these tables
abbrev pub none_gathered : List Table → List ℕ → Bool → ReadSoFar
none_gathered tables cuts bottom = record { runs = map (λ run. []) (ascending_runs tables); done = 0; cuts = cuts; bottom = bottom }

-- the input that what was read is
abbrev pub whole_input : ReadSoFar → MergeInput
whole_input g = record { runs = g.runs; cuts = g.cuts; bottom = g.bottom }

-- runs, each followed by what the versions of its tables say of their data blocks, where the first d of all are passed
abbrev pub runs_ahead : ℕ → List (List Table) → List (List Version) → List (List Version)
runs_ahead d [] runs = runs
runs_ahead d (tables ∷ rest) [] = []
runs_ahead d (tables ∷ rest) (run ∷ runs) = (run ++ versions_behind d tables) ∷ runs_ahead (d - data_blocks tables) rest runs

-- the input that it will be: what was read, followed by what the versions of the tables say of the blocks that are left
abbrev pub input_ahead : List Table → ReadSoFar → MergeInput
input_ahead tables g = whole_input (record g { runs = runs_ahead g.done (ascending_runs tables) g.runs })

-- how many data blocks are left
abbrev pub blocks_left : List Table → ReadSoFar → ℕ
blocks_left tables g = data_blocks tables - g.done

-- what the data blocks of tables spell, those from one place on up to another
abbrev pub items_between : List (List ℕ) → ℕ → ℕ → ℕ → List Table → List (Result Version Refusal)
items_between sectors area from to tables = items_in (take (to - from) (drop from (blocks_in sectors area tables)))

-- Runs go on, each with what the blocks of its tables spell, those from one place on up to another, counted over the tables of
-- all runs.
abbrev pub RunsGoOn : List (List ℕ) → ℕ → ℕ → ℕ → List (List Table) → List (List Version) → List (List Version) → Type 0
RunsGoOn sectors area from to [] [] [] = Unit {0}
RunsGoOn sectors area from to (tables ∷ rest) (run ∷ runs) (new ∷ news) = GoesOn run (items_between sectors area from to tables) new × RunsGoOn sectors area (from - data_blocks tables) (to - data_blocks tables) rest runs news
RunsGoOn sectors area from to others runs news = ⊥

-- how many data blocks are read after a step: eight more, or all
abbrev pub next_done : List Table → ReadSoFar → ℕ
next_done tables g = min (data_blocks tables) (g.done + 8)

-- Each run goes on with what the data blocks of a step spell.
abbrev pub AllGoOn : List (List ℕ) → ℕ → List Table → ReadSoFar → ReadSoFar → Type 0
AllGoOn sectors area tables old new = RunsGoOn sectors area old.done (next_done tables old) (ascending_runs tables) old.runs new.runs

-- What is gathered after a step has as many runs.
pub record IsNext (tables : List Table) (old new : ReadSoFar) : Type 0 where
  pub done : new.done ≡ next_done tables old
  pub same_count : length new.runs ≡ length old.runs
  pub same_cuts : new.cuts ≡ old.cuts
  pub same_bottom : new.bottom ≡ old.bottom

-- of each list the first entries, as many as its number says
abbrev pub fronts : List ℕ → List (List Version) → List (List Version)
fronts [] runs = []
fronts (n ∷ counts) [] = []
fronts (n ∷ counts) (run ∷ runs) = take n run ∷ fronts counts runs

-- With some entries more in each run, or none.
pub record IsGrown (old new : ReadSoFar) : Type 0 where
  pub same_count : length new.runs ≡ length old.runs
  pub runs : fronts (map length old.runs) new.runs ≡ old.runs
  pub same_cuts : new.cuts ≡ old.cuts
  pub same_bottom : new.bottom ≡ old.bottom
