-- The tables in levels stay on the device.
use Rattle.std.proofs.Common.{◌≡◌, ℕ, zero, suc, ◌+◌, ◌*◌, ◌≤◌, Bool, List, [], ◌∷◌, length, get_or, map, take, Option, Some, None, sym, ◌∙◌, ap, subst, arith, All}
use Rattle.std.specs.List.{AllByRecursion}
use Rattle.std.proofs.lemmas.List.Elements.{All-head, All-tail}
use Rattle.lsm_codec.specs.TableRecords.{extent_blocks}
use Rattle.lsm_codec.specs.declared.table_record.TableRecord.{TableRecord}
use Rattle.lsm_codec.proofs.Lists.{all_append, all_left, all_right, all_filter, all_map}
use Rattle.lsm_device.specs.Disk.{Disk, seen}
use Rattle.lsm_levels.specs.Among.{IsAmong}
use Rattle.lsm_levels.specs.Asking.{sector_of}
use Rattle.lsm_levels.specs.Held.{IsHeld, IsUpper}
use Rattle.lsm_levels.specs.Levels.{Levels, all_tables, level, places, newer_runs, with_level, replaced, merged_at, reach}
use Rattle.lsm_levels.specs.NamedBlocks.{HasSameBlocks}
use Rattle.lsm_levels.specs.Pick.{Job, Flush, Merge, inputs, installed_levels}
use Rattle.lsm_levels.specs.Stored.{blocks_from, IsStored, AreStored}
use Rattle.lsm_levels.specs.Tables.{Table, KeyRange, is_below, put_at, record_of}
use Rattle.lsm_levels.proofs.OldestRuns.{all_newer, oldest_all}
use Rattle.lsm_levels.proofs.Ranges.{all_of, of_all}
use Rattle.lsm_levels.proofs.Runs.{all_or, all_set, upper_among}
use Rattle.lsm_merge.specs.Inputs.{AreRuns}
use Rattle.lsm_jobs.specs.Slots.{Slot}
use Rattle.lsm_jobs.specs.StoredJobs.{HasStored}
use Rattle.lsm_open.specs.Placements.{Placement}
use Rattle.lsm_open.specs.Tables.{first_data, extent_start, extent_at}
use Rattle.lsm_open.specs.ToldTables.{records_of_runs, records_of_levels, records_of}
use Rattle.lsm_open.proofs.BlockReads.{extent_is, some_blocks}
use Rattle.lsm_store.proofs.UpperRuns.{all_in_runs}
use Rattle.lsm_store.specs.StoredTables.{KeepsExtents}
use Rattle.lsm_table.specs.Stored.{table_of}

abbrev Sectors : Type 0
Sectors = List (List ℕ)

-- ---- where the extents hold the same

module _ (n : ℕ) (c e : Sectors) where
  abbrev SameExtent : TableRecord → Type 0
  SameExtent t = extent_at n c t ≡ extent_at n e t

  -- so it is of a table's record in whatever level and run
  abbrev SameAt : Table → Type 0
  SameAt t = SameExtent (record_of 0 0 t)

  -- the data blocks are the first of the extent
  front_blocks : (s : Sectors) (t : Table) → blocks_from s (sector_of (first_data n) t 0) (length t.outline.edges) ≡ take (length t.outline.edges) (blocks_from (extent_at n s (record_of 0 0 t)) 0 (extent_blocks (record_of 0 0 t)))
  front_blocks s t =
      let x : TableRecord = record_of 0 0 t in
      let at : sector_of (first_data n) t 0 ≡ extent_start n x + 8 * 0 = omega arith in
      let few : 0 + length t.outline.edges ≤ extent_blocks x = omega arith in
      ap (λ (k : ℕ). blocks_from s k (length t.outline.edges)) at ∙ sym (some_blocks s (extent_start n x) (extent_blocks x) 0 (length t.outline.edges) few)
      ∙ ap (take (length t.outline.edges)) (sym (extent_is n s x))

  same_blocks : (t : Table) → SameAt t → HasSameBlocks (first_data n) e c t
  same_blocks t same = front_blocks c t ∙ ap (λ (s : Sectors). take (length t.outline.edges) (blocks_from s 0 (extent_blocks (record_of 0 0 t)))) same ∙ sym (front_blocks e t)

  same_stored : (t : Table) → SameAt t → IsStored e (first_data n) t → IsStored c (first_data n) t
  same_stored t same is = record {
    blocks = is.blocks;
    spelled = ap table_of (same_blocks t same) ∙ is.spelled;
    sorted = is.sorted;
    told = is.told;
    members = is.members;
  }

  all_same : (runs : List (List Table)) → AllByRecursion (AllByRecursion SameAt) runs → AreStored e (first_data n) runs → AreStored c (first_data n) runs
  all_same [] same stored = tt
  all_same (run ∷ rest) same stored = (one run same.0 stored.0, all_same rest same.1 stored.1)
    where
      one : (ts : List Table) → AllByRecursion SameAt ts → AllByRecursion (IsStored e (first_data n)) ts → AllByRecursion (IsStored c (first_data n)) ts
      one [] same stored = tt
      one (t ∷ ts) same stored = (same_stored t same.0 stored.0, one ts same.1 stored.1)

  all_blocks : (runs : List (List Table)) → AllByRecursion (AllByRecursion SameAt) runs → AllByRecursion (HasSameBlocks (first_data n) e c) (all_tables runs)
  all_blocks [] same = tt
  all_blocks (run ∷ rest) same = all_append (HasSameBlocks (first_data n) e c) run (all_tables rest) (all_map same_blocks run same.0) (all_blocks rest same.1)

  -- ---- the tables of records

  by_each : (ts : List TableRecord) → All SameExtent ts → AllByRecursion SameExtent ts
  by_each [] all = tt
  by_each (t ∷ ts) all = (All-head SameExtent t ts all, by_each ts (All-tail SameExtent t ts all))

  of_run : (lev run : ℕ) (ts : List Table) → AllByRecursion SameExtent (map (record_of lev run) ts) → AllByRecursion SameAt ts
  of_run lev run [] all = tt
  of_run lev run (t ∷ ts) all = (all.0, of_run lev run ts all.1)

  of_runs : (run : ℕ) (runs : List (List Table)) → AllByRecursion SameExtent (records_of_runs run runs) → AllByRecursion (AllByRecursion SameAt) runs
  of_runs run [] all = tt
  of_runs run (ts ∷ rest) all =
      (of_run 0 run ts (all_left SameExtent (map (record_of 0 run) ts) (records_of_runs (suc run) rest) all), of_runs (suc run) rest (all_right SameExtent (map (record_of 0 run) ts) (records_of_runs (suc run) rest) all))

  of_levels : (lev : ℕ) (runs : List (List Table)) → AllByRecursion SameExtent (records_of_levels lev runs) → AllByRecursion (AllByRecursion SameAt) runs
  of_levels lev [] all = tt
  of_levels lev (ts ∷ rest) all =
      (of_run lev 0 ts (all_left SameExtent (map (record_of lev 0) ts) (records_of_levels (suc lev) rest) all), of_levels (suc lev) rest (all_right SameExtent (map (record_of lev 0) ts) (records_of_levels (suc lev) rest) all))

  of_places : (levels : Levels) → All SameExtent (records_of levels) → AllByRecursion (AllByRecursion SameAt) (places levels)
  of_places levels same =
      let all = by_each (records_of levels) same in
      all_append (AllByRecursion SameAt) levels.runs levels.deeper
      (of_runs 0 levels.runs (all_left SameExtent (records_of_runs 0 levels.runs) (records_of_levels 1 levels.deeper) all))
      (of_levels 1 levels.deeper (all_right SameExtent (records_of_runs 0 levels.runs) (records_of_levels 1 levels.deeper) all))

  pub same_levels : (levels : Levels) → All SameExtent (records_of levels) → AreStored e (first_data n) (places levels) → AreStored c (first_data n) (places levels)
  same_levels levels same stored = all_same (places levels) (of_places levels same) stored

  pub level_blocks : (levels : Levels) → All SameExtent (records_of levels) → AllByRecursion (HasSameBlocks (first_data n) e c) (all_tables (places levels))
  level_blocks levels same = all_blocks (places levels) (of_places levels same)

-- the records of levels have what a placement keeps
extents_kept : (p : Placement) (levels : Levels) (old new : Disk) → records_of levels ≡ p.tables → KeepsExtents p old new → All (SameExtent p.logs.log_sectors (seen new) (seen old)) (records_of levels)
extents_kept p levels old new named kept = subst (All (SameExtent p.logs.log_sectors (seen new) (seen old))) (sym named) kept

pub levels_kept : (p : Placement) (levels : Levels) (old new : Disk) → records_of levels ≡ p.tables → KeepsExtents p old new → AreStored (seen old) (first_data p.logs.log_sectors) (places levels)
    → AreStored (seen new) (first_data p.logs.log_sectors) (places levels)
levels_kept p levels old new named kept stored =
    same_levels p.logs.log_sectors (seen new) (seen old) levels (extents_kept p levels old new named kept) stored

pub blocks_kept : (p : Placement) (levels : Levels) (old new : Disk) → records_of levels ≡ p.tables → KeepsExtents p old new
    → AllByRecursion (HasSameBlocks (first_data p.logs.log_sectors) (seen old) (seen new)) (all_tables (places levels))
blocks_kept p levels old new named kept = level_blocks p.logs.log_sectors (seen new) (seen old) levels (extents_kept p levels old new named kept)

-- ---- what holds of each table in levels

module _ (P : Table → Type 0) (levels : Levels) (all : AllByRecursion (AllByRecursion P) (places levels)) where
  newer : AllByRecursion (AllByRecursion P) levels.runs
  newer = all_left (AllByRecursion P) levels.runs levels.deeper all

  deeper : AllByRecursion (AllByRecursion P) levels.deeper
  deeper = all_right (AllByRecursion P) levels.runs levels.deeper all

  -- holds of what a merge takes in
  pub uppers_have : (i : ℕ) (upper : List Table) → IsUpper levels i upper → AllByRecursion P upper
  uppers_have i [] is = tt
  uppers_have zero (u ∷ us) is = subst (AllByRecursion P) (sym is.all) (all_in_runs P is.oldest (oldest_all (AllByRecursion P) levels.runs (u ∷ us) is newer).1)
  uppers_have (suc i) (u ∷ us) is = all_of P (u ∷ us) (λ t a. of_all P (level levels (suc i)) (all_or (AllByRecursion P) levels.deeper i [] deeper tt) t (upper_among levels i (u ∷ us) is t a))

  pub lowers_have : (i : ℕ) (lower : List Table) → ((t : Table) → IsAmong t lower → IsAmong t (level levels (suc i))) → AllByRecursion P lower
  lowers_have i lower among = all_of P lower (λ t a. of_all P (level levels (suc i)) (all_or (AllByRecursion P) levels.deeper i [] deeper tt) t (among t a))

module _ (P : Table → Type 0) (new : List Table) (made : AllByRecursion P new) where
  put_have : (r : KeyRange) (put xs : List Table) → AllByRecursion P put → AllByRecursion P xs → AllByRecursion P (put_at r put xs)
  put_have r put xs those all =
      all_append P _ _ (all_filter P (λ t. is_below t.last r.first) xs all) (all_append P _ _ those (all_filter P (λ t. is_below r.last t.first) xs all))

  abbrev Have : Levels → Type 0
  Have levels = AllByRecursion (AllByRecursion P) (places levels)

  level_have : (i : ℕ) (r : KeyRange) (put : List Table) (levels : Levels) → AllByRecursion P put → Have levels → Have (with_level i r put levels)
  level_have zero r put levels those all = all
  level_have (suc i) r put levels those all =
      let below = deeper P levels all in
      all_append (AllByRecursion P) levels.runs _ (newer P levels all)
      (all_set (AllByRecursion P) levels.deeper i (put_at r put (get_or levels.deeper i [])) below (put_have r put (get_or levels.deeper i []) those (all_or (AllByRecursion P) levels.deeper i [] below tt)))

  pub replaced_have : (i : ℕ) (r : KeyRange) (tables : ℕ) (levels : Levels) → Have levels → Have (replaced i r tables new levels)
  replaced_have i r zero levels all = level_have (suc i) r new levels made all
  replaced_have zero r (suc more) levels all =
      level_have 1 r new (record levels { runs = newer_runs (suc more) levels.runs }) made
      (all_append (AllByRecursion P) _ levels.deeper (all_newer (AllByRecursion P) (suc more) levels.runs (newer P levels all)) (deeper P levels all))
  replaced_have (suc i) r (suc more) levels all = level_have (suc i) r [] (with_level (suc (suc i)) r new levels) tt (level_have (suc (suc i)) r new levels made all)

  merged_have : (i : ℕ) (o : Option KeyRange) (tables : ℕ) (levels : Levels) → Have levels → Have (merged_at i o tables new levels)
  merged_have i (Some r) tables levels all = replaced_have i r tables levels all
  merged_have i None tables levels all = all

  -- holds of each after an install, where it holds of the outputs
  pub installed_have : (levels : Levels) (job : Job) → Have levels → Have (installed_levels levels job new)
  installed_have levels Flush all = (made, all)
  installed_have levels (Merge i upper lower) all = merged_have i (reach upper lower) (length upper) levels all

pub levels_installed : (sectors : Sectors) (area : ℕ) (levels : Levels) (job : Job) (new : List Table) → AreStored sectors area (places levels) → AllByRecursion (IsStored sectors area) new → AreStored sectors area (places (installed_levels levels job new))
levels_installed sectors area levels job new stored made = installed_have (IsStored sectors area) new made levels job stored

pub jobs_have : (P : Table → Type 0) (levels : Levels) (bottom : Bool) (job : Job) → AllByRecursion (AllByRecursion P) (places levels) → IsHeld levels bottom job → AllByRecursion P (inputs job)
jobs_have P levels bottom Flush all held = tt
jobs_have P levels bottom (Merge i upper lower) all held = all_append P upper lower (uppers_have P levels all i upper held.uppers) (lowers_have P levels all i lower held.lowers)

pub jobs_stored : (sectors : Sectors) (area : ℕ) (levels : Levels) (slot : Slot) → AreStored sectors area (places levels) → IsHeld levels slot.input.bottom slot.job → AreRuns slot.input.runs → HasStored sectors area slot
jobs_stored sectors area levels slot stored held ordered =
    record { tables = jobs_have (IsStored sectors area) levels slot.input.bottom slot.job stored held; ordered = ordered }
