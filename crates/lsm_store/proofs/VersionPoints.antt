-- The recovery points over tables are maps of all versions: those of the tables and of the batches.
use Rattle.std.proofs.Common.{◌≡◌, ℕ, suc, ◌+◌, ◌-◌, ◌≤◌, ◌<◌, List, [], ◌∷◌, ◌++◌, length, take, drop, Option, refl, sym, ◌∙◌, ap, arith}
use Rattle.std.proofs.lemmas.List.{length-drop, length-take-le, take-append-drop}
use Rattle.lsm_codec.specs.Keys.{Bytes}
use Rattle.lsm_codec.specs.Map.{Map, Operation, apply, apply_all}
use Rattle.lsm_codec.specs.Versions.{Version, newest}
use Rattle.lsm_device.specs.Disk.{Disk, seen}
use Rattle.lsm_mem.specs.EntryOrder.{with_batch, with_batches}
use Rattle.lsm_mem.specs.Versions.{NumberedAtMost, map_of}
use Rattle.lsm_mem.proofs.Maps.{map_of-newest}
use Rattle.lsm_mem.proofs.Newest.{newest-with_batch_newer}
use Rattle.lsm_mem.proofs.Replays.{with_batches-append}
use Rattle.lsm_open.specs.Image.{versions_in}
use Rattle.lsm_open.specs.Layout.{open_records, open_batches}
use Rattle.lsm_open.specs.LogRegions.{all_batches}
use Rattle.lsm_open.specs.Placements.{Placement, contents_for, closed_in, table_map, IsHeld}
use Rattle.lsm_open.specs.Tables.{table_versions}
use Rattle.lsm_root.proofs.Beginnings.{apply_all-append, take_sum}
use Rattle.lsm_open.proofs.FreeWrites.{tables_seen}
use Rattle.lsm_open.proofs.HeldRegions.{all_open, placed}
use Rattle.lsm_open.proofs.KeptRecords.{all_batches-append}
use Rattle.lsm_open.proofs.NewestFound.{newer_found, newest-append, map_of_batches}
use Rattle.lsm_open.proofs.TableFrames.{same_all_versions, numbered_tables}
use Rattle.lsm_machine.specs.StateMaps.{maps_from, points_of}
use Rattle.lsm_machine.specs.Promise.{beginnings, maps_after}
use Rattle.lsm_machine.specs.RecoveryPoints.{RecoveryPoints, batch_count}
use Rattle.lsm_machine.specs.State.{State}
use Rattle.lsm_store.specs.StoredTables.{IsStoredIn}
use Rattle.lsm_store.proofs.LeftStates.{all_within}
use Rattle.lsm_machine.proofs.Points.{count_beginnings}
use Rattle.lsm_store.proofs.StoredTables.{closed_seen}

abbrev Batches : Type 0
Batches = List (List Operation)

-- ---- later batches leave the maps at the counts before them

older_one : (k number : ℕ) (batch : List Operation) (vs tables : List Version) → k < number → map_of (with_batch number batch vs ++ tables) k ≡ map_of (vs ++ tables) k
older_one k number batch vs tables lt = map_of-newest k k (with_batch number batch vs ++ tables) (vs ++ tables) (λ q. same q)
  where
    same : (q : Bytes) → newest q k (with_batch number batch vs ++ tables) ≡ newest q k (vs ++ tables)
    same q =
        newest-append q k (with_batch number batch vs) tables
        ∙ ap (λ (o : Option Version). newer_found o (newest q k tables)) (newest-with_batch_newer k number batch q vs lt)
        ∙ sym (newest-append q k vs tables)

older_maps : (k n : ℕ) (batches : List (List Operation)) (vs tables : List Version) → k ≤ n → map_of (with_batches n batches vs ++ tables) k ≡ map_of (vs ++ tables) k
older_maps k n [] vs tables le = refl
older_maps k n (batch ∷ rest) vs tables le =
    older_maps k (n + 1) rest (with_batch (n + 1) batch vs) tables (omega (arith, le)) ∙ older_one k (n + 1) batch vs tables (omega (arith, le))

-- the map at each count from the base on
module _ (base : ℕ) (batches : List (List Operation)) (tables : List Version) (numbered : NumberedAtMost base tables) where
  abbrev pub all_versions : List Version
  all_versions = with_batches base batches [] ++ tables

  map_at_count : (k : ℕ) → k ≤ length batches → map_of (with_batches base batches [] ++ tables) (base + k) ≡ apply_all (map_of tables base) (take k batches)
  map_at_count k within =
      let first = take k batches in
      let more = drop k batches in
      let count : length first ≡ k = length-take-le k batches within in
      let split : with_batches base batches [] ≡ with_batches (base + length first) more (with_batches base first []) =
      ap (λ (bs : Batches). with_batches base bs []) (sym (take-append-drop k batches)) ∙ with_batches-append base first more [] in
      ap (λ (vs : List Version). map_of (vs ++ tables) (base + k)) split
      ∙ older_maps (base + k) (base + length first) more (with_batches base first []) tables (omega (arith, count))
      ∙ ap (λ (n : ℕ). map_of (with_batches base first [] ++ tables) (base + n)) (sym count)
      ∙ map_of_batches base first [] tables tt numbered

  later_maps : (c : ℕ) (m : Map) (rest : List (List Operation)) → ((i : ℕ) → i ≤ length rest → map_of (with_batches base batches [] ++ tables) (c + i) ≡ apply_all m (take i rest))
      → maps_after m rest ≡ maps_from (with_batches base batches [] ++ tables) (suc c) (length rest)
  later_maps c m [] each = refl
  later_maps c m (batch ∷ rest) each =
      let next : suc c ≡ c + 1 = omega arith in
      let here : apply m batch ≡ map_of all_versions (suc c) = sym (ap (map_of all_versions) next ∙ each 1 (omega arith)) in
      ap (λ (x : Map). x ∷ maps_after (apply m batch) rest) here
      ∙ ap (λ (l : List Map). map_of all_versions (suc c) ∷ l) (later_maps (suc c) (apply m batch) rest (λ i le. ap (map_of all_versions) (moved c i) ∙ each (suc i) (omega (arith, le))))
    where
      moved : (a b : ℕ) → suc a + b ≡ a + suc b
      moved a b = omega arith

  pub points_are : (j : ℕ) → j ≤ length batches → beginnings base (map_of tables base) batches j ≡ points_of (with_batches base batches [] ++ tables) (base + length batches) (base + j)
  points_are j within =
      let m = map_of tables base in
      let first : Map = apply_all m (take j batches) in
      let rest = drop j batches in
      let count : length rest ≡ (base + length batches) - (base + j) = omega (arith, length-drop j batches, within) in
      let each = (λ (i : ℕ) (le : i ≤ length rest). by j i within le) in
      ap (λ (l : List Map). made first l) (later_maps (base + j) first rest each ∙ ap (maps_from all_versions (suc (base + j))) count)
      ∙ ap (λ (x : Map). made x (maps_from all_versions (suc (base + j)) ((base + length batches) - (base + j)))) (sym (map_at_count j within))
    where
      made : Map → List Map → RecoveryPoints
      made first later = record { synced = base + j; first = first; later = later }

      by : (j i : ℕ) → j ≤ length batches → i ≤ length (drop j batches) → map_of (with_batches base batches [] ++ tables) ((base + j) + i) ≡ apply_all (apply_all (map_of tables base) (take j batches)) (take i (drop j batches))
      by j i within le =
          let together : (base + j) + i ≡ base + (j + i) = omega arith in
          ap (map_of all_versions) together
          ∙ map_at_count (j + i) (omega (arith, le, within, length-drop j batches))
          ∙ ap (apply_all (map_of tables base)) (take_sum j i batches)
          ∙ apply_all-append (map_of tables base) (take j batches) (take i (drop j batches))

-- ---- of a running store

module _ (p : Placement) (d : Disk) (held : IsHeld p d) where
  batches_seen : all_batches p.logs.log_sectors (seen d) (p.logs.closed ++ open_records p.logs.open_region) ≡ closed_in p d.stands ++ open_batches p.logs.open_region (seen d)
  batches_seen =
      let n = p.logs.log_sectors in
      all_batches-append n (seen d) p.logs.closed (open_records p.logs.open_region)
      ∙ ap (λ (t : Batches). t ++ all_batches n (seen d) (open_records p.logs.open_region)) (closed_seen p d held)
      ∙ ap (λ (t : Batches). closed_in p d.stands ++ t) (all_open n (seen d) p.logs.open_region (placed p.logs d p.logs.open_region held.opened))

  -- all versions that reads give
  versions_seen : versions_in p.logs.log_sectors (seen d) (contents_for p) ≡ with_batches p.logs.base (closed_in p d.stands ++ open_batches p.logs.open_region (seen d)) [] ++ table_versions p.logs.log_sectors d.stands p.tables
  versions_seen =
      let n = p.logs.log_sectors in
      ap (λ (bs : Batches). with_batches p.logs.base bs [] ++ table_versions n (seen d) p.tables) batches_seen
      ∙ ap (λ (vs : List Version). with_batches p.logs.base (closed_in p d.stands ++ open_batches p.logs.open_region (seen d)) [] ++ vs) (same_all_versions n (seen d) d.stands p.tables (tables_seen p d held))

pub stored_points : (p : Placement) (s : State) (d : Disk) → IsStoredIn p s d → s.points ≡ points_of (versions_in p.logs.log_sectors (seen d) (contents_for p)) (batch_count s.points) s.points.synced
stored_points p s d stored =
    let held = stored.carried.held in
    let n = p.logs.log_sectors in
    let stands = closed_in p d.stands ++ open_batches p.logs.open_region d.stands in
    let reads = closed_in p d.stands ++ open_batches p.logs.open_region (seen d) in
    let tables = table_versions n d.stands p.tables in
    let within : length stands ≤ length reads = all_within p d held in
    let count : batch_count s.points ≡ p.logs.base + length reads = ap batch_count stored.state.points ∙ count_beginnings p.logs.base (table_map p d.stands) reads (length stands) within in
    let synced : s.points.synced ≡ p.logs.base + length stands = ap (λ (r : RecoveryPoints). r.synced) stored.state.points in
    stored.state.points
    ∙ points_are p.logs.base reads tables (numbered_tables n p.logs.base d.stands p.tables held.tables.each) (length stands) within
    ∙ ap (λ (vs : List Version). points_of vs (p.logs.base + length reads) (p.logs.base + length stands)) (sym (versions_seen p d held))
    ∙ ap (λ (k : ℕ). points_of (versions_in n (seen d) (contents_for p)) k (p.logs.base + length stands)) (sym count)
    ∙ ap (λ (k : ℕ). points_of (versions_in n (seen d) (contents_for p)) (batch_count s.points) k) (sym synced)
