-- A flush may be installed.
use Rattle.std.proofs.Common.{◌≡◌, ℕ, ◌+◌, ◌*◌, ◌≤◌, ◌<◌, ◌==◌, ◌&&◌, Bool, true, false, cond, List, [], ◌∷◌, ◌++◌, length, map, Some, None, refl, sym, ◌∙◌, ap, subst, arith, append_assoc, All}
use Rattle.std.specs.Prelude.{Option}
use Rattle.std.specs.List.{AllByRecursion}
use Rattle.std.proofs.lemmas.Bool.{eq-eqb}
use Rattle.std.proofs.lemmas.List.{length-append, map-append}
use Rattle.std.proofs.lemmas.List.Elements.{All-nil, All-cons, All-head, All-tail, All-append}
use Rattle.lsm_codec.specs.declared.table_record.TableRecord.{TableRecord}
use Rattle.lsm_codec.specs.Map.{Map, Operation, apply_all}
use Rattle.lsm_codec.specs.Pairs.{Pairwise}
use Rattle.lsm_codec.specs.Versions.{Version}
use Rattle.lsm_codec.proofs.Lists.{all_map}
use Rattle.lsm_device.specs.Areas.{area}
use Rattle.lsm_device.specs.Disk.{Disk, Write, seen, at_rest}
use Rattle.lsm_levels.specs.Orders.{IsVersionOrder}
use Rattle.lsm_log.specs.Opened.{is_above}
use Rattle.lsm_log.proofs.Epochs.{none_above_more}
use Rattle.lsm_mem.specs.EntryOrder.{with_batches}
use Rattle.lsm_mem.specs.Versions.{map_of, NumberedAtMost}
use Rattle.lsm_mem.proofs.Maps.{map_of-newest}
use Rattle.lsm_mem.specs.Versions.{joined}
use Rattle.lsm_root.specs.CrashState.{CrashState}
use Rattle.lsm_open.specs.LogRegions.{first_region, follow_on, one_if_some}
use Rattle.lsm_open.specs.Layout.{open_records, open_batches, IsClosed, IsLogAtIfOpen}
use Rattle.lsm_open.specs.Placements.{Placement, table_map, closed_in, IsHeld, Carries, state_with}
use Rattle.lsm_open.specs.Switching.{MayBeInstalled, pushed, flushed, left_flushed, IsNewestRun, AreFlushed}
use Rattle.lsm_open.specs.Tables.{blocks_at, versions_at, table_versions, IsTableAt, IsSameRun, AscendInRun, AreTables}
use Rattle.lsm_open.specs.declared.regions.OpenRegion.{OpenRegion}
use Rattle.lsm_root.proofs.Beginnings.{apply_all-append}
use Rattle.lsm_open.proofs.FreeWrites.{held_synced, present_synced}
use Rattle.lsm_open.proofs.HeldRegions.{BeginsAfter, begins_after}
use Rattle.lsm_open.proofs.InPlace.{same_newest_within}
use Rattle.lsm_open.proofs.NewestFound.{map_of_batches}
use Rattle.lsm_open.proofs.TableFrames.{numbered_tables}
use Rattle.lsm_open.proofs.VersionOrders.{flush_order}
use Rattle.lsm_table.specs.Outlines.{outline_of}
use Rattle.lsm_table.specs.Stored.{outline_at}

abbrev Sectors : Type 0
Sectors = List (List ℕ)

abbrev Batches : Type 0
Batches = List (List Operation)

abbrev Versions : Type 0
Versions = List Version

-- ---- lists of tables

module _ (n : ℕ) (c : Sectors) where
  pub table_versions-append : (xs ys : List TableRecord) → table_versions n c (xs ++ ys) ≡ table_versions n c xs ++ table_versions n c ys
  table_versions-append [] ys = refl
  table_versions-append (x ∷ xs) ys = ap (λ (l : Versions). versions_at n c x ++ l) (table_versions-append xs ys) ∙ sym (append_assoc (versions_at n c x) (table_versions n c xs) (table_versions n c ys))

  pub joined_versions : (ts : List TableRecord) → joined (map (versions_at n c) ts) ≡ table_versions n c ts
  joined_versions [] = refl
  joined_versions (t ∷ ts) = ap (λ (l : Versions). versions_at n c t ++ l) (joined_versions ts)

  pushed_versions : (ts : List TableRecord) → table_versions n c (map pushed ts) ≡ table_versions n c ts
  pushed_versions [] = refl
  pushed_versions (t ∷ ts) = ap (λ (l : Versions). versions_at n c t ++ l) (pushed_versions ts)

  pushed_places : (ts : List TableRecord) → map (versions_at n c) (map pushed ts) ≡ map (versions_at n c) ts
  pushed_places [] = refl
  pushed_places (t ∷ ts) = ap (λ (l : List Versions). versions_at n c t ∷ l) (pushed_places ts)

  -- what a table tells doesn't hang on its run
  outline_pushed : (t : TableRecord) (blocks : List (List ℕ)) → outline_at (pushed t) blocks ≡ outline_at t blocks
  unfolding outline_of
  outline_pushed t blocks = refl

  pushed_table : (low high : ℕ) → low ≤ high → (t : TableRecord) → IsTableAt n low c t → IsTableAt n high c (pushed t)
  pushed_table low high le t is = record {
    table = is.table;
    filter = is.filter;
    spelled = is.spelled;
    sorted = is.sorted;
    told = outline_pushed t (blocks_at n c t) ∙ is.told;
    members = is.members;
    numbered = all_map (λ v k. omega (arith, k, le)) (versions_at n c t) is.numbered;
    counted = is.counted;
  }

  pushed_tables : (low high : ℕ) → low ≤ high → (ts : List TableRecord) → All (IsTableAt n low c) ts → All (IsTableAt n high c) (map pushed ts)
  pushed_tables low high le [] each = All-nil (IsTableAt n high c)
  pushed_tables low high le (t ∷ ts) each =
      All-cons (IsTableAt n high c) (pushed t) (map pushed ts) (pushed_table low high le t (All-head (IsTableAt n low c) t ts each)) (pushed_tables low high le ts (All-tail (IsTableAt n low c) t ts each))

  same_run_by : (a b : ℕ) (k l : ℕ) (z : Bool) → cond z (a + 1) a ≡ cond z (b + 1) b → a ≡ b
  same_run_by a b k l true e = omega (arith, e)
  same_run_by a b k l false e = e

  -- what was of one run stays, and nothing else comes into it
  same_run_before : (t u : TableRecord) → IsSameRun (pushed t) (pushed u) → IsSameRun t u
  same_run_before t u (level, run) =
      let same : cond (t.level == 0) (t.run + 1) t.run ≡ cond (t.level == 0) (u.run + 1) u.run = run ∙ ap (λ (k : ℕ). cond (k == 0) (u.run + 1) u.run) (sym level) in
      (level, same_run_by t.run u.run 0 0 (t.level == 0) same)

  pushed_one : (t : TableRecord) (ts : List TableRecord) → All (AscendInRun n c t) ts → All (AscendInRun n c (pushed t)) (map pushed ts)
  pushed_one t [] all = All-nil (AscendInRun n c (pushed t))
  pushed_one t (u ∷ us) all =
      let here : AscendInRun n c t u = All-head (AscendInRun n c t) u us all in
      All-cons (AscendInRun n c (pushed t)) (pushed u) (map pushed us) (λ run. here (same_run_before t u run)) (pushed_one t us (All-tail (AscendInRun n c t) u us all))

  pushed_ascend : (ts : List TableRecord) → Pairwise (AscendInRun n c) ts → Pairwise (AscendInRun n c) (map pushed ts)
  pushed_ascend [] all = tt
  pushed_ascend (t ∷ ts) all = (pushed_one t ts all.0, pushed_ascend ts all.1)

  -- a pushed table is not in the newest run
  not_zero : (a : ℕ) (z : Bool) → z ≡ true → 0 ≡ cond z (a + 1) a → ⊥
  not_zero a true is e = omega (arith, e)
  not_zero a false is e = cc

  other_run : (t u : TableRecord) → IsNewestRun t → IsSameRun t (pushed u) → ⊥
  other_run t u newest (level, run) = not_zero u.run (u.level == 0) (eq-eqb u.level 0 (sym level ∙ newest.0)) (sym newest.1 ∙ run)

  others : (t : TableRecord) → IsNewestRun t → (us : List TableRecord) → All (AscendInRun n c t) (map pushed us)
  others t newest [] = All-nil (AscendInRun n c t)
  others t newest (u ∷ us) = All-cons (AscendInRun n c t) (pushed u) (map pushed us) (λ run. absurd (other_run t u newest run)) (others t newest us)

  both_ascend : (new old : List TableRecord) → All IsNewestRun new → Pairwise (AscendInRun n c) new → Pairwise (AscendInRun n c) old → Pairwise (AscendInRun n c) (new ++ map pushed old)
  both_ascend [] old newest first second = pushed_ascend old second
  both_ascend (t ∷ new) old newest first second = (
    All-append (AscendInRun n c t) new (map pushed old) first.0 (others t (All-head IsNewestRun t new newest) old),
    both_ascend new old (All-tail IsNewestRun t new newest) first.1 second,
  )

  -- the tables after a flush
  pub flushed_tables : (low high : ℕ) (new old : List TableRecord) → low ≤ high → AreTables n high new c → All IsNewestRun new → AllByRecursion (λ v. low < v.number) (table_versions n c new) → AreTables n low old c → AreTables n high (new ++ map pushed old) c
  flushed_tables low high new old le first newest later second = record {
    each = All-append (IsTableAt n high c) new (map pushed old) first.each (pushed_tables low high le old second.each);
    order = subst IsVersionOrder (sym (map-append (versions_at n c) new (map pushed old) ∙ ap (λ (l : List Versions). map (versions_at n c) new ++ l) (pushed_places old)))
        (flush_order low (map (versions_at n c) new) (map (versions_at n c) old) first.order second.order
        (subst (AllByRecursion (λ (v : Version). low < v.number)) (sym (joined_versions new)) later)
        (subst (NumberedAtMost low) (sym (joined_versions old)) (numbered_tables n low c old second.each)));
    ascend = both_ascend new old newest first.ascend second.ascend;
  }

-- ---- the placement after it

module _ (p : Placement) (c : Sectors) (next_table : ℕ) (new : List TableRecord) (held : IsHeld p (at_rest c)) (are : AreFlushed p c new) where
  abbrev q : Placement
  q = flushed p (length (closed_in p c)) next_table new

  follows_by : (o : Option OpenRegion) → BeginsAfter p.logs.base (closed_in p c) o → follow_on p.logs.log_sectors c ((p.logs.base + length (closed_in p c)) + 1) (open_records o) ≡ true
  follows_by (Some o) begins = ap (λ (b : Bool). b && true) (eq-eqb o.log.first ((p.logs.base + length (closed_in p c)) + 1) (omega (arith, begins)))
  follows_by None begins = refl

  opened_by : (o : Option OpenRegion) → IsLogAtIfOpen p.logs (at_rest c) o → IsLogAtIfOpen (flushed p (length (closed_in p c)) next_table new).logs (at_rest c) o
  opened_by (Some o) opened = record { region = opened.region; start = opened.start; sectors = opened.sectors; epoch = omega (arith, opened.epoch); is_open = opened.is_open }
  opened_by None opened = tt

  pub flush_held : IsHeld (flushed p (length (closed_in p c)) next_table new) (at_rest c)
  flush_held = record {
    inside = held.inside;
    closed = All-nil (IsClosed q.logs (at_rest c));
    follows = follows_by p.logs.open_region (begins_after p.logs.log_sectors p.logs.base c p.logs.closed p.logs.open_region held.follows);
    opened = opened_by p.logs.open_region held.opened;
    above = record {
      stands = none_above_more p.logs.generation (p.logs.generation + 1) (area first_region (3 * p.logs.log_sectors) c) (omega arith) held.above.stands;
      pends = All-nil (λ (w : Write). is_above (p.logs.generation + 1) w.bytes ≡ false);
    };
    tables = flushed_tables p.logs.log_sectors c p.logs.base (p.logs.base + length (closed_in p c)) new p.tables (omega arith) are.tables are.newest_run are.later held.tables;
    still = λ k t lt. refl;
  }

  -- the map of the tables is now that with the batches of the closed regions
  flush_map : table_map (flushed p (length (closed_in p c)) next_table new) c ≡ apply_all (table_map p c) (closed_in p c)
  flush_map =
      let n = p.logs.log_sectors in
      let done = closed_in p c in
      let high = p.logs.base + length done in
      let old = table_versions n c p.tables in
      ap (λ (vs : Versions). map_of vs high) (table_versions-append n c new (map pushed p.tables) ∙ ap (λ (vs : Versions). table_versions n c new ++ vs) (pushed_versions n c p.tables))
      ∙ map_of-newest high high (table_versions n c new ++ old) (with_batches p.logs.base done [] ++ old)
      (same_newest_within high [] (with_batches p.logs.base done []) (table_versions n c new) old are.kept).found
      ∙ map_of_batches p.logs.base done [] old tt (numbered_tables n p.logs.base c p.tables held.tables.each)

  -- the same count and map
  pub flush_state : (xs : Batches) → record (state_with p c xs) { closed = one_if_some xs; generation = p.logs.generation + 1 } ≡ state_with (flushed p (length (closed_in p c)) next_table new) c xs
  flush_state xs =
      let done = closed_in p c in
      let count : p.logs.base + length (done ++ xs) ≡ (p.logs.base + length done) + length xs = omega (arith, length-append done xs) in
      let none : one_if_some xs ≡ 0 + one_if_some xs = omega arith in
      ap (λ (k : ℕ). made k (apply_all (table_map p c) (done ++ xs)) (one_if_some xs)) count
      ∙ ap (λ (m : Map). made ((p.logs.base + length done) + length xs) m (one_if_some xs)) (apply_all-append (table_map p c) done xs ∙ ap (λ (m : Map). apply_all m xs) (sym flush_map))
      ∙ ap (λ (k : ℕ). made ((p.logs.base + length done) + length xs) (apply_all (table_map q c) xs) k) none
    where
      made : ℕ → Map → ℕ → CrashState
      made n m k = record { count = n; map = m; closed = k; generation = p.logs.generation + 1 }

pub flush_installs : (p : Placement) (d : Disk) (next_table : ℕ) (new : List TableRecord) → Carries d p → AreFlushed p (seen d) new
    → MayBeInstalled (flushed p (length (closed_in p (seen d))) next_table new) (left_flushed p d) d
flush_installs p d next_table new carried are =
    let held = held_synced p d carried.held in
    let reads = open_batches p.logs.open_region (seen d) in
    record {
      held = flush_held p (seen d) next_table new held are;
      left_is = ap (λ (x : CrashState). record x { closed = one_if_some reads; generation = p.logs.generation + 1 }) (sym (present_synced p d carried.held))
          ∙ flush_state p (seen d) next_table new held are reads;
    }
