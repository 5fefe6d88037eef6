-- An opening leaves the work standing for the state, with no job.
use Rattle.std.proofs.Common.{◌≡◌, ◌⊎◌, inl, inr, ⊎_elim, ℕ, zero, suc, ◌+◌, ◌<◌, ◌≤◌, false, cond, nat_lt, List, [], ◌∷◌, ◌++◌, length, map, Option, Some, None, option_map, is_some, refl, sym, ap, ◌∙◌, subst, arith}
use Rattle.std.specs.Prelude.{nat_le, ◌↔◌}
use Rattle.std.specs.List.{AllByRecursion}
use Rattle.std.proofs.lemmas.Bool.{false≢true, cond-true, cond-false, lt-ltb, le-ltb, le-leb}
use Rattle.std.proofs.lemmas.List.{length-append}
use Rattle.lsm_codec.specs.Geometry.{data_blocks_of}
use Rattle.lsm_codec.specs.Map.{Map}
use Rattle.lsm_codec.specs.Versions.{Version, AreOrdered}
use Rattle.lsm_codec.specs.declared.log_record.LogRecord.{LogRecord}
use Rattle.lsm_codec.specs.declared.table_record.TableRecord.{TableRecord}
use Rattle.lsm_codec.proofs.Lists.{all_append}
use Rattle.lsm_device.specs.Disk.{Disk, seen, written}
use Rattle.lsm_extent.specs.Area.{Area}
use Rattle.lsm_mem.specs.Versions.{map_of, sealed_versions}
use Rattle.lsm_mem.specs.Versions.{joined}
use Rattle.lsm_levels.specs.Among.{IsAmong}
use Rattle.lsm_levels.specs.Tables.{Table, IsRun, versions_of}
use Rattle.lsm_levels.specs.Levels.{Levels, all_tables, level, places}
use Rattle.lsm_levels.specs.Orders.{IsNewerPlace, IsVersionOrder}
use Rattle.lsm_levels.specs.Held.{HasVersion, IsRanged}
use Rattle.lsm_levels.specs.Stored.{IsStored, AreStored}
use Rattle.lsm_levels.proofs.Members.{among_either}
use Rattle.lsm_levels.proofs.Ranges.{of_all}
use Rattle.lsm_levels.proofs.RunOrders.{stored_ranged}
use Rattle.lsm_levels.proofs.Taking.{newer_than, place_of_level}
use Rattle.lsm_jobs.specs.Slots.{Slot, no_jobs}
use Rattle.lsm_open.specs.Answered.{IsNewRegionIfOpen}
use Rattle.lsm_root.specs.CrashState.{CrashState}
use Rattle.lsm_open.specs.Layout.{open_records, open_batches}
use Rattle.lsm_open.specs.LogRegions.{one_if_some}
use Rattle.lsm_open.specs.Placements.{Placement, closed_in}
use Rattle.lsm_open.specs.Recovering.{IsRecovered, AreWithinLimits}
use Rattle.lsm_open.specs.Tables.{first_data}
use Rattle.lsm_open.specs.ToldTables.{records_of, Held}
use Rattle.lsm_open.specs.declared.regions.OpenRegion.{OpenRegion}
use Rattle.lsm_levels.proofs.LevelVersions.{all_versions}
use Rattle.lsm_machine.specs.Crash.{reopened}
use Rattle.lsm_machine.specs.State.{OpenLog, are_waiting}
use Rattle.lsm_store.specs.Stored.{open_log_of}
use Rattle.lsm_machine.specs.Work.{WorkView, Work, Take, Read, Ask, Accept, Write, Install, Drop, versions_in}
use Rattle.lsm_machine.specs.WorkMaps.{IsUnique}
use Rattle.lsm_machine.specs.WorkSound.{IsSound, IsServed}
use Rattle.lsm_store.specs.OpenedWork.{opened_work, opened_machine, OpenedLaw}
use Rattle.lsm_machine.specs.Machine.{Machine}
use Rattle.lsm_store.proofs.CallSounds.{unique_ordered}
use Rattle.lsm_store.proofs.InstalledMaps.{table_versions, in_has}
use Rattle.lsm_store.proofs.States.{made_same}
use Rattle.lsm_machine.proofs.StateMaps.{alone, points_alone}
use Rattle.lsm_levels.proofs.ScanViews.{runs_ordered}

-- ---- versions in their places

none_newer : (ps : List (List Version)) → AllByRecursion (IsNewerPlace []) ps
none_newer [] = tt
none_newer (p ∷ ps) = (tt, none_newer ps)

-- what holds of each version of places
in_joined : (P : Version → Type 0) (ps : List (List Version)) → AllByRecursion (AllByRecursion P) ps → (v : Version) → IsAmong v (joined ps) → P v
in_joined P [] h v a = absurd a
in_joined P (p ∷ ps) h v a = ⊎_elim (λ b. of_all P p h.0 v b) (λ b. in_joined P ps h.1 v b) (among_either v p (joined ps) a)

-- a version in a newer place has the greater number
newer_joined : (p : List Version) (ps : List (List Version)) → AllByRecursion (IsNewerPlace p) ps → (v w : Version) → IsAmong v p → IsAmong w (joined ps) → v.key ≡ w.key → w.number < v.number
newer_joined p [] h v w a b key = absurd b
newer_joined p (q ∷ qs) h v w a b key = ⊎_elim (λ c. newer_than p q v w h.0 a c key) (λ c. newer_joined p qs h.1 v w a c key) (among_either w q (joined qs) b)

-- in places that are in order, each in the order of entries, no two are of one key and number
unique_joined : (ps : List (List Version)) → AllByRecursion AreOrdered ps → IsVersionOrder ps → IsUnique (joined ps)
unique_joined [] each order v w a b key number = absurd a
unique_joined (p ∷ ps) each order v w a b key number =
    by (λ c e. unique_joined ps each.1 order.1 v w c e key number) (among_either v p (joined ps) a) (among_either w p (joined ps) b)
  where
    by : (IsAmong v (joined ps) → IsAmong w (joined ps) → v ≡ w) → IsAmong v p ⊎ IsAmong v (joined ps) → IsAmong w p ⊎ IsAmong w (joined ps) → v ≡ w
    by older (inl c) (inl e) = unique_ordered p each.0 v w c e key number
    by older (inl c) (inr e) = let less = newer_joined p ps order.0 v w c e key in absurd (omega (arith, less, number))
    by older (inr c) (inl e) = let less = newer_joined p ps order.0 w v e c (sym key) in absurd (omega (arith, less, number))
    by older (inr c) (inr e) = older c e

-- ---- tables that stand

stored_in : (sectors : List (List ℕ)) (area : ℕ) (runs : List (List Table)) → AreStored sectors area runs → (t : Table) → IsAmong t (all_tables runs) → IsStored sectors area t
stored_in sectors area [] stored t a = absurd a
stored_in sectors area (r ∷ rest) stored t a = ⊎_elim (λ b. of_all (IsStored sectors area) r stored.0 t b) (λ b. stored_in sectors area rest stored.1 t b) (among_either t r (all_tables rest) a)

-- ---- no job

some_none : (s : Slot) → Some s ≡ None → ⊥
some_none s e = cc

none_some : (s : Slot) → None ≡ Some s → ⊥
none_some s e = cc

no_slot : (s : Slot) → IsAmong (Some s) no_jobs.slots → ⊥
no_slot s a = ⊎_elim (some_none s) (λ b. ⊎_elim (some_none s) (λ c. ⊎_elim (some_none s) (λ e. ⊎_elim (some_none s) (λ none. none) e) c) b) a

-- ---- the open log, and what is closed

abbrev log_at : ℕ → ℕ → OpenLog
log_at first used = record { first = first; used = used }

-- a log that holds no batch is open unless all three regions are closed
open_log_is : (size log_sectors generation count : ℕ) (closed : List LogRecord) (o : Option OpenRegion) → (o ≡ None → length closed ≡ 3) → length (closed ++ open_records o) ≤ 3 → IsNewRegionIfOpen size log_sectors generation count o
    → option_map open_log_of o ≡ cond (nat_lt (length closed) 3) (Some (log_at (count + 1) 0)) None
open_log_is size log_sectors generation count closed (Some o) full few inside =
    let room : length closed < 3 = omega (arith, few, length-append closed (open_records (Some o))) in
    ap (λ (n : ℕ). Some (log_at n o.log.used)) inside.new_log.first ∙ ap (λ (n : ℕ). Some (log_at (count + 1) n)) inside.new_log.used
    ∙ sym (cond-true (nat_lt (length closed) 3) (Some (log_at (count + 1) 0)) None (lt-ltb (length closed) 3 room))
open_log_is size log_sectors generation count closed None full few inside = sym (cond-false (nat_lt (length closed) 3) (Some (log_at (count + 1) 0)) None (le-ltb (length closed) 3 (omega (arith, full refl))))

-- memory is sealed exactly where a region is closed
waits_if : (closed : ℕ) (sealed : Option (List Version)) → (sealed ≡ None) ↔ (closed ≡ 0) → nat_le 1 closed ≡ is_some sealed
waits_if zero sealed either = ap (λ (o : Option (List Version)). is_some o) (sym (either.1 refl))
waits_if (suc n) (Some versions) either = le-leb 1 (suc n) (omega arith)
waits_if (suc n) None either = absurd (omega (arith, either.0 refl))

nothing_sealed : (sealed : Option (List Version)) → is_some sealed ≡ false → sealed_versions sealed ≡ []
nothing_sealed None e = refl
nothing_sealed (Some versions) e = absurd (false≢true (sym e))

module _ (size log_sectors count : ℕ) (left : CrashState) (p : Placement) (sealed : Option (List Version)) (levels : Levels) (extents : Area) (d : Disk)
    (within : AreWithinLimits size p count sealed levels extents) (is : IsRecovered log_sectors left p count sealed levels d) where
  abbrev w : WorkView
  w = opened_work p sealed levels extents

  abbrev m : Machine
  m = opened_machine p count sealed levels extents

  -- ---- what was left

  base_low : p.logs.base ≤ count
  base_low = let all : p.logs.base + length (closed_in p d.stands ++ open_batches p.logs.open_region (seen d)) ≡ left.count = ap (λ (x : CrashState). x.count) is.present in omega (arith, all, is.count_is)

  reads_stand : seen d ≡ d.stands
  reads_stand = ap (written d.stands) is.rests

  none_open : open_batches p.logs.open_region (seen d) ≡ []
  none_open = ap (open_batches p.logs.open_region) reads_stand ∙ is.empty

  closed_is : length p.logs.closed ≡ left.closed
  closed_is =
      let all : length p.logs.closed + one_if_some (open_batches p.logs.open_region (seen d)) ≡ left.closed = ap (λ (x : CrashState). x.closed) is.present in
      let none : one_if_some (open_batches p.logs.open_region (seen d)) ≡ 0 = ap one_if_some none_open in
      omega (arith, all, none)

  map_is : map_of (versions_in w) count ≡ left.map
  map_is = ap (λ (vs : List Version). map_of (sealed_versions sealed ++ vs) count) (sym (all_versions (places levels))) ∙ is.same_map

  log_is : option_map open_log_of p.logs.open_region ≡ cond (nat_lt left.closed 3) (Some (log_at (left.count + 1) 0)) None
  log_is =
      open_log_is size p.logs.log_sectors p.logs.generation count p.logs.closed p.logs.open_region is.all_closed.0 within.manifest.numbers.logs within.opened
      ∙ ap (λ (n : ℕ). cond (nat_lt n 3) (Some (log_at (count + 1) 0)) None) closed_is
      ∙ ap (λ (n : ℕ). cond (nat_lt left.closed 3) (Some (log_at (n + 1) 0)) None) is.count_is

  state_is : m.state ≡ reopened log_sectors left
  state_is = made_same _ _ _ _ _ _ _ _ _ _ _ _ _ _ _ _
      (ap (λ (x : Map). alone count x) map_is ∙ ap (λ (n : ℕ). alone n left.map) is.count_is)
      is.log_size closed_is log_is (ap (λ (x : CrashState). x.generation) is.present) refl refl refl

  -- ---- where the versions are

  tabled_is : (v : Version) → HasVersion levels v → v.number ≤ p.logs.base
  tabled_is v a = in_joined (λ (u : Version). u.number ≤ p.logs.base) (map versions_of (places levels)) is.tabled v (in_has levels v a)

  sealed_is : (v : Version) → IsAmong v (sealed_versions sealed) → v.number ≤ count
  sealed_is v a = let below : v.number < count + 1 = of_all (λ (u : Version). u.number < count + 1) (sealed_versions sealed) within.numbered v a in omega (arith, below)

  numbered_is : (v : Version) → IsAmong v (versions_in w) → v.number ≤ count
  numbered_is v a = ⊎_elim
      (λ b. sealed_is v b)
      (λ b. let low : v.number ≤ p.logs.base = in_joined (λ (u : Version). u.number ≤ p.logs.base) (map versions_of (places levels)) is.tabled v b in omega (arith, low, base_low))
      (among_either v (sealed_versions sealed) (table_versions (places levels)) a)

  ordered_is : AllByRecursion AreOrdered (map versions_of (places levels))
  ordered_is = runs_ordered (seen d) (first_data log_sectors) (places levels) (all_append IsRun levels.runs levels.deeper within.runs.runs within.runs.deeper) is.stored

  ranged_is : (k : ℕ) (t : Table) → IsAmong t (level levels k) → IsRanged t
  ranged_is k t a = stored_ranged (seen d) (first_data log_sectors) t (stored_in (seen d) (first_data log_sectors) (places levels) is.stored t (place_of_level levels k t a))

  -- ---- all of it

  waits_is : are_waiting m.state ≡ is_some sealed
  waits_is = waits_if (length p.logs.closed) sealed within.sealed_if

  sound_is : IsSound m
  sound_is = record {
    tied = record {
      versions = record {
        unique = unique_joined (sealed_versions sealed ∷ map versions_of (places levels)) (within.ordered, ordered_is) is.order;
        order = (none_newer (sealed_versions sealed ∷ map versions_of (places levels)), is.order);
        runs = within.runs;
        ranges = ranged_is;
      };
      ordered = tt;
      maps = record {
        count = count;
        synced = count;
        within = omega arith;
        points = sym (points_alone (versions_in w) count);
        snapshots = λ snapshot a. absurd a;
      };
      numbered = numbered_is;
      settled = sealed_is;
      tabled = λ v a. let low = tabled_is v a in omega (arith, low, base_low);
    };
    waiting = record {
      none_waits = λ none. nothing_sealed sealed (sym waits_is ∙ none);
      flush_waits = λ s a flush. absurd (no_slot s a);
      no_log = λ none. refl;
    };
    ready = record {
      kept = record {
        held = λ s a. absurd (no_slot s a);
        apart = λ s u a b other. absurd (no_slot s a);
        given = λ s a. absurd (no_slot s a);
        numbered = tt;
      };
      jobs = λ s a. absurd (no_slot s a);
      outputs = λ s a writes. absurd (no_slot s a);
    };
  }

  served_is : (work : Work) → IsServed m work
  served_is (Take asked) = tt
  served_is (Read job) = tt
  served_is (Ask job) = tt
  served_is (Accept job result) = λ slot new held placed. absurd (none_some slot held)
  served_is (Write job) = tt
  served_is (Install job) = tt
  served_is (Drop job) = tt

pub opened_law : OpenedLaw
opened_law size log_sectors count left p sealed levels extents d within is = record {
  state = state_is size log_sectors count left p sealed levels extents d within is;
  sound = sound_is size log_sectors count left p sealed levels extents d within is;
  served = served_is size log_sectors count left p sealed levels extents d within is;
  waits = waits_is size log_sectors count left p sealed levels extents d within is;
  tabled = tabled_is size log_sectors count left p sealed levels extents d within is;
  later = λ v a. of_all (λ (u : Version). p.logs.base < u.number) (sealed_versions sealed) is.later v a;
  numbers = within.numbers;
  extents = subst (λ (n : ℕ). Held (data_blocks_of size n) (records_of levels) extents) is.log_size (subst (λ (ts : List TableRecord). Held (data_blocks_of size p.logs.log_sectors) ts extents) (sym within.named) within.held);
}
