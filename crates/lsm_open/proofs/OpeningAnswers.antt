-- What an opening is refused for, and how often it reads, writes and syncs.
use Rattle.std.proofs.Common.{◌≡◌, ◌≢◌, ◌⊎◌, inl, inr, ℕ, zero, suc, ◌+◌, ◌*◌, ◌≤◌, ◌==◌, Bool, true, false, cond, IsTrue, List, [], ◌∷◌, length, Some, None, refl, sym, ◌∙◌, ap, subst, arith}
use Rattle.std.specs.Prelude.{◌↔◌, Option}
use Rattle.std.proofs.lemmas.Bool.{eq-eqb, ne_eqb, cond-true, cond-false}
use Rattle.std.proofs.lemmas.List.{append-nil}
use Rattle.lsm_codec.specs.declared.log_record.LogRecord.{LogRecord}
use Rattle.lsm_codec.specs.Manifests.{Contents, IsManifest, sector_count}
use Rattle.lsm_codec.specs.Map.{Operation}
use Rattle.lsm_codec.specs.Versions.{Version, IsEntry, AreOrdered}
use Rattle.std.specs.List.{AllByRecursion}
use Rattle.lsm_device.specs.Calls.{AtMost, after_sync, faults_after, more}
use Rattle.lsm_device.specs.declared.calls.Calls.{Calls}
use Rattle.lsm_device.specs.Medium.{Medium}
use Rattle.lsm_device.specs.Refusals.{is_no_fault}
use Rattle.lsm_device.specs.declared.refusal.Refusal.{Refusal}
use Rattle.lsm_device.specs.declared.refusal.Refusal.TheVariants.{NoMemory, Io, BadManifest, Exhausted}
use Rattle.lsm_device.proofs.Counting.{none_made, AtMost-joined, AtMost-wider}
use Rattle.lsm_codec.specs.Geometry.{data_blocks_of}
use Rattle.lsm_extent.specs.Area.{Area}
use Rattle.lsm_levels.specs.Held.{AreRuns}
use Rattle.lsm_levels.specs.Levels.{Levels, places}
use Rattle.lsm_levels.specs.Stored.{AreWithin, AreNumberedBelow}
use Rattle.lsm_mem.specs.Versions.{NumberedBelow, sealed_versions}
use Rattle.lsm_open.specs.Tables.{first_data, AreTables}
use Rattle.lsm_mem.specs.EntryOrder.{with_batches}
use Rattle.lsm_root.specs.CrashState.{last_number}
use Rattle.lsm_open.specs.Image.{count_in}
use Rattle.lsm_open.specs.LogRegions.{all_batches, follow_on}
use Rattle.lsm_open.specs.Counting.{counted, IsCountedRoot}
use Rattle.lsm_open.specs.Opening.{manifest_refusal, IsRefusalBesideBadTable}
use Rattle.lsm_open.specs.RefusedOpenings.{counted_refusal, named_refusal, refusal_behind, opening_refusal}
use Rattle.lsm_open.specs.ReadParts.{AreRead, AreToldBy, ReadsAtMost}
use Rattle.lsm_open.specs.Recovering.{HasWritten, IsOpeningRefusal}
use Rattle.lsm_open.specs.Reopening.{kept_records, HasCome, GoesOn}
use Rattle.lsm_open.specs.ToldTables.{ReadsBlocks, told_levels, IsRefusedFor, IsTableRefusal, AreOutlined, HaveNamed, Held, AreThose}
use Rattle.lsm_open.specs.declared.replayed.Replayed.{Replayed}
use Rattle.lsm_open.proofs.KeptRecords.{same_batches}
use Rattle.lsm_open.proofs.OpeningRefusals.{from_memory}
use Rattle.lsm_root.specs.Counted.{CallsMade}
use Rattle.lsm_root.specs.Installed.{IsNext}
use Rattle.lsm_root.specs.Layout.{IsGeometry, LieInside}
use Rattle.lsm_root.specs.Loaded.{refusal_of}
use Rattle.lsm_root.specs.Roots.{Root, Missing, Damaged, OtherSize, Unreadable, Stands, superblock_in, root_of}

abbrev Sectors : Type 0
Sectors = List (List ℕ)

abbrev OrMemory : Option Refusal → Refusal → Type 0
OrMemory says e = (says ≡ Some e) ⊎ ((e ≡ NoMemory) ⊎ (e ≡ Io))

-- ---- refusals, in order

-- the root doesn't stand
root_named : (s : Sectors) (root : Root) (e : Refusal) → refusal_of root ≡ Some e → named_refusal s root ≡ Some e
root_named s Missing e is = is
root_named s Damaged e is = is
root_named s OtherSize e is = is
root_named s Unreadable e is = is
root_named s (Stands n m) e is = absurd cc

pub load_says : (s : Sectors) (e : Refusal) → (refusal_of (root_of s) ≡ Some e) ⊎ ((e ≡ NoMemory) ⊎ (e ≡ Io)) → OrMemory (opening_refusal s) e
load_says s e (inl is) = inl (root_named s (root_of s) e is)
load_says s e (inr other) = inr other

-- a table can't be counted
pub count_says : (s : Sectors) (n : ℕ) (m : Contents) (e : Refusal) → root_of s ≡ Stands n m → IsRefusedFor (counted n s m) e → OrMemory (opening_refusal s) e
count_says s n m e root (inl (is, none)) = inl (ap (named_refusal s) root ∙ ap (counted_refusal n s) none ∙ ap (λ (x : Refusal). Some x) (sym is))
count_says s n m e root (inr other) = inr other

module _ (s : Sectors) (n : ℕ) (m : Contents) (root : IsCountedRoot n m s) where
  stands_says : opening_refusal s ≡ refusal_behind (told_levels n s m) (manifest_refusal n s m)
  stands_says = ap (named_refusal s) root.root ∙ ap (counted_refusal n s) root.counted_is

  -- a table is invalid
  pub tables_say : (e : Refusal) → IsRefusedFor (told_levels n s m) e → OrMemory (opening_refusal s) e
  tables_say e (inl (is, none)) = inl (stands_says ∙ ap (λ (o : Option Levels). refusal_behind o (manifest_refusal n s m)) none ∙ ap (λ (x : Refusal). Some x) (sym is))
  tables_say e (inr other) = inr other

  module _ (levels : Levels) (told : told_levels n s m ≡ Some levels) where
    behind_says : opening_refusal s ≡ manifest_refusal n s m
    behind_says = stands_says ∙ ap (λ (o : Option Levels). refusal_behind o (manifest_refusal n s m)) told

    -- a region's first batch is not the next
    pub replay_says : (e : Refusal) → ((e ≡ BadManifest) × (follow_on n s (m.base + 1) m.logs ≡ false)) ⊎ ((e ≡ NoMemory) ⊎ (e ≡ Io)) → OrMemory (opening_refusal s) e
    replay_says e (inl (is, none)) = inl (behind_says ∙ cond-false (follow_on n s (m.base + 1) m.logs) (cond (m.generation == last_number) (Some Exhausted) None) (Some BadManifest) none ∙ ap (λ (x : Refusal). Some x) (sym is))
    replay_says e (inr other) = inr other

    module _ (follows : follow_on n s (m.base + 1) m.logs ≡ true) where
      last_says : opening_refusal s ≡ cond (m.generation == last_number) (Some Exhausted) None
      last_says = behind_says ∙ cond-true (follow_on n s (m.base + 1) m.logs) (cond (m.generation == last_number) (Some Exhausted) None) (Some BadManifest) follows

      -- it is the last generation
      pub keep_says : (e : Refusal) → ((e ≡ Exhausted) × (m.generation ≡ last_number)) ⊎ (e ≡ NoMemory) → OrMemory (opening_refusal s) e
      keep_says e (inl (is, last)) = inl (last_says ∙ cond-true (m.generation == last_number) (Some Exhausted) None (eq-eqb m.generation last_number last) ∙ ap (λ (x : Refusal). Some x) (sym is))
      keep_says e (inr none) = inr (inl none)

      -- and where nothing of that holds, none
      pub none_says : m.generation ≢ last_number → opening_refusal s ≡ None
      none_says more = last_says ∙ cond-false (m.generation == last_number) (Some Exhausted) None (ne_eqb m.generation last_number more)

-- ---- which refusals are passed on

pub tables_passed : (e : Refusal) → IsTableRefusal e → IsOpeningRefusal e
tables_passed e (inl is) = inl is
tables_passed e (inr other) = inr (from_memory e other)

pub keep_passed : (P : Type 0) (e : Refusal) → ((e ≡ Exhausted) × P) ⊎ (e ≡ NoMemory) → IsOpeningRefusal e
keep_passed P e (inl found) = inr (subst IsRefusalBesideBadTable (sym found.0) tt)
keep_passed P e (inr none) = inr (subst IsRefusalBesideBadTable (sym none) tt)

pub keep_no_fault : (P : Type 0) (e : Refusal) → ((e ≡ Exhausted) × P) ⊎ (e ≡ NoMemory) → is_no_fault e ≡ true
keep_no_fault P e (inl found) = ap is_no_fault found.0
keep_no_fault P e (inr none) = ap is_no_fault none

-- ---- memory that is sealed

module _ (closed : List LogRecord) (mem : List Version) (sealed : Option (List Version)) (is : sealed ≡ cond (length closed == 0) None (Some mem)) where
  none_sealed : length closed ≡ 0 → sealed ≡ None
  none_sealed none = is ∙ cond-true (length closed == 0) None (Some mem) (eq-eqb (length closed) 0 none)

  some_sealed : (length closed ≡ 0 → ⊥) → sealed ≡ Some mem
  some_sealed some = is ∙ cond-false (length closed == 0) None (Some mem) (ne_eqb (length closed) 0 some)

  pub sealed_if : (sealed ≡ None) ↔ (length closed ≡ 0)
  sealed_if = (by closed refl, none_sealed)
    where
      by : (x : List LogRecord) → closed ≡ x → sealed ≡ None → length closed ≡ 0
      by [] same none = ap length same
      by (r ∷ rest) same none = absurd (let there : Some mem ≡ None = sym (some_sealed (λ e. omega (arith, e, ap length same))) ∙ none in cc)

  -- what holds of memory and of no version holds of what is sealed
  pub of_sealed : (P : List Version → Type 0) → P mem → P [] → P (sealed_versions sealed)
  of_sealed P here none = by closed refl
    where
      by : (x : List LogRecord) → closed ≡ x → P (sealed_versions sealed)
      by [] same = subst (λ (o : Option (List Version)). P (sealed_versions o)) (sym (none_sealed (ap length same))) none
      by (r ∷ rest) same = subst (λ (o : Option (List Version)). P (sealed_versions o)) (sym (some_sealed (λ e. omega (arith, e, ap length same)))) here

  -- with no region kept, there were no batches, and so memory is empty
  pub sealed_all : (n base : ℕ) (s : Sectors) (logs : List LogRecord) → closed ≡ kept_records n s logs → mem ≡ with_batches base (all_batches n s logs) [] → sealed_versions sealed ≡ with_batches base (all_batches n s logs) []
  sealed_all n base s logs kept versions = by closed refl
    where
      by : (x : List LogRecord) → closed ≡ x → sealed_versions sealed ≡ with_batches base (all_batches n s logs) []
      by [] same =
          ap sealed_versions (none_sealed (ap length same))
          ∙ ap (λ (bs : List (List Operation)). with_batches base bs []) none_before
        where
          none_before : [] ≡ all_batches n s logs
          none_before = ap (all_batches n s) (sym same ∙ kept) ∙ same_batches n s logs
      by (r ∷ rest) same = ap sealed_versions (some_sealed (λ e. omega (arith, e, ap length same))) ∙ versions

-- ---- how a device is read

pub reads_joined : (a b c : ℕ) (ok : Bool) (old mid new : Medium) → a + b ≤ c → ReadsAtMost a true old mid → ReadsAtMost b ok mid new → ReadsAtMost c ok old new
reads_joined a b c ok old mid new le first later = record {
  calls = AtMost-joined a 0 0 b 0 0 c 0 0 old.calls mid.calls new.calls le (omega arith) (omega arith) first.calls later.calls;
  faults = later.faults ∙ ap (faults_after ok) first.faults;
  stops = later.stops;
  unchanged = λ t. later.unchanged (subst IsTrue (sym (ap (λ x. x.tells) first.same_lasting)) t) ∙ first.unchanged t;
  same_size = later.same_size ∙ first.same_size;
  same_lasting = later.same_lasting ∙ first.same_lasting;
}

pub reads_wider : (a c : ℕ) (ok : Bool) (old new : Medium) → a ≤ c → ReadsAtMost a ok old new → ReadsAtMost c ok old new
reads_wider a c ok old new le reads = record {
  calls = AtMost-wider a 0 0 c 0 0 old.calls new.calls le (omega arith) (omega arith) reads.calls;
  faults = reads.faults;
  stops = reads.stops;
  unchanged = reads.unchanged;
  same_size = reads.same_size;
  same_lasting = reads.same_lasting;
}

-- eight sectors a block
pub blocks_read : (blocks c : ℕ) (ok : Bool) (old new : Medium) → 8 * blocks ≤ c → ReadsBlocks blocks ok old new → ReadsAtMost c ok old new
blocks_read blocks c ok old new le reads = record {
  calls = AtMost-wider (8 * blocks) 0 0 c 0 0 old.calls new.calls le (omega arith) (omega arith) reads.calls;
  faults = reads.faults;
  stops = reads.stops;
  unchanged = reads.only_reads.unchanged;
  same_size = reads.only_reads.same_size;
  same_lasting = reads.only_reads.same_lasting;
}

-- ---- how often it writes and syncs

pub none_more : (k n m : ℕ) → k ≤ 0 → m ≡ more k n → m ≡ n
none_more zero n m low is = is
none_more (suc k) n m low is = absurd (omega (arith, low))

pub written_once : (r : ℕ) (m : Contents) (old mid new : Calls) → AtMost r 0 0 old mid → CallsMade (sector_count m + 1) 2 mid new → HasWritten m 2 old new
written_once r m old mid new before made = record {
  written = made.written ∙ ap (more (sector_count m + 1)) (none_more before.written.0 old.writes mid.writes before.written.1 before.written.2);
  synced = made.synced ∙ ap (more 2) (none_more before.synced.0 old.syncs mid.syncs before.synced.1 before.synced.2);
}

pub written_after_sync : (m : Contents) (old mid new : Calls) → mid ≡ after_sync true old → HasWritten m 2 mid new → HasWritten m 3 old new
written_after_sync m old mid new first installed = record {
  written = installed.written ∙ ap (λ (k : Calls). more (sector_count m + 1) k.writes) first;
  synced = installed.synced ∙ ap (λ (k : Calls). more 2 k.syncs) first;
}

-- ---- what was read

-- what a refusal tells where the device tells
pub with_told : (T A P X : Type 0) → T → (A × (T → P)) ⊎ X → (A × P) ⊎ X
with_told T A P X t (inl found) = inl (found.0, found.1 t)
with_told T A P X t (inr other) = inr other

module _ (size n count now_count : ℕ) (m : Contents) (closed now_closed : List LogRecord) (mem : List Version) (sealed : Option (List Version)) (levels : Levels) (same : now_closed ≡ closed) (same_count : now_count ≡ count)
    (is : sealed ≡ cond (length closed == 0) None (Some mem)) where
  is_now : sealed ≡ cond (length now_closed == 0) None (Some mem)
  is_now = is ∙ ap (λ (x : List LogRecord). cond (length x == 0) None (Some mem)) (sym same)

  pub all_read : (extents : Area) → IsGeometry size n → IsManifest m → LieInside size n m.tables → m.generation ≢ last_number → HasCome m count closed [] → NumberedBelow (count + 1) mem → AllByRecursion IsEntry mem → AreOrdered (sealed_versions sealed) → HaveNamed m levels → AreRuns levels
      → AreWithin size (first_data n) (places levels) → AreOutlined (places levels) → AreNumberedBelow m.next_table (places levels) → Held (data_blocks_of size n) m.tables extents → AreRead size n m now_closed now_count sealed levels extents
  all_read extents geometry fits inside has_next come numbered entries ordered named runs within outlined numbers held = record {
    geometry = geometry;
    fits = fits;
    inside = inside;
    has_next = has_next;
    come = subst (λ (k : ℕ). HasCome m k now_closed []) (sym same_count) (subst (λ (x : List LogRecord). HasCome m count x []) (sym same) come);
    sealed_if = sealed_if now_closed mem sealed is_now;
    numbered = subst (λ (k : ℕ). NumberedBelow (k + 1) (sealed_versions sealed)) (sym same_count) (of_sealed now_closed mem sealed is_now (NumberedBelow (count + 1)) numbered tt);
    entries = of_sealed now_closed mem sealed is_now (AllByRecursion IsEntry) entries tt;
    ordered = ordered;
    runs = runs;
    named = named;
    within = within;
    outlined = outlined;
    numbers = numbers;
    held = held;
  }

  pub all_told : {A : Type 0} (s : Sectors) (replayed : Replayed A) → closed ≡ replayed.closed.items → count ≡ replayed.count → mem ≡ replayed.mem → IsCountedRoot n m s → IsNext size n (m.generation + 1) (superblock_in s) → GoesOn n s m replayed []
      → told_levels n s m ≡ Some levels → (AreTables n m.base m.tables s → AreThose n m.base s m.tables levels) → AreToldBy size n s m now_closed now_count sealed levels
  all_told s replayed closed_is count_is mem_is root next goes told stored = record {
    root = root;
    next = next;
    kept = kept_now;
    counts = counts_now;
    remembers = sealed_all now_closed mem sealed is_now n m.base s m.logs kept_now (mem_is ∙ sym goes.versions);
    told = told;
    stored = stored;
  }
    where
      kept_now : now_closed ≡ kept_records n s m.logs
      kept_now = same ∙ closed_is ∙ sym (goes.kept ∙ append-nil replayed.closed.items)

      counts_now : now_count ≡ count_in n s m
      counts_now = let counted : replayed.count ≡ count_in n s m = omega (arith, goes.counts) in same_count ∙ count_is ∙ counted

-- ---- reads, by what a call promises of them

pub reads_none : (a : ℕ) (old : Medium) → ReadsAtMost a true old old
reads_none a old = record { calls = none_made a 0 0 old.calls; faults = refl; stops = λ e. absurd cc; unchanged = λ t. refl; same_size = refl; same_lasting = refl }

pub reads_ok : (a : ℕ) (old new : Medium) → AtMost a 0 0 old.calls new.calls → new.calls.faults ≡ old.calls.faults → (IsTrue old.lasting.tells → new.history ≡ old.history) → new.size ≡ old.size → new.lasting ≡ old.lasting → ReadsAtMost a true old new
reads_ok a old new calls faults same size lasting = record { calls = calls; faults = faults; stops = λ e. absurd cc; unchanged = same; same_size = size; same_lasting = lasting }

fault_is : (e : Refusal) → is_no_fault e ≡ false → e ≡ Io
fault_is Io e = refl
fault_is other e = absurd cc

pub reads_err : (a : ℕ) (e : Refusal) (old new : Medium) → AtMost a 0 0 old.calls new.calls → new.calls.faults ≡ faults_after (is_no_fault e) old.calls.faults → (e ≡ Io → IsTrue new.calls.last_faulted)
    → (IsTrue old.lasting.tells → new.history ≡ old.history) → new.size ≡ old.size → new.lasting ≡ old.lasting → ReadsAtMost a (is_no_fault e) old new
reads_err a e old new calls faults stops same size lasting = record { calls = calls; faults = faults; stops = λ fault. stops (fault_is e fault); unchanged = same; same_size = size; same_lasting = lasting }
