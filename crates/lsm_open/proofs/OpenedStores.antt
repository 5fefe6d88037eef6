-- An opening: from what it has read and installed to what it promises.
use Rattle.std.proofs.Common.{◌≡◌, ◌≢◌, ◌⊎◌, inl, inr, true, false, IsTrue, ℕ, ◌+◌, ◌<◌, ◌≤◌, List, [], ◌∷◌, ◌++◌, length, map, Some, None, refl, sym, ◌∙◌, ap, subst, arith}
use Rattle.std.specs.Prelude.{◌↔◌, Contains, Option, option_map}
use Rattle.std.specs.List.{AllByRecursion}
use Rattle.std.proofs.lemmas.List.{length-append}
use Rattle.lsm_codec.specs.Manifests.{Contents, IsManifest}
use Rattle.lsm_codec.specs.Map.{Operation}
use Rattle.lsm_codec.specs.Versions.{Version}
use Rattle.lsm_codec.specs.declared.log_record.LogRecord.{LogRecord}
use Rattle.lsm_codec.specs.declared.table_record.TableRecord.{TableRecord}
use Rattle.lsm_device.specs.Disk.{Disk, Write, image, seen, written}
use Rattle.lsm_device.specs.History.{present, EachSince}
use Rattle.lsm_device.specs.Medium.{Medium, disk}
use Rattle.lsm_device.specs.Outcomes.{Leaves}
use Rattle.lsm_device.specs.declared.refusal.Refusal.{Refusal}
use Rattle.lsm_device.specs.declared.refusal.Refusal.TheVariants.{NoMemory, Io, BadManifest, Exhausted}
use Rattle.lsm_device.proofs.Moments.{unchanged, weaker}
use Rattle.lsm_extent.specs.Area.{Area}
use Rattle.lsm_levels.specs.Levels.{Levels, places}
use Rattle.lsm_levels.specs.Orders.{IsVersionOrder, IsNewerPlace}
use Rattle.lsm_levels.specs.Stored.{AreStored}
use Rattle.lsm_levels.specs.Tables.{versions_of}
use Rattle.lsm_mem.specs.EntryOrder.{with_batches}
use Rattle.lsm_mem.specs.Versions.{map_of, sealed_versions}
use Rattle.lsm_open.specs.Counting.{counted, with_tables, IsCountedRoot}
use Rattle.lsm_root.specs.CrashState.{CrashState, last_number, in_next_generation, left_by_opening, MayRefuseOpening}
use Rattle.lsm_open.specs.Image.{count_in, left_in, HoldNamed, StandFor}
use Rattle.lsm_open.specs.Layout.{Layout, open_records, open_batches}
use Rattle.lsm_open.specs.LogRegions.{all_batches, follow_on, one_if_some, regions_with_batches}
use Rattle.lsm_open.specs.Placements.{Placement, contents_for, Carries, present_state}
use Rattle.lsm_open.specs.ReadParts.{AreRead, AreToldBy, ReadsAtMost}
use Rattle.lsm_open.specs.Recovering.{placed_in, level_versions, IsReopened, IsRecovered, AreWithinLimits, StandForOne}
use Rattle.lsm_open.specs.Reopening.{kept_records, next_contents, IsNextLayout}
use Rattle.lsm_open.specs.Switching.{MayBeInstalled, IsSwitched, IsInLeastFree, reopened_at}
use Rattle.lsm_open.specs.Tables.{first_data, table_versions, AreTables}
use Rattle.lsm_open.specs.ToldTables.{AreThose, IsRefusedFor}
use Rattle.lsm_open.specs.declared.regions.OpenRegion.{OpenRegion}
use Rattle.std.proofs.lemmas.Option.{same_Some}
use Rattle.lsm_open.proofs.CountedTables.{counted_all, manifest_counted, counts_stand}
use Rattle.lsm_open.proofs.KeptRecords.{count_kept}
use Rattle.lsm_open.proofs.NextLayouts.{layout_says, opened_in}
use Rattle.lsm_open.proofs.NextManifests.{none_free, closed_few, next_fits}
use Rattle.lsm_open.proofs.OneMeaning.{same_stands}
use Rattle.lsm_root.proofs.Openings.{same_again, next_again}
use Rattle.lsm_open.proofs.OpeningSteps.{opening_installs, may_reopen, rests_stand, settled_at_rest}
use Rattle.lsm_open.proofs.ReadPlaces.{batches_later, batches_newer, stored_behind}
use Rattle.lsm_open.proofs.Switches.{switch_moments, installed_carried, installed_present}
use Rattle.lsm_root.specs.Installed.{IsReady, IsOldOrNew, IsInstalled}
use Rattle.lsm_root.specs.Loaded.{refusal_of}
use Rattle.lsm_root.specs.Layout.{IsGeometry}
use Rattle.lsm_root.specs.Roots.{Stands, root_of}

abbrev Sectors : Type 0
Sectors = List (List ℕ)

-- the placement of an opening that kept these log records
abbrev pub kept_at : ℕ → Contents → List LogRecord → Option OpenRegion → Placement
kept_at n m closed o = record {
  logs = record { log_sectors = n; generation = m.generation + 1; base = m.base; next_table = m.next_table; closed = closed; open_region = o };
  runs = m.runs;
  tables = m.tables;
}

-- the next layout with a manifest's tables is that placement
pub placed_kept : (n count : ℕ) (m : Contents) (closed : List LogRecord) (l : Layout) (levels : Levels) (tables : List TableRecord) → IsNextLayout n m count l → l.closed ≡ closed → length levels.runs ≡ m.runs → tables ≡ m.tables
    → placed_in l levels tables ≡ kept_at n m closed l.open_region
placed_kept n count m closed l levels tables next same runs named =
    ap (λ (x : ℕ). at x l.generation l.base l.next_table l.closed (length levels.runs) tables) next.log_size
    ∙ ap (λ (x : ℕ). at n x l.base l.next_table l.closed (length levels.runs) tables) next.generation
    ∙ ap (λ (x : ℕ). at n (m.generation + 1) x l.next_table l.closed (length levels.runs) tables) next.base
    ∙ ap (λ (x : ℕ). at n (m.generation + 1) m.base x l.closed (length levels.runs) tables) next.next_table
    ∙ ap (λ (x : List LogRecord). at n (m.generation + 1) m.base m.next_table x (length levels.runs) tables) same
    ∙ ap (λ (x : ℕ). at n (m.generation + 1) m.base m.next_table closed x tables) runs
    ∙ ap (λ (x : List TableRecord). at n (m.generation + 1) m.base m.next_table closed m.runs x) named
  where
    at : ℕ → ℕ → ℕ → ℕ → List LogRecord → ℕ → List TableRecord → Placement
    at k g b t c r ts = record { logs = record { log_sectors = k; generation = g; base = b; next_table = t; closed = c; open_region = l.open_region }; runs = r; tables = ts }

-- ---- whatever the device holds

module _ (n count : ℕ) (m : Contents) (closed : List LogRecord) (o : Option OpenRegion) (least : IsInLeastFree n (m.generation + 1) count closed o) where
  next_layout : IsNextLayout n m count (kept_at n m closed o).logs
  next_layout = record { log_size = refl; generation = refl; base = refl; next_table = refl; least = least.least; new_log = least.new_log }

  -- its manifest is the one that is installed
  pub contents_kept : contents_for (kept_at n m closed o) ≡ next_contents m closed count
  contents_kept = layout_says n m count (kept_at n m closed o).logs next_layout

  pub within_kept : (size : ℕ) (sealed : Option (List Version)) (levels : Levels) (extents : Area) → AreRead size n m closed count sealed levels extents → AreWithinLimits size (kept_at n m closed o) count sealed levels extents
  within_kept size sealed levels extents read = record {
    geometry = read.geometry;
    manifest = subst IsManifest (sym contents_kept) (next_fits m count closed read.fits read.come read.has_next);
    inside = read.inside;
    least = least.least;
    opened = opened_in size n m count (kept_at n m closed o).logs read.geometry read.fits read.has_next read.come next_layout o refl least.new_log;
    count_high = read.come.count_high;
    sealed_if = read.sealed_if;
    numbered = read.numbered;
    entries = read.entries;
    ordered = read.ordered;
    runs = read.runs;
    named = read.named.records;
    within = read.within;
    outlined = read.outlined;
    numbers = read.numbers;
    held = read.held;
  }

  -- no log is open exactly where all three regions are closed
  pub full_kept : (size : ℕ) (sealed : Option (List Version)) (levels : Levels) (extents : Area) → AreRead size n m closed count sealed levels extents → (o ≡ None) ↔ (length closed ≡ 3)
  full_kept size sealed levels extents read =
      (λ none. none_free closed (closed_few m count closed read.fits read.come) (sym least.least ∙ ap (option_map (λ (x : OpenRegion). x.region)) none), by o few)
    where
      few : length (closed ++ open_records o) ≤ 3
      few = (subst IsManifest (sym contents_kept) (next_fits m count closed read.fits read.come read.has_next)).numbers.logs

      by : (x : Option OpenRegion) → length (closed ++ open_records x) ≤ 3 → length closed ≡ 3 → x ≡ None
      by None fits full = refl
      by (Some x) fits full = absurd (omega (arith, length-append closed (open_records (Some x)), fits, full))

  -- ---- what is reopened

  pub reopened_kept : (size : ℕ) (start d : Disk) (sealed : Option (List Version)) (levels : Levels) → AreToldBy size n (seen start) m closed count sealed levels → IsInstalled start (Stands n (next_contents m closed count)) d
      → IsReopened (seen start) (kept_at n m closed o) count sealed levels d
  reopened_kept size start d sealed levels told installed = record {
    manifest = m;
    root = told.root;
    placed = ap (λ (x : List LogRecord). kept_at n m x o) told.kept;
    least = least;
    counts = told.counts;
    remembers = told.remembers;
    told = told.told;
    installed = installed.stands.root ∙ ap (λ (c : Contents). Stands n c) (sym contents_kept);
    rests = installed.settled;
    same_behind = installed.stands.all;
  }

-- ---- what a crash left

-- what sectors stand for, by the manifest that was read
pub stood_here : (k n : ℕ) (left : CrashState) (m : Contents) (s : Sectors) → StandFor k left s → root_of s ≡ Stands n m → (n ≡ k) × StandFor n left s × AreTables n m.base m.tables s
stood_here k n left m s is root =
    let same = same_stands n k m is.manifest (sym root ∙ is.root) in
    let stand : StandFor n left s = subst (λ (j : ℕ). StandFor j left s) (sym same.0) is in
    (same.0, stand, subst (λ (j : ℕ). AreTables j m.base m.tables s) (sym same.0) (subst (λ (c : Contents). AreTables k c.base c.tables s) (sym same.1) is.holds.tables))

pub named_here : (k n : ℕ) (left : CrashState) (m : Contents) (s : Sectors) → StandFor k left s → IsCountedRoot n m s → (n ≡ k) × HoldNamed n m s × (left ≡ left_in n s m)
named_here k n left m s is root =
    let stood = stood_here k n left root.stood s is root.root in
    let there = counts_stand n s left stood.1 in
    let same_root = same_stands n n root.stood stood.1.manifest (sym root.root ∙ stood.1.root) in
    let same : there.0 ≡ m = same_Some there.0 m (sym there.1 ∙ ap (counted n s) (sym same_root.1) ∙ root.counted_is) in
    (stood.0, subst (λ (x : Contents). HoldNamed n x s) same there.3, subst (λ (x : Contents). left ≡ left_in n s x) same there.4)

-- what a crash left is counted
pub counted_here : (k n : ℕ) (left : CrashState) (m : Contents) (s : Sectors) → StandFor k left s → root_of s ≡ Stands n m → counted n s m ≡ None → ⊥
counted_here k n left m s is root none =
    let stood = stood_here k n left m s is root in
    absurd (let no : None ≡ Some (with_tables m (counted_all n s m.tables)) = sym none ∙ manifest_counted n s m stood.2 in cc)

-- so its count is refused for another reason
pub count_fair : (k n : ℕ) (left : CrashState) (m : Contents) (s : Sectors) (e : Refusal) → StandFor k left s → root_of s ≡ Stands n m → IsRefusedFor (counted n s m) e → (e ≡ NoMemory) ⊎ (e ≡ Io)
count_fair k n left m s e is root (inl bad) = absurd (counted_here k n left m s is root bad.1)
count_fair k n left m s e is root (inr other) = other

-- of what a crash left an opening is refused fairly
pub memory_fair : (left : CrashState) (e : Refusal) → (e ≡ NoMemory) ⊎ (e ≡ Io) → MayRefuseOpening left e
memory_fair left e (inl is) = subst (MayRefuseOpening left) (sym is) tt
memory_fair left e (inr is) = subst (MayRefuseOpening left) (sym is) tt

pub load_fair : (k : ℕ) (left : CrashState) (s : Sectors) (e : Refusal) → StandFor k left s → (refusal_of (root_of s) ≡ Some e) ⊎ ((e ≡ NoMemory) ⊎ (e ≡ Io)) → (e ≡ NoMemory) ⊎ (e ≡ Io)
load_fair k left s e is (inl says) = absurd (let none : None ≡ Some e = sym (ap refusal_of is.root) ∙ says in cc)
load_fair k left s e is (inr other) = other

pub replay_fair : (n : ℕ) (left : CrashState) (m : Contents) (s : Sectors) (e : Refusal) → follow_on n s (m.base + 1) m.logs ≡ true → ((e ≡ BadManifest) × (follow_on n s (m.base + 1) m.logs ≡ false)) ⊎ ((e ≡ NoMemory) ⊎ (e ≡ Io)) → MayRefuseOpening left e
replay_fair n left m s e follows (inl says) = absurd (let no : true ≡ false = sym follows ∙ says.1 in cc)
replay_fair n left m s e follows (inr other) = memory_fair left e other

pub keep_fair : (n : ℕ) (left : CrashState) (m : Contents) (s : Sectors) (e : Refusal) → left ≡ left_in n s m → ((e ≡ Exhausted) × (m.generation ≡ last_number)) ⊎ (e ≡ NoMemory) → MayRefuseOpening left e
keep_fair n left m s e is (inl says) = subst (MayRefuseOpening left) (sym says.0) (ap (λ (x : CrashState). x.generation) is ∙ says.1)
keep_fair n left m s e is (inr none) = subst (MayRefuseOpening left) (sym none) tt

-- the next generation may be installed after reads alone of a device where nothing pends
pub ready_kept : (n count : ℕ) (m : Contents) (closed : List LogRecord) (sealed : Option (List Version)) (levels : Levels) (old mid : Medium) → ReadsAtMost 587842 true old mid → (IsTrue old.lasting.tells → (disk old).pending ≡ [])
    → (IsTrue old.lasting.tells → AreToldBy old.size n (seen (disk old)) m closed count sealed levels) → IsTrue mid.lasting.tells → IsReady mid.size n (m.generation + 1) (disk mid)
ready_kept n count m closed sealed levels old mid reads rests told t =
    let first : IsTrue old.lasting.tells = subst (λ x. IsTrue x.tells) reads.same_lasting t in
    let same : mid.history ≡ old.history = reads.unchanged first in
    let there : IsReady old.size n (m.generation + 1) (present old.history) = record { settled = settled_at_rest (present old.history) (rests first); next = (told first).next } in
    subst (λ (z : ℕ). IsReady z n (m.generation + 1) (disk mid)) (sym reads.same_size) (subst (λ (h : List Disk). IsReady old.size n (m.generation + 1) (present h)) (sym same) there)

none_open : (bs : List (List Operation)) → one_if_some bs ≡ 0 → bs ≡ []
none_open [] e = refl
none_open (b ∷ bs) e = absurd (omega (arith, e))

-- a disk at rest leaves what reads give, in this generation
rests_leave_standing : (k : ℕ) (left : CrashState) (d : Disk) → d.pending ≡ [] → StandFor k left (seen d) → Leaves (StandForOne k (left_by_opening left)) d
rests_leave_standing k left d rests is = λ mask.
    let there = rests_stand k left d rests is mask in
    (there.0, subst (Contains (left_by_opening left)) (sym there.1) (same_again left), there.2)

pub rests_stay_standing : (k : ℕ) (left : CrashState) (old new : List Disk) → new ≡ old → (present old).pending ≡ [] → StandFor k left (seen (present old)) → EachSince (Leaves (StandForOne k (left_by_opening left))) old new
rests_stay_standing k left old new same rests is = unchanged (Leaves (StandForOne k (left_by_opening left))) old new same (rests_leave_standing k left (present old) rests is)

module _ (size k n count : ℕ) (left : CrashState) (m : Contents) (closed : List LogRecord) (o : Option OpenRegion) (sealed : Option (List Version)) (levels : Levels) (extents : Area) (old : List Disk) (is : StandFor k left (seen (present old)))
    (geometry : IsGeometry (length (seen (present old))) n) (rests : (present old).pending ≡ []) (read : AreRead size n m closed count sealed levels extents) (told : AreToldBy size n (seen (present old)) m closed count sealed levels)
    (least : IsInLeastFree n (m.generation + 1) count closed o) where
  here : (n ≡ k) × HoldNamed n m (seen (present old)) × (left ≡ left_in n (seen (present old)) m)
  here = named_here k n left m (seen (present old)) is told.root

  stands : StandFor n left (seen (present old))
  stands = subst (λ (j : ℕ). StandFor j left (seen (present old))) (sym here.0) is

  abbrev q : Placement
  q = reopened_at n (seen (present old)) m o

  has_next : left.generation ≢ last_number
  has_next = λ e. read.has_next (sym (ap (λ (x : CrashState). x.generation) here.2) ∙ e)

  least_here : IsInLeastFree n (m.generation + 1) (count_in n (seen (present old)) m) (kept_records n (seen (present old)) m.logs) o
  least_here = subst (λ (c : ℕ). IsInLeastFree n (m.generation + 1) c (kept_records n (seen (present old)) m.logs) o) told.counts (subst (λ (x : List LogRecord). IsInLeastFree n (m.generation + 1) count x o) told.kept least)

  may_install : MayBeInstalled (reopened_at n (seen (present old)) m o) (in_next_generation left) (present old)
  may_install = opening_installs n left (present old) m here.1 here.2 (may_reopen n count m closed (seen (present old)) geometry read.fits read.has_next read.come told.kept told.counts) o least_here

  kept_is : kept_at n m closed o ≡ reopened_at n (seen (present old)) m o
  kept_is = ap (λ (x : List LogRecord). kept_at n m x o) told.kept

  next_is : next_contents m closed count ≡ contents_for (reopened_at n (seen (present old)) m o)
  next_is = sym (contents_kept n count m closed o least) ∙ ap contents_for kept_is

  left_of : (sectors : Sectors) → IsSwitched n (λ x. x ≡ left) (present old) (reopened_at n (seen (present old)) m o) (in_next_generation left) sectors → StandForOne n (left_by_opening left) sectors
  left_of sectors (inl (root, (x, same, stand))) = (left, same_again left, subst (λ (y : CrashState). StandFor n y sectors) same stand)
  left_of sectors (inr (root, stand)) = (in_next_generation left, next_again left has_next, stand)

  -- each crash leaves the same, in this generation or the next
  pub installing_kept : (new : List Disk) → EachSince (Leaves (IsOldOrNew (present old) (Stands n (next_contents m closed count)))) old new → EachSince (Leaves (StandForOne k (left_by_opening left))) old new
  installing_kept new each =
      let P : CrashState → Type 0 = λ x. x ≡ left in
      let there : EachSince (Leaves (IsOldOrNew (present old) (Stands n (contents_for (reopened_at n (seen (present old)) m o))))) old new =
      subst (λ (c : Contents). EachSince (Leaves (IsOldOrNew (present old) (Stands n c))) old new) next_is each in
      let switched : EachSince (Leaves (IsSwitched n P (present old) (reopened_at n (seen (present old)) m o) (in_next_generation left))) old new =
      switch_moments n P (reopened_at n (seen (present old)) m o) (in_next_generation left) old new (rests_stand n left (present old) rests stands) (settled_at_rest (present old) rests) refl may_install there in
      weaker (Leaves (IsSwitched n P (present old) (reopened_at n (seen (present old)) m o) (in_next_generation left))) (Leaves (StandForOne k (left_by_opening left))) old new
      (λ d leaves mask. subst (λ (j : ℕ). StandForOne j (left_by_opening left) (image mask d)) here.0 (left_of (image mask d) (leaves mask))) switched

  -- ---- and after it the store is recovered

  module _ (d : Disk) (installed : IsInstalled (present old) (Stands n (next_contents m closed count)) d) where
    installed_here : IsInstalled (present old) (Stands n (contents_for (reopened_at n (seen (present old)) m o))) d
    installed_here = subst (λ (c : Contents). IsInstalled (present old) (Stands n c) d) next_is installed

    carried_here : Carries d (reopened_at n (seen (present old)) m o)
    carried_here = installed_carried (present old) d (reopened_at n (seen (present old)) m o) (in_next_generation left) (omega (arith, geometry.log_low)) may_install installed_here

    present_here : in_next_generation left ≡ present_state (reopened_at n (seen (present old)) m o) d
    present_here = installed_present (present old) d (reopened_at n (seen (present old)) m o) (in_next_generation left) (omega (arith, geometry.log_low)) may_install installed_here

    all_stand : d.stands ≡ seen d
    all_stand = sym (ap (λ (ws : List Write). written d.stands ws) installed.settled)

    empty_here : open_batches o d.stands ≡ []
    empty_here =
        let closed_is : left.closed ≡ length (kept_records n (seen (present old)) m.logs) + one_if_some (open_batches o (seen d)) = ap (λ (x : CrashState). x.closed) present_here in
        let was : left.closed ≡ regions_with_batches n (seen (present old)) m.logs = ap (λ (x : CrashState). x.closed) here.2 in
        ap (open_batches o) all_stand ∙ none_open (open_batches o (seen d)) (omega (arith, closed_is, was, count_kept n (seen (present old)) m.logs))

    those : AreThose n m.base (seen (present old)) m.tables levels
    those = told.stored here.1.tables

    stored_now : AreStored (seen d) (first_data n) (places levels)
    stored_now = subst (λ (c : Sectors). AreStored c (first_data n) (places levels)) all_stand
        (stored_behind d.stands (seen (present old)) installed.stands.all (first_data n) (omega arith) (places levels) those.stored)

    order_here : IsVersionOrder (sealed_versions sealed ∷ map versions_of (places levels))
    order_here = (
      subst (λ (vs : List Version). AllByRecursion (IsNewerPlace vs) (map versions_of (places levels))) (sym told.remembers)
          (batches_newer m.base (all_batches n (seen (present old)) m.logs) (map versions_of (places levels)) those.numbered),
      those.order,
    )

    count_here : count ≡ left.count
    count_here = told.counts ∙ sym (ap (λ (x : CrashState). x.count) here.2)

    map_here : map_of (sealed_versions sealed ++ level_versions levels) count ≡ left.map
    map_here =
        ap (λ (vs : List Version). map_of (vs ++ level_versions levels) count) told.remembers
        ∙ ap (λ (vs : List Version). map_of (with_batches m.base (all_batches n (seen (present old)) m.logs) [] ++ vs) count) those.versions
        ∙ ap (map_of (with_batches m.base (all_batches n (seen (present old)) m.logs) [] ++ table_versions n (seen (present old)) m.tables)) told.counts
        ∙ sym (ap (λ (x : CrashState). x.map) here.2)

    recovered_at : IsRecovered n left (reopened_at n (seen (present old)) m o) count sealed levels d
    recovered_at = record {
      carried = carried_here;
      present = sym present_here;
      all_closed = subst (λ (x : List LogRecord). (o ≡ None) ↔ (length x ≡ 3)) told.kept (full_kept n count m closed o least size sealed levels extents read);
      rests = installed.settled;
      empty = empty_here;
      log_size = refl;
      has_next = has_next;
      count_is = count_here;
      same_map = map_here;
      order = order_here;
      tabled = those.numbered;
      later = subst (λ (vs : List Version). AllByRecursion (λ v. m.base < v.number) vs) (sym told.remembers) (batches_later m.base (all_batches n (seen (present old)) m.logs));
      stored = stored_now;
    }

    pub recovered_kept : IsRecovered k left (kept_at n m closed o) count sealed levels d
    recovered_kept = subst (λ (p : Placement). IsRecovered k left p count sealed levels d) (sym kept_is)
        (subst (λ (j : ℕ). IsRecovered j left (reopened_at n (seen (present old)) m o) count sealed levels d) here.0 recovered_at)
