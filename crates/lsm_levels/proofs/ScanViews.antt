-- A scan of a view.
use Rattle.std.proofs.Common.{◌≡◌, ◌⊎◌, inl, inr, ℕ, zero, suc, ◌<◌, List, [], ◌∷◌, ◌++◌, map, set, slice_get, filter, Option, Some, None, Ok, refl, ap, sym, subst, ◌∙◌}
use denote.Ref.{Bor}
use Rattle.std.specs.List.{AllByRecursion}
use Rattle.std.proofs.lemmas.Option.{same_Some}
use Rattle.std.proofs.lemmas.List.{append-nil, append_assoc, map-append}
use Rattle.lsm_device.specs.declared.refusal.Refusal.{Refusal}
use Rattle.lsm_device.specs.declared.refusal.Refusal.TheVariants.{Io}
use Rattle.lsm_device.specs.Disk.{seen}
use Rattle.lsm_device.specs.Medium.{disk}
use Rattle.lsm_codec.specs.Keys.{Bytes}
use Rattle.lsm_codec.specs.Versions.{Version, AreOrdered}
use Rattle.lsm_cache.specs.declared.name.BlockName.{BlockName}
use Rattle.lsm_cache.specs.Fresh.{IsFresh}
use Rattle.lsm_mem.specs.Versions.{map_of}
use Rattle.lsm_mem.specs.Ranges.{from_key, newest_each}
use Rattle.lsm_mem.specs.Paging.{Page, page_of}
use Rattle.lsm_mem.specs.Gathering.{Gathering, gathering, page_so_far, page_with}
use Rattle.lsm_mem.specs.Versions.{joined}
use Rattle.lsm_levels.specs.Tables.{Table, IsRun, at_most, versions_of}
use Rattle.lsm_levels.specs.Asking.{Source, IsGiven, IsDenied}
use Rattle.lsm_levels.specs.Levels.{Levels, places}
use Rattle.lsm_levels.specs.Lookups.{sealed_now, versions_in_places}
use Rattle.lsm_levels.specs.Orders.{IsVersionOrder}
use Rattle.lsm_levels.specs.Stored.{ArePlaced, AreStored, IsPlaced, IsStored}
use Rattle.lsm_levels.specs.Cursors.{Cursor, IsPlacedAt, Shows, blocks_from_key, passed_blocks}
use Rattle.lsm_levels.specs.SourceCursors.{cursor_of_versions}
use Rattle.lsm_levels.specs.Sources.{AreInOrder, AreLeftOf}
use Rattle.lsm_levels.specs.Scans.{AllGive, AreReady, AsksInTurn, AsksOn, AsksSome, ComesTo, GivesLeft, HasCome, ScansRuns, blocks_of_runs, blocks_to_come, memory_places}
use Rattle.lsm_levels.specs.declared.placed.PlacedBlock.{PlacedBlock}
use Rattle.lsm_levels.proofs.CursorBlocks.{all_blocks, left_of_all}
use Rattle.lsm_levels.proofs.MemoryCursors.{first_present}
use Rattle.lsm_codec.proofs.Lists.{all_append, all_filter, all_left, all_right}
use Rattle.lsm_levels.proofs.RunOrders.{run_ordered}
use Rattle.lsm_levels.proofs.ScanAsking.{fair_oks, still_shown, sums}
use Rattle.lsm_levels.proofs.SourceLaws.{parts_in_order, same_page}

-- ---- the blocks of a view

no_block : (b : PlacedBlock) (rest : List PlacedBlock) → Some [] ≡ Some (b ∷ rest) → ⊥
no_block b rest e = let clash : [] ≡ b ∷ rest = same_Some [] (b ∷ rest) e in cc

-- no block is asked for of a list that has none
drop_empty : (left : List (List PlacedBlock)) (asked : List PlacedBlock) (refusal : Option Refusal) (old new : Source) → AsksInTurn ([] ∷ left) asked refusal old new → AsksInTurn left asked refusal old new
drop_empty left [] refusal old new h = h
drop_empty left (b ∷ asked) refusal old new h = by h.0 h.2 h.3 (λ next mid k. drop_empty next asked refusal mid new k)
  where
    by : (i : ℕ) → slice_get ([] ∷ left) i ≡ Some (b ∷ h.1) → ((bytes : List ℕ) × (mid : Source) × IsGiven b bytes old mid × AsksInTurn (set ([] ∷ left) i h.1) asked refusal mid new) ⊎ ((refusal ≡ Some Io) × (asked ≡ []) × IsDenied b old new) → ((next : List (List PlacedBlock)) (mid : Source) → AsksInTurn ([] ∷ next) asked refusal mid new → AsksInTurn next asked refusal mid new) → AsksInTurn left (b ∷ asked) refusal old new
    by zero at after more = absurd (no_block b h.1 at)
    by (suc i) at (inl g) more = (i, h.1, at, inl (g.0, g.1, g.2, more (set left i h.1) g.1 g.3))
    by (suc i) at (inr d) more = (i, h.1, at, inr d)

without_empty : (left : List (List PlacedBlock)) (refusal : Option Refusal) (old new : Source) → AsksSome ([] ∷ left) refusal old new → AsksSome left refusal old new
without_empty left refusal old new h = record { asked = h.asked; in_turn = drop_empty left h.asked refusal old new h.in_turn }

abbrev pub memory_cursors : Bytes → ℕ → List Version → Option (Bor (List Version)) → List Cursor
memory_cursors from n memory sealed = map (λ place. cursor_of_versions (from_key from (newest_each n place))) (memory_places memory sealed)

without_memory : (from : Bytes) (n : ℕ) (memory : List Version) (sealed : Option (Bor (List Version))) (left : List (List PlacedBlock)) (refusal : Option Refusal) (old new : Source)
    → AsksSome (blocks_to_come (memory_cursors from n memory sealed) ++ left) refusal old new → AsksSome left refusal old new
without_memory from n memory None left refusal old new h = without_empty left refusal old new h
without_memory from n memory (Some sealed) left refusal old new h = without_empty left refusal old new (without_empty ([] ∷ left) refusal old new h)

module _ (area : ℕ) (from : Bytes) (n : ℕ) (memory : List Version) (sealed : Option (Bor (List Version))) (levels : Levels) where
  abbrev front : List (List PlacedBlock)
  front = blocks_to_come (memory_cursors from n memory sealed)

  abbrev of_runs : List (List Table) → List (List PlacedBlock)
  of_runs runs = blocks_of_runs area from runs

  both_runs : of_runs levels.runs ++ of_runs levels.deeper ≡ of_runs (places levels)
  both_runs = sym (map-append (blocks_from_key area from) levels.runs levels.deeper)

  -- the newer runs are refused
  pub newer_refused : (mid : List Cursor) (e : Refusal) (a b : Source) → ((behind : List (List PlacedBlock)) → AsksOn (front ++ (of_runs levels.runs ++ behind)) (blocks_to_come mid ++ behind) (Some e) a b) → AsksSome (of_runs (places levels)) (Some e) a b
  newer_refused mid e a b first = without_memory from n memory sealed (of_runs (places levels)) (Some e) a b (subst (λ (left : List (List PlacedBlock)). AsksSome (front ++ left) (Some e) a b) both_runs (first (of_runs levels.deeper)))

  abbrev Older : List Cursor → List Cursor → Option Refusal → Source → Source → Type 0
  Older mid new refusal b c = (behind : List (List PlacedBlock)) → AsksOn (blocks_to_come mid ++ (of_runs levels.deeper ++ behind)) (blocks_to_come new ++ behind) refusal b c

  both_some : (mid : List Cursor) (refusal : Option Refusal) (a b c : Source) → ((behind : List (List PlacedBlock)) → AsksOn (front ++ (of_runs levels.runs ++ behind)) (blocks_to_come mid ++ behind) None a b)
      → AsksSome (blocks_to_come mid ++ (of_runs levels.deeper ++ [])) refusal b c → AsksSome (of_runs (places levels)) refusal a c
  both_some mid refusal a b c first more =
      without_memory from n memory sealed (of_runs (places levels)) refusal a c
      (subst (λ (left : List (List PlacedBlock)). AsksSome (front ++ left) refusal a c) both_runs
      (first (of_runs levels.deeper) refusal c (subst (λ (left : List (List PlacedBlock)). AsksSome (blocks_to_come mid ++ left) refusal b c) (append-nil (of_runs levels.deeper)) more)))

  pub older_refused : (mid new : List Cursor) (e : Refusal) (a b c : Source) → ((behind : List (List PlacedBlock)) → AsksOn (front ++ (of_runs levels.runs ++ behind)) (blocks_to_come mid ++ behind) None a b) → Older mid new (Some e) b c
      → AsksSome (of_runs (places levels)) (Some e) a c
  older_refused mid new e a b c first second = both_some mid (Some e) a b c first (second [])

  pub all_sought : (mid new : List Cursor) (a b c : Source) → ((behind : List (List PlacedBlock)) → AsksOn (front ++ (of_runs levels.runs ++ behind)) (blocks_to_come mid ++ behind) None a b) → Older mid new None b c
      → AsksOn (of_runs (places levels)) (blocks_to_come new) None a c
  all_sought mid new a b c first second = λ refusal end more.
      both_some mid refusal a b end first (second [] refusal end (subst (λ (left : List (List PlacedBlock)). AsksSome left refusal c end) (sym (append-nil (blocks_to_come new))) more))

  abbrev pub RunsAsk : List (List Table) → List Cursor → List Cursor → Option Refusal → Source → Source → Type 0
  RunsAsk runs cursors next refusal old new = (behind : List (List PlacedBlock)) → AsksOn (blocks_to_come cursors ++ (of_runs runs ++ behind)) (blocks_to_come next ++ behind) refusal old new

  -- as cursors and runs were given
  module _ (cursors : List Cursor) (newer older : List (List Table)) (from_memory : cursors ≡ memory_cursors from n memory sealed) (same_newer : newer ≡ levels.runs) (same_older : older ≡ levels.deeper) where
    newer_ask : (mid : List Cursor) (refusal : Option Refusal) (a b : Source) → RunsAsk newer cursors mid refusal a b → RunsAsk levels.runs (memory_cursors from n memory sealed) mid refusal a b
    newer_ask mid refusal a b h = subst (λ (cs : List Cursor). RunsAsk levels.runs cs mid refusal a b) from_memory (subst (λ (rs : List (List Table)). RunsAsk rs cursors mid refusal a b) same_newer h)

    older_ask : (mid new : List Cursor) (refusal : Option Refusal) (a b : Source) → RunsAsk older mid new refusal a b → RunsAsk levels.deeper mid new refusal a b
    older_ask mid new refusal a b h = subst (λ (rs : List (List Table)). RunsAsk rs mid new refusal a b) same_older h

    pub view_newer_refused : (mid : List Cursor) (e : Refusal) (a b : Source) → RunsAsk newer cursors mid (Some e) a b → AsksSome (of_runs (places levels)) (Some e) a b
    view_newer_refused mid e a b first = newer_refused mid e a b (newer_ask mid (Some e) a b first)

    pub view_older_refused : (mid new : List Cursor) (e : Refusal) (a b c : Source) → RunsAsk newer cursors mid None a b → RunsAsk older mid new (Some e) b c → AsksSome (of_runs (places levels)) (Some e) a c
    view_older_refused mid new e a b c first second = older_refused mid new e a b c (newer_ask mid None a b first) (older_ask mid new (Some e) b c second)

    pub view_sought : (mid new : List Cursor) (a b c : Source) → RunsAsk newer cursors mid None a b → RunsAsk older mid new None b c → AsksOn (of_runs (places levels)) (blocks_to_come new) None a c
    view_sought mid new a b c first second = all_sought mid new a b c (newer_ask mid None a b first) (older_ask mid new None b c second)

-- ---- what it comes to

placed_from : (place : BlockName → Option ℕ) (area : ℕ) (key : Bytes) (run : List Table) → AllByRecursion (IsPlaced place area) run → AllByRecursion (IsPlacedAt place) (blocks_from_key area key run)
placed_from place area key run all =
    let tables : List Table = filter (λ t. at_most key t.last) run in
    left_of_all (IsPlacedAt place) area (passed_blocks key tables) tables
    (all_blocks (IsPlaced place area) (IsPlacedAt place) area (λ t i placed lt. placed.at i lt) tables (all_filter (IsPlaced place area) (λ t. at_most key t.last) run all))

numbered_from : (number area : ℕ) (key : Bytes) (run : List Table) → AllByRecursion (λ t. t.number < number) run → AllByRecursion (λ b. b.name.table < number) (blocks_from_key area key run)
numbered_from number area key run all =
    let tables : List Table = filter (λ t. at_most key t.last) run in
    left_of_all (λ b. b.name.table < number) area (passed_blocks key tables) tables
    (all_blocks (λ t. t.number < number) (λ b. b.name.table < number) area (λ t i low lt. low) tables (all_filter (λ t. t.number < number) (λ t. at_most key t.last) run all))

all_of_runs : (P : List Table → Type 0) (Q : List PlacedBlock → Type 0) (area : ℕ) (key : Bytes) → ((run : List Table) → P run → Q (blocks_from_key area key run)) → (runs : List (List Table)) → AllByRecursion P runs → AllByRecursion Q (blocks_of_runs area key runs)
all_of_runs P Q area key f [] all = tt
all_of_runs P Q area key f (run ∷ runs) all = (f run all.0, all_of_runs P Q area key f runs all.1)

pub scans_runs : (area : ℕ) (key : Bytes) (runs : List (List Table)) (refusal : Option Refusal) (old new : Source) → AsksSome (blocks_of_runs area key runs) refusal old new → ScansRuns area key runs refusal old new
scans_runs area key runs refusal old new h =
    let s = sums (blocks_of_runs area key runs) h.asked refusal old new h.in_turn in
    record {
      asks = h;
      reads = s.reads;
      at_most = s.at_most;
      faults = s.faults;
      stops = s.stops;
      numbered = λ number all below. s.numbered number (all_of_runs (AllByRecursion (λ t. t.number < number)) (AllByRecursion (λ b. b.name.table < number)) area key (numbered_from number area key) runs all) below;
      fresh = λ place tells all fresh.
          let shown = still_shown place (seen (disk old.medium)) (blocks_of_runs area key runs) h.asked refusal old new
          (all_of_runs (AllByRecursion (IsPlaced place area)) (AllByRecursion (IsPlacedAt place)) area key (placed_from place area key) runs all) (record { tells = tells; holds = refl; fresh = fresh }) h.in_turn in
          subst (λ (held : List (List ℕ)). IsFresh place held new.cache) (sym shown.holds) shown.fresh;
    }

-- ---- what sources have left

pub memory_ready : (size : ℕ) (from : Bytes) (n : ℕ) (memory : List Version) (sealed : Option (Bor (List Version))) → AreReady size (memory_cursors from n memory sealed)
memory_ready size from n memory None = record { within = (tt, tt); fair = (fair_oks (from_key from (newest_each n memory)), tt) }
memory_ready size from n memory (Some sealed) = record { within = (tt, (tt, tt)); fair = (fair_oks (from_key from (newest_each n memory)), (fair_oks (from_key from (newest_each n sealed.now)), tt)) }

module _ (place : BlockName → Option ℕ) (sectors : List (List ℕ)) where
  versions_give : (versions : List Version) → GivesLeft place sectors versions (cursor_of_versions versions)
  versions_give versions = record { left = record { stands = sym (first_present versions); left = append-nil (map (λ v. Ok v) versions) }; placed = tt }

  abbrev pub memory_left : Bytes → ℕ → List Version → Option (Bor (List Version)) → List (List Version)
  memory_left from n memory sealed = map (λ place. from_key from (newest_each n place)) (memory_places memory sealed)

  pub memory_gives : (from : Bytes) (n : ℕ) (memory : List Version) (sealed : Option (Bor (List Version))) → AllGive place sectors (memory_left from n memory sealed) (memory_cursors from n memory sealed)
  memory_gives from n memory None = (versions_give (from_key from (newest_each n memory)), tt)
  memory_gives from n memory (Some sealed) = (versions_give (from_key from (newest_each n memory)), (versions_give (from_key from (newest_each n sealed.now)), tt))

left_of_runs : (n : ℕ) (from : Bytes) (runs : List (List Table)) → AreLeftOf n from (map (λ run. from_key from (versions_of run)) runs) (map versions_of runs)
left_of_runs n from [] = tt
left_of_runs n from (run ∷ runs) = (inl refl, left_of_runs n from runs)

left_of_all_places : (n : ℕ) (from : Bytes) (memory : List Version) (sealed : Option (Bor (List Version))) (runs : List (List Table))
    → AreLeftOf n from (map (λ place. from_key from (newest_each n place)) (memory_places memory sealed) ++ map (λ run. from_key from (versions_of run)) runs) (memory_places memory sealed ++ map versions_of runs)
left_of_all_places n from memory None runs = (inr refl, left_of_runs n from runs)
left_of_all_places n from memory (Some sealed) runs = (inr refl, (inr refl, left_of_runs n from runs))

version_order : (memory : List Version) (sealed : Option (Bor (List Version))) (runs : List (List Table)) → IsVersionOrder (versions_in_places memory (sealed_now sealed) runs) → IsVersionOrder (memory_places memory sealed ++ map versions_of runs)
version_order memory None runs h = (h.0.1, h.1.1)
version_order memory (Some sealed) runs h = h

same_joined : (memory : List Version) (sealed : Option (Bor (List Version))) (runs : List (List Table)) → joined (memory_places memory sealed ++ map versions_of runs) ≡ joined (versions_in_places memory (sealed_now sealed) runs)
same_joined memory None runs = refl
same_joined memory (Some sealed) runs = refl

pub runs_ordered : (sectors : List (List ℕ)) (area : ℕ) (runs : List (List Table)) → AllByRecursion IsRun runs → AreStored sectors area runs → AllByRecursion AreOrdered (map versions_of runs)
runs_ordered sectors area [] r all = tt
runs_ordered sectors area (run ∷ runs) r all = (run_ordered sectors area run r.0 all.0, runs_ordered sectors area runs r.1 all.1)

-- sources of a view come to the page of its map
pub view_comes : (place : BlockName → Option ℕ) (sectors : List (List ℕ)) (area n limit : ℕ) (from : Bytes) (to : Option Bytes) (memory : List Version) (sealed : Option (Bor (List Version))) (runs : List (List Table)) (cursors : List Cursor) (s : Source)
    → AllByRecursion AreOrdered (memory_places memory sealed) → AllByRecursion IsRun runs → AreStored sectors area runs → IsVersionOrder (versions_in_places memory (sealed_now sealed) runs)
    → AllGive place sectors (map (λ place. from_key from (newest_each n place)) (memory_places memory sealed) ++ map (λ run. from_key from (versions_of run)) runs) cursors → Shows place sectors s
    → ComesTo place sectors (page_of (map_of (joined (versions_in_places memory (sealed_now sealed) runs)) n) from to limit) (gathering n to limit) cursors s
view_comes place sectors area n limit from to memory sealed runs cursors s ordered r stored order gives shows =
    let all : List (List Version) = memory_places memory sealed ++ map versions_of runs in
    let sources : List (List Version) = map (λ place. from_key from (newest_each n place)) (memory_places memory sealed) ++ map (λ run. from_key from (versions_of run)) runs in
    let in_order : AreInOrder all = record { entries = all_append AreOrdered (memory_places memory sealed) (map versions_of runs) ordered (runs_ordered sectors area runs r stored); versions = version_order memory sealed runs order } in
    let left = left_of_all_places n from memory sealed runs in
    record {
      lefts = sources;
      gives = gives;
      order = parts_in_order n from all sources in_order left;
      whole = same_page n from limit to all sources in_order left ∙ ap (λ (vs : List Version). page_of (map_of vs n) from to limit) (same_joined memory sealed runs);
      shows = shows;
    }

-- the page that has come
pub page_has_come : (page result : Page) (g : Gathering) → HasCome page g → result ≡ page_so_far g → (g.next ≡ None → result ≡ page_with g []) → result ≡ page
page_has_come page result g (inl h) so_far whole = whole h.0 ∙ h.1
page_has_come page result g (inr h) so_far whole = so_far ∙ h

-- ---- what the sources of a view have left, as cursors and runs were given

abbrev pub RunsDo : (BlockName → Option ℕ) → List (List ℕ) → ℕ → List (List Table) → List Cursor → Source → (List (List Version) → Type 0) → Type 0
RunsDo place sectors area runs cursors old R =
    (lefts : List (List Version)) → AllByRecursion IsRun runs → AreStored sectors area runs → ArePlaced place area runs → AllGive place sectors lefts cursors → Shows place sectors old → R lefts

module _ (place : BlockName → Option ℕ) (sectors : List (List ℕ)) (area : ℕ) (from : Bytes) (n : ℕ) (memory : List Version) (sealed : Option (Bor (List Version))) (levels : Levels)
    (cursors : List Cursor) (newer older : List (List Table)) (from_memory : cursors ≡ memory_cursors from n memory sealed) (same_newer : newer ≡ levels.runs) (same_older : older ≡ levels.deeper)
    (r : AllByRecursion IsRun (places levels)) (stored : AreStored sectors area (places levels)) (placed : ArePlaced place area (places levels)) where
  abbrev lefts : List (List Version)
  lefts = memory_left place sectors from n memory sealed

  abbrev lefts_of : List (List Table) → List (List Version)
  lefts_of runs = map (λ run. from_key from (versions_of run)) runs

  pub newer_do : (a : Source) → Shows place sectors a → (R : List (List Version) → Type 0) → RunsDo place sectors area newer cursors a R → R lefts
  newer_do a shows R f =
      f lefts (subst (AllByRecursion IsRun) (sym same_newer) (all_left IsRun levels.runs levels.deeper r))
      (subst (AreStored sectors area) (sym same_newer) (all_left (AllByRecursion (IsStored sectors area)) levels.runs levels.deeper stored))
      (subst (ArePlaced place area) (sym same_newer) (all_left (AllByRecursion (IsPlaced place area)) levels.runs levels.deeper placed))
      (subst (AllGive place sectors lefts) (sym from_memory) (memory_gives place sectors from n memory sealed)) shows

  pub older_do : (mid : List Cursor) (b : Source) → AllGive place sectors (lefts ++ lefts_of newer) mid × Shows place sectors b → (R : List (List Version) → Type 0) → RunsDo place sectors area older mid b R → R (lefts ++ lefts_of newer)
  older_do mid b h R f =
      f (lefts ++ lefts_of newer) (subst (AllByRecursion IsRun) (sym same_older) (all_right IsRun levels.runs levels.deeper r))
      (subst (AreStored sectors area) (sym same_older) (all_right (AllByRecursion (IsStored sectors area)) levels.runs levels.deeper stored))
      (subst (ArePlaced place area) (sym same_older) (all_right (AllByRecursion (IsPlaced place area)) levels.runs levels.deeper placed))
      h.0 h.1

  all_lefts : (lefts ++ lefts_of newer) ++ lefts_of older ≡ lefts ++ lefts_of (places levels)
  all_lefts =
      append_assoc lefts (lefts_of newer) (lefts_of older)
      ∙ ap (λ (ls : List (List Version)). lefts ++ ls) (ap (λ (rs : List (List Table)). lefts_of rs ++ lefts_of older) same_newer ∙ ap (λ (rs : List (List Table)). lefts_of levels.runs ++ lefts_of rs) same_older
      ∙ sym (map-append (λ (run : List Table). from_key from (versions_of run)) levels.runs levels.deeper))

  pub view_given : (new : List Cursor) → AllGive place sectors ((lefts ++ lefts_of newer) ++ lefts_of older) new → AllGive place sectors (lefts ++ lefts_of (places levels)) new
  view_given new h = subst (λ (ls : List (List Version)). AllGive place sectors ls new) all_lefts h
