-- An install of a job's outputs in a running store: the placement that comes next, and that the store runs on in it.
use Rattle.std.proofs.Common.{◌≡◌, ◌⊎◌, inl, inr, ⊎_elim, ℕ, ◌+◌, ◌-◌, ◌≤◌, ◌^◌, Bool, true, false, cond, List, [], ◌∷◌, ◌++◌, length, Some, None, refl, sym, ◌∙◌, ap, subst, arith}
use Rattle.std.specs.Prelude.{Option, ◌==◌}
use Rattle.std.specs.List.{AllByRecursion}
use Rattle.std.proofs.lemmas.List.{length-append}
use Rattle.std.proofs.lemmas.Option.{same_Some}
use Rattle.lsm_cache.specs.Fresh.{IsFresh}
use Rattle.lsm_cache.specs.Recency.{Cached}
use Rattle.lsm_codec.specs.Map.{Operation}
use Rattle.lsm_codec.specs.declared.table_record.TableRecord.{TableRecord}
use Rattle.lsm_codec.proofs.Lists.{all_left, all_right, all_append, all_map}
use Rattle.lsm_device.specs.Disk.{Disk, seen, written}
use Rattle.lsm_device.specs.Medium.{Medium, disk}
use Rattle.lsm_levels.specs.Among.{IsAmong}
use Rattle.lsm_levels.specs.Held.{AreRuns, IsHeld}
use Rattle.lsm_levels.specs.Levels.{Levels, all_tables, places}
use Rattle.lsm_levels.specs.NamedBlocks.{AreNumberedApart, HasNoBlock, place_among}
use Rattle.lsm_levels.specs.Pick.{Job, Flush, Merge, is_flush, installed_levels}
use Rattle.lsm_levels.specs.Stored.{AreStored}
use Rattle.lsm_levels.specs.Tables.{Table}
use Rattle.lsm_levels.proofs.Members.{among_left, among_right, among_either}
use Rattle.lsm_levels.proofs.NamedBlocks.{named_law}
use Rattle.lsm_levels.proofs.Ranges.{all_of, of_all}
use Rattle.lsm_jobs.specs.Outputs.{AreMadeOf}
use Rattle.lsm_jobs.specs.Slots.{Slot, Slots, Writing, slot_of, with_held, outputs_at}
use Rattle.lsm_open.specs.Layout.{Layout, open_batches}
use Rattle.lsm_open.specs.Placements.{Placement, contents_for, closed_in}
use Rattle.lsm_open.specs.Recovering.{placed_in}
use Rattle.lsm_open.specs.Switching.{flushed, AreFlushed, merged, with_outputs, AreMerged}
use Rattle.lsm_open.specs.Tables.{first_data}
use Rattle.lsm_open.specs.ToldTables.{records_of}
use Rattle.lsm_open.specs.Writing.{PlacedTable, tables_of}
use Rattle.lsm_open.specs.declared.regions.OpenRegion.{OpenRegion}
use Rattle.lsm_open.proofs.HeldRegions.{BeginsAfter}
use Rattle.lsm_root.specs.Installed.{IsInstalled}
use Rattle.lsm_root.specs.Layout.{behind}
use Rattle.lsm_root.specs.Roots.{Stands}
use Rattle.lsm_machine.specs.Accounts.{outputs_in}
use Rattle.lsm_store.specs.Backing.{StoreView, IsRunOn, placement_of, data_start, machine_of}
use Rattle.lsm_store.specs.InstalledJobs.{output_records, placed_for, HasPlaced, parts_of, installed_in, first_open, installed_layout, AreSealedIn, AreLoggedIn}
use Rattle.lsm_machine.specs.RecoveryPoints.{batch_count}
use Rattle.lsm_machine.specs.State.{State}
use Rattle.lsm_store.specs.StoredTables.{IsStoredIn, IsStoredWithJobs, KeepsExtents, MayGoOn}
use Rattle.lsm_machine.specs.Work.{Install}
use Rattle.lsm_machine.specs.WorkEffects.{with_installed}
use Rattle.lsm_machine.specs.Effects.{installed}
use Rattle.lsm_machine.specs.WorkRefusals.{held, of_slot, running_refusal}
use Rattle.lsm_machine.specs.WorkSound.{IsSound}
use Rattle.lsm_machine.specs.Machine.{Machine}
use Rattle.lsm_store.proofs.InstallSounds.{sound_law}
use Rattle.lsm_store.proofs.InstalledTables.{count_is, flush_goes_on, merge_goes_on, install_extents}
use Rattle.lsm_store.proofs.KeptJobs.{flush_taken, merge_taken}
use Rattle.lsm_store.proofs.LeftStates.{begins_at}
use Rattle.lsm_store.proofs.LoggedVersions.{installed_sealed, installed_logged}
use Rattle.lsm_store.proofs.MergedRecords.{installed_records, installed_runs}
use Rattle.lsm_store.proofs.StoredLevels.{levels_kept, blocks_kept, installed_have, levels_installed}
use Rattle.lsm_store.proofs.StoredTables.{closed_seen}
use Rattle.lsm_store.proofs.WorkSounds.{there}
use Rattle.lsm_store.proofs.WrittenFlush.{flush_written}
use Rattle.lsm_store.proofs.WrittenMerge.{merge_written}
use Rattle.lsm_store.proofs.WrittenOutputs.{outputs_stored, records_placed, has_placed}

-- the store after an install of a slot's job
abbrev pub installed_on : StoreView → ℕ → Slot → Medium → StoreView
installed_on v job slot new = record {
  device = new;
  state = installed (is_flush slot.job) v.state;
  layout = installed_layout v.layout (batch_count v.state.points) v.work.next_table slot.job;
  work = with_installed v.work job slot;
  cache = v.cache;
}

-- ---- the placement that comes next

-- the batches before the open log are those up to the base and in the closed regions
before_open : (o : Option OpenRegion) (base count : ℕ) (before : List (List Operation)) (sectors : List (List ℕ)) → BeginsAfter base before o → count ≡ base + length (before ++ open_batches o sectors)
    → first_open count o - 1 ≡ base + length before
before_open (Some o) base count before sectors begins is = omega (arith, begins)
before_open None base count before sectors begins is = omega (arith, is, length-append before [])

-- an install leaves the log regions as large as they are
pub same_sectors : (l : Layout) (count next_table : ℕ) (job : Job) → (installed_layout l count next_table job).log_sectors ≡ l.log_sectors
same_sectors l count next_table Flush = refl
same_sectors l count next_table (Merge i upper lower) = refl

-- the outputs of a job may be put in
abbrev MayBePutOn : Placement → Levels → Disk → List Table → Job → Type 0
MayBePutOn p levels d new Flush = AreFlushed p (seen d) (output_records Flush new)
MayBePutOn p levels d new (Merge i upper lower) = AreMerged p (seen d) (parts_of levels i upper lower) (output_records (Merge i upper lower) new)

module _ (p : Placement) (s : State) (d : Disk) (levels : Levels) (next_table : ℕ) (new : List Table) where
  module _ (stored : IsStoredIn p s d) where
    base_then : first_open (batch_count s.points) p.logs.open_region - 1 ≡ p.logs.base + length (closed_in p (seen d))
    base_then =
        let own = stored.carried.held in
        before_open p.logs.open_region p.logs.base (batch_count s.points) (closed_in p d.stands) (seen d) (begins_at p d own) (count_is p s d stored)
        ∙ ap (λ (t : List (List Operation)). p.logs.base + length t) (sym (closed_seen p d own))

    -- what the next layout and levels name is what the install makes of the placement
    placed_then : (bottom : Bool) (job : Job) → AreRuns levels → IsHeld levels bottom job → records_of levels ≡ p.tables → length levels.runs ≡ p.runs
        → placed_in (installed_layout p.logs (batch_count s.points) next_table job) (installed_levels levels job new) (records_of (installed_levels levels job new)) ≡ installed_in p d levels job next_table new
    placed_then bottom Flush runs has named count = λ i. record {
      logs = record p.logs { generation = p.logs.generation + 1; base = base_then i; next_table = next_table; closed = [] };
      runs = installed_runs p d levels Flush next_table new count i;
      tables = installed_records p d levels bottom Flush next_table new runs has named i;
    }
    placed_then bottom (Merge k upper lower) runs has named count = λ i. record {
      logs = record p.logs { generation = p.logs.generation + 1; next_table = next_table };
      runs = length (installed_levels levels (Merge k upper lower) new).runs;
      tables = installed_records p d levels bottom (Merge k upper lower) next_table new runs has named i;
    }

    job_goes_on : (job : Job) → MayBePutOn p levels d new job → MayGoOn (installed_in p d levels job next_table new) (installed (is_flush job) s) d
    job_goes_on Flush are = flush_goes_on p s d stored next_table (output_records Flush new) are
    job_goes_on (Merge i upper lower) are =
        merge_goes_on p s d stored next_table (length (installed_levels levels (Merge i upper lower) new).runs) (parts_of levels i upper lower) (output_records (Merge i upper lower) new) are

  -- the install takes over what the job has placed
  module _ (xs own ys : List PlacedTable) (stored : IsStoredWithJobs p (xs ++ (own ++ ys)) s d) (then : Disk) where
    job_taken : (job : Job) → tables_of own ≡ output_records job new → MayBePutOn p levels d new job → IsInstalled d (Stands p.logs.log_sectors (contents_for (installed_in p d levels job next_table new))) then
        → IsStoredWithJobs (installed_in p d levels job next_table new) (xs ++ ys) (installed (is_flush job) s) then
    job_taken Flush same are is =
        let count = length (closed_in p (seen d)) in
        subst (λ (ts : List TableRecord). IsStoredWithJobs (flushed p count next_table ts) (xs ++ ys) (installed true s) then) same
        (flush_taken p xs own ys s d then next_table stored (subst (AreFlushed p (seen d)) (sym same) are)
        (subst (λ (ts : List TableRecord). IsInstalled d (Stands p.logs.log_sectors (contents_for (flushed p count next_table ts))) then) (sym same) is))
    job_taken (Merge i upper lower) same are is =
        let runs = length (installed_levels levels (Merge i upper lower) new).runs in
        let x = parts_of levels i upper lower in
        subst (λ (ts : List TableRecord). IsStoredWithJobs (merged p next_table runs (with_outputs x ts)) (xs ++ ys) (installed false s) then) same
        (merge_taken p xs own ys s d then next_table runs x stored (subst (AreMerged p (seen d) x) (sym same) are)
        (subst (λ (ts : List TableRecord). IsInstalled d (Stands p.logs.log_sectors (contents_for (merged p next_table runs (with_outputs x ts)))) then) (sym same) is))

-- ---- what holds of tables

module _ (P : Table → Type 0) where
  in_runs : (runs : List (List Table)) → ((t : Table) → IsAmong t (all_tables runs) → P t) → AllByRecursion (AllByRecursion P) runs
  in_runs [] each = tt
  in_runs (run ∷ rest) each = (all_of P run (λ t a. each t (among_left t run (all_tables rest) a)), in_runs rest (λ t a. each t (among_right t run (all_tables rest) a)))

  of_runs : (runs : List (List Table)) → AllByRecursion (AllByRecursion P) runs → (t : Table) → IsAmong t (all_tables runs) → P t
  of_runs [] all t a = absurd a
  of_runs (run ∷ rest) all t a = ⊎_elim (of_all P run all.0 t) (of_runs rest all.1 t) (among_either t run (all_tables rest) a)

  -- what holds of all outputs holds of those of a job, and of those of the others
  outputs_parted : (job : ℕ) (slots : Slots) (slot : Slot) → slot_of job slots ≡ Some slot → AllByRecursion P (outputs_in slots) → AllByRecursion P (outputs_at slot.stage) × AllByRecursion P (outputs_in (with_held job None slots))
  outputs_parted job [] slot is all = absurd cc
  outputs_parted job (None ∷ rest) slot is all = outputs_parted job rest slot is all
  outputs_parted job (Some one ∷ rest) slot is all =
      let here = all_left P (outputs_at one.stage) (outputs_in rest) all in
      let more = all_right P (outputs_at one.stage) (outputs_in rest) all in
      by here more (λ later. outputs_parted job rest slot later more) (one.number == job) is
    where
      by : AllByRecursion P (outputs_at one.stage) → AllByRecursion P (outputs_in rest)
          → (slot_of job rest ≡ Some slot → AllByRecursion P (outputs_at slot.stage) × AllByRecursion P (outputs_in (with_held job None rest)))
          → (b : Bool) → cond b (Some one) (slot_of job rest) ≡ Some slot
          → AllByRecursion P (outputs_at slot.stage) × AllByRecursion P (outputs_in (cond b (None ∷ rest) (Some one ∷ with_held job None rest)))
      by here more later true e = (subst (λ (s : Slot). AllByRecursion P (outputs_at s.stage)) (same_Some one slot e) here, more)
      by here more later false e = let both = later e in (both.0, all_append P (outputs_at one.stage) (outputs_in (with_held job None rest)) here both.1)

-- each table after an install was there before, or is an output, of which no block is kept
table_before : (levels : Levels) (job : Job) (new : List Table) (c : Cached) → AllByRecursion (λ t. HasNoBlock t.number c) new
    → (t : Table) → IsAmong t (all_tables (places (installed_levels levels job new))) → IsAmong t (all_tables (places levels)) ⊎ HasNoBlock t.number c
table_before levels job new c none =
    let P : Table → Type 0 = λ t. IsAmong t (all_tables (places levels)) ⊎ HasNoBlock t.number c in
    of_runs P (places (installed_levels levels job new))
    (installed_have P new (all_map (λ t no. inr no) new none) levels job (in_runs P (places levels) (λ t a. inl a)))

-- ---- in a running store

module _ (v : StoreView) (job : ℕ) (slot : Slot) (found : held (machine_of v) job ≡ Some slot) (stage : slot.stage ≡ Writing (outputs_at slot.stage) 0) (made : AreMadeOf slot.input (outputs_at slot.stage))
    (high : AllByRecursion (λ t. t.number ≤ 2 ^ 63) (outputs_at slot.stage)) (runs : IsRunOn v) where
  abbrev m : Machine
  m = machine_of v

  abbrev p : Placement
  p = placement_of v

  abbrev d : Disk
  d = disk v.device

  abbrev new : List Table
  new = outputs_at slot.stage

  abbrev after : Levels
  after = installed_levels v.work.levels slot.job (outputs_at slot.stage)

  abbrev q : Placement
  q = placement_of (installed_on v job slot v.device)

  its_place : HasPlaced v.work.jobs.slots job slot
  its_place = has_placed v.work.jobs.slots job slot found

  with_own : IsStoredWithJobs (placement_of v) (its_place.before ++ (placed_for slot ++ its_place.behind)) v.state (disk v.device)
  with_own = subst (λ (placed : List PlacedTable). IsStoredWithJobs p placed v.state d) its_place.own runs.stored

  its_tables : IsHeld v.work.levels slot.input.bottom slot.job
  its_tables = runs.sound.ready.kept.held slot (there m runs.sound job slot found)

  written_then : (j : Job) → slot.job ≡ j → MayBePutOn (placement_of v) v.work.levels (disk v.device) (outputs_at slot.stage) j
  written_then Flush e = flush_written m p its_place.before its_place.behind d job slot new runs.sound with_own runs.sealed found e stage made high
  written_then (Merge i upper lower) e = merge_written m p its_place.before its_place.behind d job slot new i upper lower runs.sound with_own refl runs.tables found e stage made high

  -- its next placement is what an install makes of the one before
  pub installed_placement : placement_of (installed_on v job slot v.device) ≡ installed_in (placement_of v) (disk v.device) v.work.levels slot.job v.work.next_table (outputs_at slot.stage)
  installed_placement = placed_then p v.state d v.work.levels v.work.next_table new runs.stored.stored slot.input.bottom slot.job runs.sound.tied.versions.runs its_tables refl refl

  -- it may go on there
  pub installed_goes_on : MayGoOn (placement_of (installed_on v job slot v.device)) (installed (is_flush slot.job) v.state) (disk v.device)
  installed_goes_on =
      subst (λ (x : Placement). MayGoOn x (installed (is_flush slot.job) v.state) d) (sym installed_placement)
      (job_goes_on p v.state d v.work.levels v.work.next_table new runs.stored.stored slot.job (written_then slot.job refl))

  module _ (none : running_refusal (machine_of v) (Install job) ≡ None) (apart : AreNumberedApart (all_tables (places (installed_levels v.work.levels slot.job (outputs_at slot.stage))))) where
    sound_then : IsSound (record { state = installed (is_flush slot.job) v.state; work = with_installed v.work job slot })
    sound_then =
        subst (λ (o : Option Slot). IsSound (record { state = of_slot v.state (λ (s : Slot). installed (is_flush s.job) v.state) o; work = of_slot v.work (with_installed v.work job) o })) found
        (sound_law m (Install job) runs.sound none tt)

    -- its tables stand before the install too
    tables_here : AreStored (seen (disk v.device)) (first_data v.layout.log_sectors) (places (installed_levels v.work.levels slot.job (outputs_at slot.stage)))
    tables_here = levels_installed (seen d) (first_data v.layout.log_sectors) v.work.levels slot.job new runs.tables (outputs_stored p its_place.before its_place.behind v.state d slot new with_own stage made high)

    module _ (then : Medium) (is : IsInstalled (disk v.device) (Stands v.layout.log_sectors (contents_for (placement_of (installed_on v job slot v.device)))) (disk then)) where
      stored_then : IsStoredWithJobs (placement_of (installed_on v job slot v.device)) (its_place.before ++ its_place.behind) (installed (is_flush slot.job) v.state) (disk then)
      stored_then =
          subst (λ (x : Placement). IsStoredWithJobs x (its_place.before ++ its_place.behind) (installed (is_flush slot.job) v.state) (disk then)) (sym installed_placement)
          (job_taken p v.state d v.work.levels v.work.next_table new its_place.before (placed_for slot) its_place.behind with_own (disk then) slot.job (records_placed slot) (written_then slot.job refl)
          (subst (λ (x : Placement). IsInstalled d (Stands v.layout.log_sectors (contents_for x)) (disk then)) installed_placement is))

      same_behind : behind (seen (disk then)) ≡ behind (seen (disk v.device))
      same_behind = ap (λ (c : List (List ℕ)). behind c) (ap (written (disk then).stands) is.settled) ∙ is.stands.all

      kept_then : KeepsExtents (placement_of (installed_on v job slot v.device)) (disk v.device) (disk then)
      kept_then = install_extents q (Stands v.layout.log_sectors (contents_for q)) d (disk then) is

      -- of the job's outputs no block is kept, nor of those of the others
      none_asked : AllByRecursion (λ t. HasNoBlock t.number v.cache) (outputs_at slot.stage) × AllByRecursion (λ t. HasNoBlock t.number v.cache) (outputs_in (with_held job None v.work.jobs.slots))
      none_asked = outputs_parted (λ (t : Table). HasNoBlock t.number v.cache) job v.work.jobs.slots slot found runs.unasked.written

      same_size : (installed_layout v.layout (batch_count v.state.points) v.work.next_table slot.job).log_sectors ≡ v.layout.log_sectors
      same_size = same_sectors v.layout (batch_count v.state.points) v.work.next_table slot.job

      fresh_here : IsFresh (place_among (data_start (installed_on v job slot v.device)) (all_tables (places (installed_levels v.work.levels slot.job (outputs_at slot.stage))))) (seen (disk v.device)) v.cache
      fresh_here =
          subst (λ (n : ℕ). IsFresh (place_among (first_data n) (all_tables (places after))) (seen d) v.cache) (sym same_size)
          (named_law.others (data_start v) (seen d) (all_tables (places v.work.levels)) (all_tables (places after)) v.cache runs.apart (table_before v.work.levels slot.job new v.cache none_asked.0) runs.fresh)

      pub runs_installed : IsRunOn (installed_on v job slot then)
      runs_installed = record {
        stored = subst (λ (placed : List PlacedTable). IsStoredWithJobs q placed (installed (is_flush slot.job) v.state) (disk then)) (sym its_place.others) stored_then;
        sound = sound_then;
        sealed = subst (λ (x : Placement). AreSealedIn x (seen (disk then)) (cond (is_flush slot.job) [] v.work.sealed)) (sym installed_placement)
            (installed_sealed p v.work.levels v.work.next_table new d (disk then) runs.stored.stored.carried.held same_behind slot.job v.work.sealed runs.sealed);
        logged = subst (λ (x : Placement). AreLoggedIn x (seen (disk then)) v.work.memory) (sym installed_placement)
            (installed_logged p v.work.levels v.work.next_table new d (disk then) runs.stored.stored.carried.held same_behind slot.job v.work.memory runs.logged);
        tables = levels_kept q after d (disk then) refl kept_then (subst (λ (n : ℕ). AreStored (seen d) (first_data n) (places after)) (sym same_size) tables_here);
        apart = apart;
        fresh = named_law.kept (data_start (installed_on v job slot v.device)) (seen d) (seen (disk then)) (all_tables (places after)) v.cache (blocks_kept q after d (disk then) refl kept_then) fresh_here;
        unasked = record { later = runs.unasked.later; written = none_asked.1 };
      }
