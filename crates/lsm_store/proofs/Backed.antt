-- The device of a running store backs it, and goes on to where nothing but reads, a sync or an append comes.
use Rattle.std.proofs.Common.{◌≡◌, ◌++◌, ◌∷◌, ℕ, List, [], Bool, length, replicate, Some, true, refl, sym, ap, subst, IsTrue}
use Rattle.std.specs.Prelude.{Option, None, IsNone}
use Rattle.lsm_cache.specs.Fresh.{IsFresh}
use Rattle.lsm_cache.specs.Recency.{Cached}
use Rattle.lsm_cache.specs.declared.name.BlockName.{BlockName}
use Rattle.lsm_codec.specs.Map.{Operation}
use Rattle.lsm_device.specs.Disk.{Disk, seen, synced}
use Rattle.lsm_device.specs.History.{present, EachSince}
use Rattle.lsm_device.specs.Medium.{Lasting, Medium, disk}
use Rattle.lsm_device.specs.Outcomes.{Leaves}
use Rattle.lsm_device.proofs.Moments.{ended}
use Rattle.lsm_device.proofs.Outcomes.{seen_outcome}
use Rattle.lsm_levels.specs.Levels.{all_tables, places}
use Rattle.lsm_levels.specs.NamedBlocks.{place_among}
use Rattle.lsm_levels.specs.Stored.{ArePlaced, AreStored, IsReadable}
use Rattle.lsm_levels.proofs.NamedBlocks.{named_law}
use Rattle.lsm_log.specs.Opened.{IsOpen, IsGrownBy, TakesBatch, batches_in}
use Rattle.lsm_open.specs.Image.{StandFor}
use Rattle.lsm_open.specs.Recovering.{StandForOne}
use Rattle.lsm_open.specs.declared.regions.OpenRegion.{OpenRegion}
use Rattle.lsm_levels.specs.NamedBlocks.{HasNoBlock}
use Rattle.lsm_levels.specs.Tables.{Table}
use Rattle.lsm_levels.proofs.Ranges.{all_of, of_all}
use Rattle.lsm_machine.specs.Accounts.{outputs_in, tables_placed, AreNumbered}
use Rattle.lsm_machine.proofs.TableNumbers.{none_to_come, none_of_others}
use Rattle.lsm_store.specs.Backing.{StoreView, HasNoneOf, IsRunOn, IsBacked, placement_of, data_start, machine_of}
use Rattle.lsm_machine.specs.Calls.{Commit, Sync}
use Rattle.lsm_machine.specs.Crash.{may_leave, last_crash_state}
use Rattle.lsm_machine.specs.Effects.{after}
use Rattle.lsm_store.specs.InstalledJobs.{AreSealedIn, AreLoggedIn, placed_by}
use Rattle.lsm_store.specs.Reading.{ReadsThrough, source_of}
use Rattle.lsm_machine.specs.Refusals.{refusal}
use Rattle.lsm_machine.specs.State.{LiveSnapshot}
use Rattle.lsm_store.specs.StoredTables.{IsStoredIn, IsStoredWithJobs, with_log}
use Rattle.lsm_machine.specs.WorkEffects.{work_called}
use Rattle.lsm_machine.specs.WorkSound.{IsSound}
use Rattle.lsm_store.proofs.AppendedTables.{commit_stored, commit_extents}
use Rattle.lsm_store.proofs.CallSounds.{call_sound_law}
use Rattle.lsm_store.proofs.LeftStates.{stored_leaves, stored_reads}
use Rattle.lsm_store.proofs.LoggedVersions.{appended_sealed, appended_logged}
use Rattle.lsm_store.proofs.StoredLevels.{levels_kept, blocks_kept}
use Rattle.lsm_store.proofs.KeptJobs.{commit_keeps, sync_keeps}

pub run_backed : (v : StoreView) → IsTrue v.device.lasting.tells → IsRunOn v → IsBacked v
run_backed v tells runs = record {
  tells = tells;
  crashes = stored_leaves (placement_of v) v.state (disk v.device) runs.stored.stored;
  reads = λ running. stored_reads (placement_of v) v.state (disk v.device) runs.stored.stored;
  runs = λ running. runs;
}

-- without a crash reads give what one may leave
pub reads_left : (v : StoreView) → IsBacked v → StandForOne v.state.log_sectors (may_leave v.state) (seen (disk v.device))
reads_left v backed = subst (StandForOne v.state.log_sectors (may_leave v.state)) (seen_outcome (disk v.device)) (backed.crashes (replicate (length (disk v.device).pending) true))

-- ---- reads

-- where the data blocks of its tables stand
abbrev pub place_in : StoreView → BlockName → Option ℕ
place_in v = place_among (data_start v) (all_tables (places v.work.levels))

-- the same store after one
abbrev pub read_on : StoreView → Medium → Cached → StoreView
read_on v new cache = record v { device = new; cache = cache }

module _ (v : StoreView) where
  pub places_known : IsRunOn v → ArePlaced (place_in v) (data_start v) (places v.work.levels)
  places_known runs = named_law.placed (data_start v) (places v.work.levels) runs.apart

  pub readable : IsBacked v → IsNone v.state.stopped → IsReadable (place_in v) (data_start v) (places v.work.levels) (source_of v)
  readable backed running =
      let runs = backed.runs running in
      record { tells = backed.tells; stored = runs.tables; placed = places_known runs; fresh = runs.fresh }

  module _ (new : Medium) (cache : Cached) (most : ℕ) (ok : Bool) (reads : ReadsThrough most (data_start v) v.work.levels ok (source_of v) (record { cache = cache; medium = new })) where
    same_disk : IsTrue v.device.lasting.tells → disk new ≡ disk v.device
    same_disk tells = ap present (reads.unchanged tells)

    module _ (numbered : AreNumbered v.work.next_table (tables_placed v.work)) where
      unasked_on : HasNoneOf v.work.next_table (outputs_in v.work.jobs.slots) v.cache → HasNoneOf v.work.next_table (outputs_in v.work.jobs.slots) cache
      unasked_on none = record {
        later = λ n h. reads.others n (none_to_come v.work.next_table (places v.work.levels) (outputs_in v.work.jobs.slots) numbered n h) (none.later n h);
        written = all_of (λ t. HasNoBlock t.number cache) (outputs_in v.work.jobs.slots)
            (λ t a. reads.others t.number (none_of_others v.work.next_table (places v.work.levels) (outputs_in v.work.jobs.slots) numbered t a) (of_all (λ (u : Table). HasNoBlock u.number v.cache) (outputs_in v.work.jobs.slots) none.written t a));
      }

    pub runs_on : AreNumbered v.work.next_table (tables_placed v.work) → IsTrue v.device.lasting.tells → IsRunOn v → IsRunOn (read_on v new cache)
    runs_on numbered tells runs =
        let same : disk v.device ≡ disk new = sym (same_disk tells) in
        record {
          stored = subst (λ (d : Disk). IsStoredWithJobs (placement_of v) (placed_by v.work.jobs.slots) v.state d) same runs.stored;
          sound = runs.sound;
          sealed = subst (λ (d : Disk). AreSealedIn (placement_of v) (seen d) v.work.sealed) same runs.sealed;
          logged = subst (λ (d : Disk). AreLoggedIn (placement_of v) (seen d) v.work.memory) same runs.logged;
          tables = subst (λ (d : Disk). AreStored (seen d) (data_start v) (places v.work.levels)) same runs.tables;
          apart = runs.apart;
          fresh = reads.fresh (place_in v) tells (places_known runs) runs.fresh;
          unasked = unasked_on numbered runs.unasked;
        }

    pub backed_on : AreNumbered v.work.next_table (tables_placed v.work) → IsBacked v → IsBacked (read_on v new cache)
    backed_on numbered backed = record {
      tells = subst (λ (l : Lasting). IsTrue l.tells) (sym reads.same_lasting) backed.tells;
      crashes = subst (λ (d : Disk). Leaves (StandForOne v.state.log_sectors (may_leave v.state)) d) (sym (same_disk backed.tells)) backed.crashes;
      reads = λ running. subst (λ (d : Disk). StandFor v.state.log_sectors (last_crash_state v.state) (seen d)) (sym (same_disk backed.tells)) (backed.reads running);
      runs = λ running. runs_on numbered backed.tells (backed.runs running);
    }

-- ---- a sync

module _ (v : StoreView) (runs : IsRunOn v) (none : refusal v.state Sync ≡ None) where
  pub runs_synced : (new : Medium) → disk new ≡ synced (disk v.device) → IsRunOn (record v { device = new; state = after v.state Sync })
  runs_synced new same = record {
    stored = subst (λ (d : Disk). IsStoredWithJobs (placement_of v) (placed_by v.work.jobs.slots) (after v.state Sync) d) (sym same) (sync_keeps (placement_of v) (placed_by v.work.jobs.slots) v.state (disk v.device) runs.stored);
    sound = call_sound_law (machine_of v) Sync runs.sound none;
    sealed = subst (λ (d : Disk). AreSealedIn (placement_of v) (seen d) v.work.sealed) (sym same) runs.sealed;
    logged = subst (λ (d : Disk). AreLoggedIn (placement_of v) (seen d) v.work.memory) (sym same) runs.logged;
    tables = subst (λ (d : Disk). AreStored (seen d) (data_start v) (places v.work.levels)) (sym same) runs.tables;
    apart = runs.apart;
    fresh = subst (λ (d : Disk). IsFresh (place_in v) (seen d) v.cache) (sym same) runs.fresh;
    unasked = runs.unasked;
  }

-- ---- an append to the open log

-- the store with the batch
abbrev pub committed_on : StoreView → List Operation → OpenRegion → Medium → StoreView
committed_on v batch x new = record { device = new; state = after v.state (Commit batch); layout = record v.layout { open_region = Some x }; work = work_called (machine_of v) (Commit batch); cache = v.cache }

module _ (v : StoreView) (runs : IsRunOn v) (batch : List Operation) (none : refusal v.state (Commit batch) ≡ None) (o x : OpenRegion) (is_open : v.layout.open_region ≡ Some o) (new : Medium) where
  pub runs_committed : EachSince (IsGrownBy o.log (disk v.device)) v.device.history new.history → x.region ≡ o.region → TakesBatch batch o.log x.log → IsOpen x.log (disk new)
      → batches_in x.log (seen (disk new)) ≡ batches_in o.log (seen (disk v.device)) ++ batch ∷ [] → batches_in x.log (disk new).stands ≡ batches_in o.log (disk v.device).stands → IsRunOn (committed_on v batch x new)
  runs_committed grown region takes opened reads stands =
      let p = placement_of v in
      let last = ended (IsGrownBy o.log (disk v.device)) v.device.history new.history grown in
      let kept = commit_extents p v.state o (disk v.device) (disk new) runs.stored.stored is_open last in
      let next : IsStoredIn (with_log p x) (after v.state (Commit batch)) (disk new) = commit_stored p v.state o x batch v.device.history new.history runs.stored.stored is_open grown region takes opened reads stands in
      let same : (disk new).stands ≡ (disk v.device).stands = ap (λ (d : Disk). d.stands) last.2 in
      record {
        stored = commit_keeps p (placed_by v.work.jobs.slots) v.state (after v.state (Commit batch)) o x (disk v.device) (disk new) runs.stored is_open last next;
        sound = call_sound_law (machine_of v) (Commit batch) runs.sound none;
        sealed = appended_sealed p v.state o x (disk v.device) (disk new) runs.stored.stored next.carried.held same v.work.sealed runs.sealed;
        logged = appended_logged p v.state o x (disk v.device) (disk new) runs.stored.stored next.carried.held same batch is_open reads v.work.memory runs.logged;
        tables = levels_kept p v.work.levels (disk v.device) (disk new) refl kept runs.tables;
        apart = runs.apart;
        fresh = named_law.kept (data_start v) (seen (disk v.device)) (seen (disk new)) (all_tables (places v.work.levels)) v.cache (blocks_kept p v.work.levels (disk v.device) (disk new) refl kept) runs.fresh;
        unasked = runs.unasked;
      }

-- ---- other snapshots

abbrev pub with_snapshots : StoreView → List LiveSnapshot → ℕ → StoreView
with_snapshots v snapshots next = record v { state = record v.state { snapshots = snapshots; next_snapshot = next } }

module _ (v : StoreView) (snapshots : List LiveSnapshot) (next : ℕ) (runs : IsRunOn v) where
  pub runs_marked : IsSound (machine_of (with_snapshots v snapshots next)) → IsRunOn (with_snapshots v snapshots next)
  runs_marked sound =
      let is = runs.stored.stored in
      record {
        stored = record {
          stored = record {
            carried = is.carried;
            state = record {
              placed = record { log_sectors = is.state.placed.log_sectors; generation = is.state.placed.generation; closed = is.state.placed.closed; open_log = is.state.placed.open_log; running = is.state.placed.running };
              points = is.state.points;
            };
          };
          jobs = runs.stored.jobs;
        };
        sound = sound;
        sealed = runs.sealed;
        logged = runs.logged;
        tables = runs.tables;
        apart = runs.apart;
        fresh = runs.fresh;
        unasked = runs.unasked;
      }
