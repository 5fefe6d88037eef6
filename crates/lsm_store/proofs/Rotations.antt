-- A rotation that nothing refuses: what the installation of its root tells, and what the store then does.
use Rattle.std.proofs.Common.{◌≡◌, ◌≢◌, ◌≤◌, ◌+◌, ℕ, false, List, [], ◌++◌, length, Some, None, is_some, refl, sym, ◌∙◌, ap, subst, arith, IsTrue}
use Rattle.std.specs.Prelude.{IsNone, ◌==◌}
use Rattle.std.proofs.lemmas.Bool.{eqb-false, leb-false}
use Rattle.lsm_device.specs.Calls.{faults_after}
use Rattle.lsm_device.specs.declared.refusal.Refusal.TheVariants.{Io, Stopped, SealedWaiting, NothingToRotate, Exhausted}
use Rattle.lsm_device.specs.Disk.{seen, written}
use Rattle.lsm_device.specs.History.{EachSince}
use Rattle.lsm_device.specs.Medium.{Lasting, Medium, disk}
use Rattle.lsm_device.specs.Outcomes.{Leaves}
use Rattle.lsm_device.proofs.Moments.{weaker}
use Rattle.lsm_levels.specs.Levels.{all_tables, places}
use Rattle.lsm_levels.proofs.NamedBlocks.{named_law}
use Rattle.lsm_root.specs.CrashState.{last_number}
use Rattle.lsm_open.specs.Layout.{open_records}
use Rattle.lsm_open.specs.Placements.{Placement, contents_for}
use Rattle.lsm_open.specs.Recovering.{StandForOne}
use Rattle.lsm_open.specs.Switching.{rotated_placement, IsInLeastFree}
use Rattle.lsm_open.specs.declared.regions.OpenRegion.{OpenRegion}
use Rattle.lsm_root.specs.Installed.{IsReady, IsInstalled}
use Rattle.lsm_root.specs.Layout.{behind}
use Rattle.lsm_root.specs.Roots.{Stands}
use Rattle.lsm_store.specs.Backing.{StoreView, IsRunOn, IsBacked, placement_of, data_start, machine_of}
use Rattle.lsm_machine.specs.Calls.{Rotate, Done, Refused}
use Rattle.lsm_machine.specs.Crash.{may_leave, left_besides, left_inside}
use Rattle.lsm_machine.specs.Effects.{rotated, use_first}
use Rattle.lsm_machine.specs.RecoveryPoints.{batch_count}
use Rattle.lsm_machine.specs.Refusals.{refusal}
use Rattle.lsm_machine.specs.Run.{stopped_in}
use Rattle.lsm_store.specs.Serving.{use_by, Serves}
use Rattle.lsm_machine.specs.State.{OpenLog, State, are_waiting, is_unused}
use Rattle.lsm_store.specs.StoredTables.{IsStoredIn, KeepsExtents, MayGoOn, with_next}
use Rattle.lsm_machine.specs.WorkEffects.{with_sealed}
use Rattle.lsm_store.proofs.Backed.{run_backed}
use Rattle.lsm_store.proofs.CallSounds.{rotation_sound_law}
use Rattle.lsm_machine.proofs.CrashStates.{inside_unrefused}
use Rattle.lsm_store.proofs.Installations.{IsInstalling}
use Rattle.lsm_store.proofs.InstalledTables.{next_ready, install_moments, install_stopped, install_stored, install_extents, no_records, rotate_goes_on}
use Rattle.lsm_store.proofs.LoggedVersions.{rotated_sealed, rotated_logged}
use Rattle.lsm_store.proofs.RotatedManifests.{goes_on_numbered, rotate_keeps_numbered}
use Rattle.lsm_store.specs.InstalledJobs.{placed_by}
use Rattle.lsm_machine.proofs.Running.{admits}
use Rattle.lsm_store.proofs.Serving.{answered, uses, cache_kept, serves_fault}
use Rattle.lsm_store.proofs.StoredLevels.{levels_kept, blocks_kept}
use Rattle.lsm_machine.proofs.Unrefused.{none_taken}

-- ---- what is known of a state that doesn't refuse a rotation

pub record MayRotate (s : State) : Type 0 where
  pub running : IsNone s.stopped
  pub none_waits : are_waiting s ≡ false
  pub used : is_unused s.open_log ≡ false
  pub generation : s.generation ≢ last_number

pub unrefused_rotate : (s : State) → refusal s Rotate ≡ None → MayRotate s
unrefused_rotate s none =
    let one = none_taken (is_some s.stopped) Stopped _ none in
    let two = none_taken (are_waiting s) SealedWaiting _ one.1 in
    let three = none_taken (is_unused s.open_log) NothingToRotate _ two.1 in
    let four = none_taken (s.generation == last_number) Exhausted None three.1 in
    record { running = one.0; none_waits = two.0; used = three.0; generation = eqb-false s.generation last_number four.0 }

module _ (s : State) (may : MayRotate s) where
  pub none_closed : s.closed ≡ 0
  none_closed = let few = leb-false 1 s.closed may.none_waits in omega (arith, few)

  pub log_used : (log : OpenLog) → s.open_log ≡ Some log → 1 ≤ log.used
  log_used log is = let other = eqb-false log.used 0 (ap is_unused (sym is) ∙ may.used) in omega (arith, other)

-- the store after a rotation to a new log
abbrev pub rotated_on : StoreView → OpenRegion → Medium → StoreView
rotated_on v o new = record {
  device = new;
  state = rotated v.state;
  layout = record v.layout { generation = v.layout.generation + 1; next_table = v.work.next_table; closed = open_records v.layout.open_region; open_region = Some o };
  work = with_sealed v.work;
  cache = v.cache;
}

module _ (v : StoreView) (none : refusal v.state Rotate ≡ None) (below : v.state.generation ≤ last_number) (o : OpenRegion)
    (least : IsInLeastFree v.layout.log_sectors (v.state.generation + 1) (batch_count v.state.points) (open_records v.layout.open_region) (Some o)) where
  may : MayRotate v.state
  may = unrefused_rotate v.state none

  abbrev now : Placement
  now = placement_of v

  abbrev next : Placement
  next = with_next v.work.next_table (rotated_placement (placement_of v) o)

  has_next : v.state.generation + 1 ≤ last_number
  has_next = let other = may.generation in omega (arith, below, other)

  module _ (runs : IsRunOn v) where
    goes_on : MayGoOn next (rotated v.state) (disk v.device)
    goes_on =
        goes_on_numbered (rotated_placement now o) (rotated v.state) (disk v.device) v.work.next_table
        (rotate_goes_on now v.state (disk v.device) runs.stored.stored (none_closed v.state may) (log_used v.state may) has_next o least)

    pub runs_rotated : (new : Medium) → IsInstalled (disk v.device) (Stands v.layout.log_sectors (contents_for next)) (disk new) → IsRunOn (rotated_on v o new)
    runs_rotated new is =
        let kept : KeepsExtents now (disk v.device) (disk new) = install_extents now (Stands v.layout.log_sectors (contents_for next)) (disk v.device) (disk new) is in
        let stored : IsStoredIn next (rotated v.state) (disk new) = install_stored now next v.state (rotated v.state) (disk v.device) (disk new) runs.stored.stored refl goes_on is in
        let none : v.layout.closed ≡ [] = no_records now v.state (disk v.device) runs.stored.stored (none_closed v.state may) in
        let same : behind (seen (disk new)) ≡ behind (seen (disk v.device)) = ap (λ (c : List (List ℕ)). behind c) (ap (written (disk new).stands) is.settled) ∙ is.stands.all in
        record {
          stored = rotate_keeps_numbered now (placed_by v.work.jobs.slots) v.state (rotated v.state) o v.work.next_table (disk v.device) (disk new) runs.stored is stored;
          sound = rotation_sound_law (machine_of v) runs.sound may.none_waits;
          sealed = rotated_sealed v.work.next_table now o (disk v.device) (disk new) runs.stored.stored.carried.held stored.carried.held none same v.work.memory runs.logged;
          logged = rotated_logged v.work.next_table now o (disk v.device) (disk new) runs.stored.stored.carried.held stored.carried.held none same least.new_log.next;
          tables = levels_kept now v.work.levels (disk v.device) (disk new) refl kept runs.tables;
          apart = runs.apart;
          fresh = named_law.kept (data_start v) (seen (disk v.device)) (seen (disk new)) (all_tables (places v.work.levels)) v.cache (blocks_kept now v.work.levels (disk v.device) (disk new) refl kept) runs.fresh;
          unasked = runs.unasked;
        }

  module _ (new : StoreView) (sized : IsTrue v.device.lasting.tells → length (disk v.device).stands ≡ v.device.size) (wrote : IsInstalling v.layout.log_sectors (v.layout.generation + 1) (contents_for next) v.device new.device) where
    runs_here : IsBacked v → IsRunOn v
    runs_here backed = backed.runs may.running

    ready : IsBacked v → IsReady v.device.size v.layout.log_sectors (v.layout.generation + 1) (disk v.device)
    ready backed = subst (λ (n : ℕ). IsReady n v.layout.log_sectors (v.layout.generation + 1) (disk v.device)) (sized backed.tells) (next_ready now v.state (disk v.device) (runs_here backed).stored.stored)

    -- at every moment a crash leaves what it may
    inside : IsBacked v → EachSince (Leaves (StandForOne v.state.log_sectors (left_inside v.state Rotate))) v.device.history new.device.history
    inside backed =
        let s = v.state in
        weaker (Leaves (StandForOne s.log_sectors (may_leave s ++ left_besides s Rotate))) (Leaves (StandForOne s.log_sectors (left_inside s Rotate))) v.device.history new.device.history
        (λ d leaves mask. let one = leaves mask in (one.0, inside_unrefused s Rotate one.0 (ap is_some none) one.1, one.2))
        (install_moments now next s (rotated s) v.device.history new.device.history (runs_here backed).stored.stored refl (goes_on (runs_here backed)) (wrote.moments backed.tells (ready backed)))

    pub rotate_done : (IsTrue v.device.lasting.tells → IsReady v.device.size v.layout.log_sectors (v.layout.generation + 1) (disk v.device) → IsInstalled (disk v.device) (Stands v.layout.log_sectors (contents_for next)) (disk new.device))
        → new.device.calls.faults ≡ v.device.calls.faults → new ≡ rotated_on v o new.device → Serves v Rotate Done new
    rotate_done installed faults is =
        let goes = answered v.state Rotate none in
        record {
          admitted = admits v.state Rotate Done goes.0;
          allowed = λ backed. goes.0;
          state = ap (λ (x : StoreView). x.state) is;
          worked = λ running. ap (λ (x : StoreView). x.work) is;
          used = uses v.state Rotate Done v.device new.device none refl refl wrote.calls;
          cached = cache_kept (use_first Rotate) (use_by v.state Rotate Done) v.cache new.cache (ap (λ (x : StoreView). x.cache) is);
          fault = faults;
          same_size = wrote.same_size;
          same_lasting = wrote.same_lasting;
          crash = inside;
          backed = λ backed. run_backed new (subst (λ (l : Lasting). IsTrue l.tells) (sym wrote.same_lasting) backed.tells)
              (subst IsRunOn (sym is) (runs_rotated (runs_here backed) new.device (installed backed.tells (ready backed))));
        }

    pub rotate_io : new.state ≡ stopped_in v.state Rotate → new.cache ≡ v.cache → new.device.calls.faults ≡ faults_after false v.device.calls.faults → Serves v Rotate (Refused Io) new
    rotate_io state same_cache faults = serves_fault v new Rotate none refl state faults wrote.same_size wrote.same_lasting same_cache inside
        (λ backed. install_stopped now next v.state (rotated v.state) v.device.history new.device.history (runs_here backed).stored.stored refl (goes_on (runs_here backed)) (wrote.moments backed.tells (ready backed)))
        wrote.calls
