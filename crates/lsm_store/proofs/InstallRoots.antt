-- What an install of a store's memory does: before it reaches the device, once the next root stands, and where a fault stopped it.
use Rattle.std.proofs.Common.{◌≡◌, ◌⊎◌, inl, inr, ℕ, ◌+◌, Bool, true, false, [], ◌∷◌, length, Option, Some, None, is_none, is_some, refl, sym, ◌∙◌, ap, subst, arith, IsTrue}
use Rattle.std.proofs.lemmas.Bool.{not-false, false≢true}
use Rattle.lsm_cache.specs.Recency.{Cached}
use Rattle.lsm_codec.specs.Manifests.{Contents}
use Rattle.lsm_device.specs.Calls.{AtMost, faults_after}
use Rattle.lsm_device.specs.History.{EachSince}
use Rattle.lsm_device.specs.Medium.{Medium, disk}
use Rattle.lsm_device.specs.Outcomes.{Leaves}
use Rattle.lsm_device.specs.declared.refusal.Refusal.{Refusal}
use Rattle.lsm_device.specs.declared.refusal.Refusal.TheVariants.{NoMemory, BadTable, Io, Stopped}
use Rattle.lsm_extent.specs.Area.{IsPartition}
use Rattle.lsm_jobs.specs.Refusing.{IsAtStage}
use Rattle.lsm_jobs.specs.Slots.{Stage, Reading, Frozen, Writing, Slot, is_writing, is_written, is_not_at, outputs_at}
use Rattle.lsm_levels.specs.Held.{AreRuns}
use Rattle.lsm_levels.specs.Levels.{Levels}
use Rattle.lsm_levels.specs.Pick.{Job, Flush, Merge, is_flush}
use Rattle.lsm_open.specs.Layout.{Layout, layout_of}
use Rattle.lsm_open.specs.Placements.{contents_for}
use Rattle.lsm_open.specs.Recovering.{placed_in}
use Rattle.lsm_open.specs.ToldTables.{records_of}
use Rattle.lsm_root.specs.Installed.{IsReady, IsOldOrNew, IsInstalled}
use Rattle.lsm_root.specs.Planned.{Planned}
use Rattle.lsm_root.specs.Roots.{Stands}
use Rattle.lsm_store.specs.declared.memory.Memory.{Memory}
use Rattle.lsm_store.specs.Backing.{StoreView, placement_of, machine_of}
use Rattle.lsm_machine.specs.Calls.{Done, Refused}
use Rattle.lsm_machine.specs.Crash.{last_crash_state}
use Rattle.lsm_store.specs.InstalledJobs.{installed_layout}
use Rattle.lsm_store.specs.InstalledMemory.{next_layout, IsNext, IsInstalledTo, after_install_fault}
use Rattle.lsm_store.specs.Memory.{AreConsistent, state_of, view_of, work_of}
use Rattle.lsm_machine.specs.RecoveryPoints.{batch_count}
use Rattle.lsm_machine.specs.State.{State}
use Rattle.lsm_machine.specs.Work.{Install}
use Rattle.lsm_machine.specs.Effects.{installed}
use Rattle.lsm_machine.specs.WorkRefusals.{held, of_slot, work_refusals, running_refusal, work_refusal}
use Rattle.lsm_machine.specs.WorkReplies.{IsUnfit}
use Rattle.lsm_store.specs.Working.{Works}
use Rattle.lsm_machine.specs.Machine.{Machine}
use Rattle.lsm_machine.proofs.Accounts.{first_not, behind_not, tests_behind}
use Rattle.lsm_store.proofs.InstallWorks.{install_bad_table, install_done, install_io}
use Rattle.lsm_store.proofs.Installations.{IsInstalling}
use Rattle.lsm_store.proofs.InstalledMemory.{same_layout, install_work, installed_is}
use Rattle.lsm_store.proofs.InstalledWork.{outputs_low}
use Rattle.lsm_store.proofs.Installs.{installed_on}
use Rattle.lsm_machine.proofs.Unrefused.{none_taken}
use Rattle.lsm_store.proofs.Works.{works_want}

-- ---- before the device is reached

-- what nothing refuses runs
pub unrefused_install : (m : Machine) (job : ℕ) → work_refusal m (Install job) ≡ None → (is_some m.state.stopped ≡ false) × (running_refusal m (Install job) ≡ None)
unrefused_install m job none = none_taken (is_some m.state.stopped) Stopped (running_refusal m (Install job)) none

-- and its job is written
pub written_held : (m : Machine) (job : ℕ) → running_refusal m (Install job) ≡ None → IsAtStage is_written (held m job)
written_held m job none = by (held m job) (first_not (work_refusals m (Install job)) none) (first_not (tests_behind 1 (work_refusals m (Install job))) (behind_not 1 (work_refusals m (Install job)) none))
  where
    by : (o : Option Slot) → is_none o ≡ false → is_not_at is_written o ≡ false → IsAtStage is_written o
    by None some at = absurd (false≢true (sym some))
    by (Some slot) some at = not-false (is_written slot.stage) at

written_writes : (stage : Stage) → is_written stage ≡ true → is_writing stage ≡ true
written_writes (Reading left) is = absurd (false≢true is)
written_writes Frozen is = absurd (false≢true is)
written_writes (Writing tables left) is = refl

-- want of memory, or outputs that may not be put in
pub not_installed : (v : StoreView) (job : ℕ) (e : Refusal) → work_refusal (machine_of v) (Install job) ≡ None → (e ≡ NoMemory) ⊎ ((e ≡ BadTable) × IsUnfit (held (machine_of v) job)) → Works v (Install job) (Refused e) v
not_installed v job e none (inl is) = subst (λ (x : Refusal). Works v (Install job) (Refused x) v) (sym is) (works_want v (Install job) (ap is_some none))
not_installed v job e none (inr is) =
    let both = unrefused_install (machine_of v) job none in
    subst (λ (x : Refusal). Works v (Install job) (Refused x) v) (sym is.0) (by (held (machine_of v) job) refl (written_held (machine_of v) job both.1) is.1 both.1 both.0)
  where
    by : (o : Option Slot) → held (machine_of v) job ≡ o → IsAtStage is_written o → IsUnfit o → running_refusal (machine_of v) (Install job) ≡ None → is_some v.state.stopped ≡ false → Works v (Install job) (Refused BadTable) v
    by None found at unfit running runs = absurd at
    by (Some slot) found at unfit running runs = install_bad_table v job running runs slot found (written_writes slot.stage at) unfit

-- ---- the root that was prepared

generation_is : (l : Layout) (count next : ℕ) (job : Job) → l.generation + 1 ≡ (installed_layout l count next job).generation
generation_is l count next Flush = refl
generation_is l count next (Merge i upper lower) = refl

module _ {A : Type 0} (m : Memory A) (kept : AreConsistent m) (runs : AreRuns m.levels) (whole : IsPartition m.extents) (job : ℕ) (flush : Bool) (levels : Levels) (n : IsNext m job flush levels)
    (none : work_refusal (record { state = state_of m; work = work_of m }) (Install job) ≡ None) (medium new : Medium) (cache : Cached) where
  abbrev v : StoreView
  v = view_of medium m cache

  -- what the next manifest says
  abbrev manifest : Contents
  manifest = contents_for (placement_of (installed_on (view_of medium m cache) job n.slot new))

  layout_is : next_layout (is_flush n.slot.job) m ≡ installed_layout (layout_of m.regions) (batch_count (state_of m).points) m.next_table n.slot.job
  layout_is = same_layout m n.slot.job ∙ ap (λ (count : ℕ). installed_layout (layout_of m.regions) count m.next_table n.slot.job) (sym kept.agrees.counted)

  module _ (size : ℕ) (root : Planned) (prepared : root ≡ record { size = size; log = m.regions.log_sectors; manifest = contents_for (placed_in (next_layout flush m) levels (records_of levels)) }) where
    planned_is : root ≡ record { size = size; log = m.regions.log_sectors; manifest = contents_for (placement_of (installed_on (view_of medium m cache) job n.slot new)) }
    planned_is =
        let lay : next_layout flush m ≡ installed_layout (layout_of m.regions) (batch_count (state_of m).points) m.next_table n.slot.job = ap (λ (b : Bool). next_layout b m) n.flushes ∙ layout_is in
        prepared ∙ (λ i. record { size = size; log = m.regions.log_sectors; manifest = contents_for (placed_in (lay i) (n.next i) (records_of (n.next i))) })

    ready_for : IsReady medium.size m.regions.log_sectors (m.regions.generation + 1) (disk medium) → IsReady medium.size m.regions.log_sectors manifest.generation (disk medium)
    ready_for ready = subst (λ (g : ℕ). IsReady medium.size m.regions.log_sectors g (disk medium)) (generation_is (layout_of m.regions) (batch_count (state_of m).points) m.next_table n.slot.job) ready

    pub installing_root : (IsTrue medium.lasting.tells → IsReady medium.size root.log root.manifest.generation (disk medium) → EachSince (Leaves (IsOldOrNew (disk medium) (Stands root.log root.manifest))) medium.history new.history)
        → AtMost 0 42 2 medium.calls new.calls → new.size ≡ medium.size → new.lasting ≡ medium.lasting
        → IsInstalling m.regions.log_sectors (m.regions.generation + 1) (contents_for (placement_of (installed_on (view_of medium m cache) job n.slot new))) medium new
    installing_root moments calls same_size same_lasting = record {
      moments = λ tells ready. subst (λ (p : Planned). IsReady medium.size p.log p.manifest.generation (disk medium) → EachSince (Leaves (IsOldOrNew (disk medium) (Stands p.log p.manifest))) medium.history new.history) planned_is (moments tells) (ready_for ready);
      calls = calls;
      same_size = same_size;
      same_lasting = same_lasting;
    }

    installed_root : (IsTrue medium.lasting.tells → IsReady medium.size root.log root.manifest.generation (disk medium) → IsInstalled (disk medium) (Stands root.log root.manifest) (disk new))
        → IsTrue medium.lasting.tells → IsReady medium.size m.regions.log_sectors (m.regions.generation + 1) (disk medium)
        → IsInstalled (disk medium) (Stands m.regions.log_sectors (contents_for (placement_of (installed_on (view_of medium m cache) job n.slot new)))) (disk new)
    installed_root stands tells ready =
        subst (λ (p : Planned). IsReady medium.size p.log p.manifest.generation (disk medium) → IsInstalled (disk medium) (Stands p.log p.manifest) (disk new)) planned_is (stands tells) (ready_for ready)

    module _ (sized : IsTrue medium.lasting.tells → length (disk medium).stands ≡ medium.size)
        (wrote : IsInstalling m.regions.log_sectors (m.regions.generation + 1) (contents_for (placement_of (installed_on (view_of medium m cache) job n.slot new))) medium new) where
      -- where it was installed
      pub install_works : (IsTrue medium.lasting.tells → IsReady medium.size root.log root.manifest.generation (disk medium) → IsInstalled (disk medium) (Stands root.log root.manifest) (disk new)) → new.calls.faults ≡ medium.calls.faults
          → (then : Memory A) → IsInstalledTo m job n.slot levels then → Works (view_of medium m cache) (Install job) Done (view_of new then cache)
      install_works stands faults then to =
          let both = unrefused_install (machine_of v) job none in
          let work_is = install_work m kept runs job n.slot n.is n.made n.fit whole then.regions then.sealed to.layout to.waits in
          let lay : layout_of then.regions ≡ installed_layout (layout_of m.regions) (batch_count (state_of m).points) m.next_table n.slot.job = to.layout ∙ layout_is in
          let is : view_of new then cache ≡ installed_on (view_of medium m cache) job n.slot new =
          ap (λ (x : Memory A). view_of new x cache) (installed_is m kept runs whole job flush levels n then to)
          ∙ (λ i. record { device = new; state = installed (is_flush n.slot.job) (state_of m); layout = lay i; work = work_is i; cache = cache }) in
          install_done v job n.slot (outputs_at n.slot.stage) n.is n.stage n.made both.1 both.0 (outputs_low (work_of m) job n.slot kept.numbered n.is (omega (arith, kept.next.high))) kept.numbered
          (view_of new then cache) sized wrote (installed_root stands) faults is

      -- where a fault stopped the store
      pub install_fault_works : new.calls.faults ≡ faults_after false medium.calls.faults → Works (view_of medium m cache) (Install job) (Refused Io) (view_of new (after_install_fault flush m) cache)
      install_fault_works faults =
          let both = unrefused_install (machine_of v) job none in
          let then : installed flush (state_of m) ≡ of_slot (state_of m) (λ (s : Slot). installed (is_flush s.job) (state_of m)) (held (machine_of v) job) =
          ap (λ (b : Bool). installed b (state_of m)) n.flushes ∙ sym (ap (of_slot (state_of m) (λ (s : Slot). installed (is_flush s.job) (state_of m))) n.is) in
          install_io v job n.slot (outputs_at n.slot.stage) n.is n.stage n.made both.1 both.0 (outputs_low (work_of m) job n.slot kept.numbered n.is (omega (arith, kept.next.high))) kept.numbered
          (view_of new (after_install_fault flush m) cache) sized wrote (ap (λ (t : State). record (state_of m) { stopped = Some (last_crash_state t ∷ []) }) then) refl refl faults
