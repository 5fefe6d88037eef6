-- A store's memory after an install.
use Rattle.std.proofs.Common.{◌≡◌, ◌≢◌, ℕ, ◌+◌, ◌≤◌, ◌<◌, Bool, true, false, cond, List, [], ◌∷◌, length, Option, Some, None, is_some, refl, sym, ◌∙◌, ap, subst, arith}
use Rattle.std.specs.Prelude.{option_map}
use Rattle.std.specs.Arc.{arc_value}
use Rattle.std.specs.declared.sync.Arc.{Arc}
use Rattle.std.proofs.Math.Nat.{add-zero}
use Rattle.std.proofs.lemmas.Bool.{eq-eqb, false≢true}
use Rattle.lsm_codec.specs.Geometry.{data_blocks_of}
use Rattle.lsm_codec.specs.Versions.{Version}
use Rattle.lsm_device.specs.declared.refusal.Refusal.TheVariants.{Stopped as StoreStopped}
use Rattle.lsm_extent.specs.Area.{IsPartition}
use Rattle.lsm_jobs.specs.Outputs.{AreMadeOf}
use Rattle.lsm_jobs.specs.Placing.{all_given_back, AreHandedOut}
use Rattle.lsm_jobs.specs.Slots.{Slot, slot_of, with_held, outputs_at, inputs_of}
use Rattle.lsm_levels.specs.Held.{AreRuns, AreOutputs}
use Rattle.lsm_levels.specs.Levels.{Levels}
use Rattle.lsm_levels.specs.Pick.{Job, Flush, Merge, inputs, is_flush, installed_levels}
use Rattle.lsm_root.specs.CrashState.{last_number}
use Rattle.lsm_open.specs.Layout.{Layout, layout_of}
use Rattle.lsm_mem.specs.Versions.{sealed_versions}
use Rattle.lsm_open.specs.declared.regions.OpenRegion.{OpenRegion}
use Rattle.lsm_open.specs.declared.regions.Regions.{Regions}
use Rattle.lsm_store.specs.declared.memory.Memory.{Memory}
use Rattle.lsm_store.specs.declared.memory.Status.TheVariants.{Running}
use Rattle.lsm_machine.specs.Crash.{last_crash_state}
use Rattle.lsm_store.specs.InstalledJobs.{first_open, installed_layout}
use Rattle.lsm_store.specs.InstalledMemory.{next_layout, IsNext, IsInstalledTo, after_install_fault}
use Rattle.lsm_store.specs.LiveMarks.{marks}
use Rattle.lsm_store.specs.Memory.{AreConsistent, CanTake, Agrees, IsInside, LieWithin, IsOpenIn, state_of, work_of}
use Rattle.lsm_machine.specs.RecoveryPoints.{batch_count}
use Rattle.lsm_machine.specs.TableLimits.{AreFew}
use Rattle.lsm_machine.specs.Work.{Install}
use Rattle.lsm_machine.specs.WorkEffects.{with_installed}
use Rattle.lsm_machine.specs.Effects.{installed}
use Rattle.lsm_machine.specs.WorkRefusals.{work_refusals, running_refusal, work_refusal, of_slot}
use Rattle.lsm_machine.specs.Machine.{Machine}
use Rattle.lsm_machine.proofs.Accounts.{accounts_law, first_not, behind_not, tests_behind}
use Rattle.lsm_machine.proofs.ExtentCounts.{back_blocks}
use Rattle.lsm_store.proofs.InstalledWork.{installed_have, installed_lie, installed_numbered}
use Rattle.lsm_store.proofs.States.{agrees_stopped, not_running}
use Rattle.lsm_store.proofs.FewTables.{few_law, records_counted}
use Rattle.lsm_machine.proofs.Unrefused.{none_taken}

-- the next layout, by whether a job is a flush
pub same_layout : {A : Type 0} (m : Memory A) (j : Job) → next_layout (is_flush j) m ≡ installed_layout (layout_of m.regions) m.count m.next_table j
same_layout m Flush = refl
same_layout m (Merge i upper lower) = refl

-- its log regions are as large as they were
pub next_sectors : {A : Type 0} (m : Memory A) (flush : Bool) → (next_layout flush m).log_sectors ≡ m.regions.log_sectors
next_sectors m true = refl
next_sectors m false = refl

module _ {A : Type 0} (m : Memory A) (kept : AreConsistent m) (runs : AreRuns m.levels) (job : ℕ) (slot : Slot) (is : slot_of job m.jobs.slots ≡ Some slot) (made : AreMadeOf slot.input (outputs_at slot.stage)) (fit : AreOutputs slot.job (outputs_at slot.stage)) where
  abbrev after : Levels
  after = installed_levels m.levels slot.job (outputs_at slot.stage)

  -- ---- the manifest then

  module _ (none : work_refusal (record { state = state_of m; work = work_of m }) (Install job) ≡ None) (size : ℕ) (inside : IsInside size m) (whole : IsPartition m.extents) where
    abbrev w : Machine
    w = record { state = state_of m; work = work_of m }

    running : running_refusal w (Install job) ≡ None
    running = (none_taken (is_some (state_of m).stopped) StoreStopped (running_refusal w (Install job)) none).1

    few : AreFew (installed_levels m.levels slot.job (outputs_at slot.stage))
    few =
        subst (λ (o : Option Slot). AreFew (of_slot (work_of m) (with_installed (work_of m) job) o).levels) is
        (few_law.kept w (Install job) runs kept.jobs.kept running
        (record { runs = inside.lie.manifest.numbers.runs; tables = omega (arith, inside.lie.manifest.numbers.tables, records_counted m.levels) }))

    generation_low : m.regions.generation < last_number
    generation_low =
        let last = first_not (tests_behind 4 (work_refusals w (Install job))) (behind_not 4 (work_refusals w (Install job)) running) in
        let other : m.regions.generation ≢ last_number = λ e. false≢true (sym last ∙ eq-eqb (state_of m).generation last_number (kept.agrees.generation ∙ e)) in
        omega (arith, inside.lie.manifest.numbers.generation_high, other)

    pub next_generation : m.regions.generation + 1 ≤ last_number
    next_generation = omega (arith, generation_low)

    lies : LieWithin size (installed_layout (layout_of m.regions) m.count m.next_table slot.job) (installed_levels m.levels slot.job (outputs_at slot.stage))
    lies =
        installed_lie (work_of m) runs kept.jobs kept.numbered job slot is made fit whole size m.count (layout_of m.regions) inside.lie inside.area kept.count next_generation kept.next.low (omega (arith, kept.next.high)) few

    -- what the next manifest says is within the limits
    pub next_within : LieWithin size (next_layout (is_flush slot.job) m) (installed_levels m.levels slot.job (outputs_at slot.stage))
    next_within = subst (λ (l : Layout). LieWithin size l after) (sym (same_layout m slot.job)) lies

  -- ---- memory after an install

  module _ (whole : IsPartition m.extents) (regions : Regions A) (sealed : Option (Arc (List Version) A)) (layout : layout_of regions ≡ next_layout (is_flush slot.job) m)
      (waits : option_map arc_value sealed ≡ cond (is_flush slot.job) None (option_map arc_value m.sealed)) where
    abbrev pub after_install : Memory A
    after_install = record m {
      regions = regions;
      sealed = sealed;
      levels = installed_levels m.levels slot.job (outputs_at slot.stage);
      extents = all_given_back (inputs slot.job) m.extents;
      jobs = record { next = m.jobs.next; slots = with_held job None m.jobs.slots };
      synced = m.count;
      told = record { state = installed (is_flush slot.job) (state_of m) };
    }

    agrees_at : (flush : Bool) → Agrees (installed flush (state_of m)) (next_layout flush m) m.count m.count (marks m.snapshots) m.snapshots.next m.status
    agrees_at true = record {
      counted = add-zero (batch_count (state_of m).points) ∙ kept.agrees.counted;
      known = kept.agrees.counted;
      log_sectors = kept.agrees.log_sectors;
      closed = refl;
      open_log = kept.agrees.open_log;
      generation = ap (λ (n : ℕ). n + 1) kept.agrees.generation;
      snapshots = kept.agrees.snapshots;
      next_snapshot = kept.agrees.next_snapshot;
      stopped = kept.agrees.stopped;
    }
    agrees_at false = record {
      counted = add-zero (batch_count (state_of m).points) ∙ kept.agrees.counted;
      known = kept.agrees.counted;
      log_sectors = kept.agrees.log_sectors;
      closed = kept.agrees.closed;
      open_log = kept.agrees.open_log;
      generation = ap (λ (n : ℕ). n + 1) kept.agrees.generation;
      snapshots = kept.agrees.snapshots;
      next_snapshot = kept.agrees.next_snapshot;
      stopped = kept.agrees.stopped;
    }

    abbrev IsTabled : Layout → Type 0
    IsTabled l = l.open_region ≡ None → l.closed ≡ [] → l.base ≡ m.count

    opened_at : (flush : Bool) → m.status ≡ Running → IsOpenIn (next_layout flush m).log_sectors m.count (next_layout flush m).open_region
    opened_at true running = (kept.current running).opened
    opened_at false running = (kept.current running).opened

    tabled_at : (flush : Bool) → m.status ≡ Running → IsTabled (next_layout flush m)
    tabled_at true running = λ none closed. let base = ap (λ (o : Option OpenRegion). first_open m.count o) none in omega (arith, base)
    tabled_at false running = (kept.current running).tabled

    taking_at : (flush : Bool) → CanTake (marks m.snapshots) m.count m.mem (cond flush None (option_map arc_value m.sealed)) (length (next_layout flush m).closed)
    taking_at true = record {
      few = kept.taking.few;
      rising = kept.taking.rising;
      entries = kept.taking.entries;
      sealed_entries = tt;
      waits = λ some. absurd (omega (arith, some));
    }
    taking_at false = kept.taking

    next_at : (flush : Bool) → (next_layout flush m).next_table ≡ m.next_table
    next_at true = refl
    next_at false = refl

    pub install_kept : AreConsistent after_install
    install_kept = record {
      synced = omega arith;
      count = kept.count;
      snapshots = kept.snapshots;
      numbers = kept.numbers;
      agrees = subst (λ (l : Layout). Agrees (installed (is_flush slot.job) (state_of m)) l m.count m.count (marks m.snapshots) m.snapshots.next m.status) (sym layout) (agrees_at (is_flush slot.job));
      current = λ running. record {
        numbered = (kept.current running).numbered;
        opened = subst (λ (l : Layout). IsOpenIn l.log_sectors m.count l.open_region) (sym layout) (opened_at (is_flush slot.job) running);
        tabled = subst IsTabled (sym layout) (tabled_at (is_flush slot.job) running);
      };
      taking = subst (λ (o : Option (List Version)). CanTake (marks m.snapshots) m.count m.mem o (length regions.closed.items)) (sym waits)
          (subst (λ (l : Layout). CanTake (marks m.snapshots) m.count m.mem (cond (is_flush slot.job) None (option_map arc_value m.sealed)) (length l.closed)) (sym layout) (taking_at (is_flush slot.job)));
      jobs = installed_have (work_of m) runs kept.jobs kept.numbered job slot is made fit whole;
      next = record { low = omega (arith, ap (λ (l : Layout). l.next_table) layout, next_at (is_flush slot.job)); high = kept.next.high };
      numbered = installed_numbered (work_of m) runs kept.jobs kept.numbered job slot is made fit;
    }

    pub install_inside : (size : ℕ) → IsInside size m → LieWithin size (next_layout (is_flush slot.job) m) (installed_levels m.levels slot.job (outputs_at slot.stage)) → IsInside size after_install
    install_inside size inside lie = record {
      lie = subst (λ (l : Layout). LieWithin size l after) (sym layout) lie;
      area = back_blocks (inputs slot.job) m.extents ∙ inside.area ∙ ap (data_blocks_of size) (sym (next_sectors m (is_flush slot.job)) ∙ sym (ap (λ (l : Layout). l.log_sectors) layout));
    }

    -- its work is that after the piece
    pub install_work : work_of after_install ≡ with_installed (work_of m) job slot
    install_work = ap (λ (versions : List Version). record (with_installed (work_of m) job slot) { sealed = versions }) (ap sealed_versions waits ∙ by (is_flush slot.job))
      where
        by : (flush : Bool) → sealed_versions (cond flush None (option_map arc_value m.sealed)) ≡ cond flush [] (sealed_versions (option_map arc_value m.sealed))
        by true = refl
        by false = refl

-- ---- where a fault stopped the store

module _ {A : Type 0} (m : Memory A) (flush : Bool) where
  pub install_fault_kept : AreConsistent m → AreConsistent (after_install_fault flush m)
  install_fault_kept kept = record {
    synced = kept.synced;
    count = kept.count;
    snapshots = kept.snapshots;
    numbers = kept.numbers;
    agrees = agrees_stopped (state_of m) (layout_of m.regions) m.count m.synced (marks m.snapshots) m.snapshots.next m.status kept.agrees (last_crash_state (installed flush (state_of m)) ∷ []);
    current = λ running. absurd (not_running running);
    taking = kept.taking;
    jobs = kept.jobs;
    next = kept.next;
    numbered = kept.numbered;
  }

  pub install_fault_inside : (size : ℕ) → IsInside size m → IsInside size (after_install_fault flush m)
  install_fault_inside size inside = record { lie = inside.lie; area = inside.area }

-- what a job took in may be given back
pub inputs_held : {A : Type 0} (m : Memory A) (job : ℕ) → AreConsistent m → AreRuns m.levels → IsPartition m.extents → AreHandedOut (inputs_of (slot_of job m.jobs.slots)) m.extents
inputs_held m job kept runs whole = accounts_law.inputs (work_of m) job (record { each = kept.jobs.accounted }) whole runs kept.jobs.kept

-- ---- what an install leaves

module _ {A : Type 0} (m : Memory A) (kept : AreConsistent m) (runs : AreRuns m.levels) (whole : IsPartition m.extents) (job : ℕ) (flush : Bool) (levels : Levels) (n : IsNext m job flush levels) where
  -- the next manifest is one
  pub next_lies : work_refusal (record { state = state_of m; work = work_of m }) (Install job) ≡ None → (size : ℕ) → IsInside size m → LieWithin size (next_layout flush m) levels
  next_lies none size inside =
      subst (λ (l : Levels). LieWithin size (next_layout flush m) l) (sym n.next)
      (subst (λ (b : Bool). LieWithin size (next_layout b m) (installed_levels m.levels n.slot.job (outputs_at n.slot.stage))) (sym n.flushes) (next_within m kept runs job n.slot n.is n.made n.fit none size inside whole))

  module _ (new : Memory A) (to : IsInstalledTo m job n.slot levels new) where
    -- memory then
    pub installed_is : new ≡ record m {
      regions = new.regions;
      sealed = new.sealed;
      levels = installed_levels m.levels n.slot.job (outputs_at n.slot.stage);
      extents = all_given_back (inputs n.slot.job) m.extents;
      jobs = record { next = m.jobs.next; slots = with_held job None m.jobs.slots };
      synced = m.count;
      told = record { state = installed (is_flush n.slot.job) (state_of m) };
    }
    installed_is = to.same ∙ ap (λ (l : Levels). record m {
      regions = new.regions;
      sealed = new.sealed;
      levels = l;
      extents = all_given_back (inputs n.slot.job) m.extents;
      jobs = record { next = m.jobs.next; slots = with_held job None m.jobs.slots };
      synced = m.count;
      told = record { state = installed (is_flush n.slot.job) (state_of m) };
    }) n.next

    pub to_kept : AreConsistent new
    to_kept = subst (λ (x : Memory A). AreConsistent x) (sym installed_is) (install_kept m kept runs job n.slot n.is n.made n.fit whole new.regions new.sealed to.layout to.waits)

    pub to_inside : (size : ℕ) → IsInside size m → LieWithin size (next_layout flush m) levels → IsInside size new
    to_inside size inside lie =
        subst (λ (x : Memory A). IsInside size x) (sym installed_is)
        (install_inside m kept runs job n.slot n.is n.made n.fit whole new.regions new.sealed to.layout to.waits size inside
        (subst (λ (b : Bool). LieWithin size (next_layout b m) (installed_levels m.levels n.slot.job (outputs_at n.slot.stage))) n.flushes
        (subst (λ (l : Levels). LieWithin size (next_layout flush m) l) n.next lie)))
