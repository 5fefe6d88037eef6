-- A store's memory after a rotation.
use Rattle.std.proofs.Common.{◌≡◌, ◌≢◌, ◌≤◌, ◌<◌, ◌+◌, ℕ, cond, false, List, [], length, Some, None, is_some, refl, sym, ◌∙◌, ap, subst, arith, IsTrue}
use Rattle.std.specs.Prelude.{Option, option_map}
use Rattle.std.specs.List.{AllByRecursion}
use Rattle.std.specs.Arc.{arc_value}
use Rattle.std.specs.declared.sync.Arc.{Arc}
use Rattle.std.proofs.Math.Nat.{add-zero}
use Rattle.lsm_cache.specs.Recency.{Cached}
use Rattle.lsm_codec.specs.Versions.{Version, IsEntry}
use Rattle.lsm_codec.proofs.Lists.{none_length}
use Rattle.lsm_codec.specs.Geometry.{data_blocks_of}
use Rattle.lsm_device.specs.Calls.{AtMost, faults_after}
use Rattle.lsm_device.specs.declared.refusal.Refusal.TheVariants.{Io}
use Rattle.lsm_device.specs.History.{EachSince}
use Rattle.lsm_device.specs.Medium.{Medium, disk}
use Rattle.lsm_device.specs.Outcomes.{Leaves}
use Rattle.lsm_root.specs.CrashState.{last_number}
use Rattle.lsm_open.specs.Layout.{Layout, layout_of, open_records}
use Rattle.lsm_open.specs.Placements.{contents_for}
use Rattle.lsm_open.specs.Recovering.{placed_in}
use Rattle.lsm_mem.specs.Versions.{sealed_versions}
use Rattle.lsm_open.specs.Switching.{IsInLeastFree, IsRotated, rotated_placement}
use Rattle.lsm_open.specs.ToldTables.{records_of}
use Rattle.lsm_open.specs.declared.regions.OpenRegion.{OpenRegion}
use Rattle.lsm_open.specs.declared.regions.Regions.{Regions}
use Rattle.lsm_root.specs.Installed.{IsReady, IsOldOrNew, IsInstalled}
use Rattle.lsm_root.specs.Planned.{Planned}
use Rattle.lsm_root.specs.Roots.{Stands}
use Rattle.lsm_store.specs.declared.memory.Memory.{Memory}
use Rattle.lsm_store.specs.declared.memory.Status.TheVariants.{Running, Stopped}
use Rattle.lsm_store.specs.Backing.{placement_of}
use Rattle.lsm_machine.specs.Calls.{Rotate, Done, Refused}
use Rattle.lsm_machine.specs.Crash.{left_besides}
use Rattle.lsm_machine.specs.Effects.{after, rotated}
use Rattle.lsm_store.specs.LiveMarks.{marks}
use Rattle.lsm_store.specs.Memory.{AreConsistent, CanTake, Agrees, IsInside, GoWith, LieWithin, IsOpenIn, numbered_layout, state_of, view_of, work_of}
use Rattle.lsm_machine.specs.RecoveryPoints.{batch_count}
use Rattle.lsm_machine.specs.Refusals.{refusal}
use Rattle.lsm_machine.specs.Run.{stopped_in}
use Rattle.lsm_store.specs.Serving.{Serves}
use Rattle.lsm_machine.specs.State.{OpenLog}
use Rattle.lsm_store.specs.Stored.{open_log_of}
use Rattle.lsm_store.specs.StoredTables.{with_next}
use Rattle.lsm_machine.specs.WorkEffects.{with_sealed}
use Rattle.lsm_store.proofs.RotatedLayouts.{rotated_within, rotated_log}
use Rattle.lsm_store.proofs.RotatedManifests.{next_number}
use Rattle.lsm_store.proofs.Installations.{IsInstalling}
use Rattle.lsm_store.proofs.Rotations.{MayRotate, unrefused_rotate, none_closed, log_used, rotated_on, rotate_done, rotate_io}
use Rattle.lsm_store.proofs.States.{runs_by, not_running, agrees_stopped}

abbrev log_at : ℕ → ℕ → Option OpenLog
log_at first used = Some (record { first = first; used = used })

-- one region is closed where a log was open
one_closed : (o : Option OpenRegion) (log : Option OpenLog) → log ≡ option_map open_log_of o → cond (is_some log) 1 0 ≡ length (open_records o)
one_closed (Some x) log is = ap (λ (l : Option OpenLog). cond (is_some l) 1 0) is
one_closed None log is = ap (λ (l : Option OpenLog). cond (is_some l) 1 0) is

module _ {A : Type 0} (m : Memory A) (kept : AreConsistent m) (none : refusal (state_of m) Rotate ≡ None) where
  may : MayRotate (state_of m)
  may = unrefused_rotate (state_of m) none

  runs : m.status ≡ Running
  runs = runs_by m Rotate kept.agrees.stopped none

  pub no_region_closed : m.regions.closed.items ≡ []
  no_region_closed = none_length m.regions.closed.items (sym kept.agrees.closed ∙ none_closed (state_of m) may)

  pub has_next : m.regions.generation ≤ last_number → m.regions.generation < last_number
  has_next high = let other : m.regions.generation ≢ last_number = λ e. may.generation (kept.agrees.generation ∙ e) in omega (arith, high, other)

  used_here : (x : OpenRegion) → m.regions.open_region ≡ Some x → 1 ≤ x.log.used
  used_here x is = log_used (state_of m) may (open_log_of x) (kept.agrees.open_log ∙ ap (option_map open_log_of) is)

  module _ (size : ℕ) (inside : IsInside size m) where
    high : m.regions.generation ≤ last_number
    high = inside.lie.manifest.numbers.generation_high

    low : (state_of m).generation ≤ last_number
    low = omega (arith, high, kept.agrees.generation)

    -- the manifest may have the present number of the next table
    numbered_inside : LieWithin size (numbered_layout m) m.levels
    numbered_inside = record {
      geometry = inside.lie.geometry;
      manifest = next_number (contents_for (placed_in (layout_of m.regions) m.levels (records_of m.levels))) m.next_table kept.next.low (omega (arith, kept.next.high)) inside.lie.manifest;
      inside = inside.lie.inside;
      regions = inside.lie.regions;
      tables = inside.lie.tables;
      few = inside.lie.few;
    }

    module _ (regions : Regions A) (is : IsRotated (numbered_layout m) m.count (layout_of regions)) where
      -- the next manifest is one
      pub next_within : LieWithin size (layout_of regions) m.levels
      next_within =
          let up : m.regions.generation + 1 ≤ last_number = omega (arith, has_next high) in
          subst (λ (l : Layout). LieWithin size l m.levels) (sym is.layout)
          (rotated_within size m.count (numbered_layout m) m.levels is.new_log numbered_inside no_region_closed (kept.current runs).opened used_here
          (λ closed. (kept.current runs).tabled closed no_region_closed) kept.count up is.least)

      pub next_inside : (n : ℕ) → n ≡ size → GoWith n (layout_of regions) m.levels m.extents.blocks
      next_inside n same = subst (λ (k : ℕ). GoWith k (layout_of regions) m.levels m.extents.blocks) (sym same) (record { lie = next_within; area = inside.area ∙ ap (data_blocks_of size) (sym (ap (λ (l : Layout). l.log_sectors) is.layout)) })

      least : IsInLeastFree m.regions.log_sectors ((state_of m).generation + 1) (batch_count (state_of m).points) (open_records m.regions.open_region) (Some is.new_log)
      least =
          subst (λ (g : ℕ). IsInLeastFree m.regions.log_sectors (g + 1) (batch_count (state_of m).points) (open_records m.regions.open_region) (Some is.new_log)) (sym kept.agrees.generation)
          (subst (λ (n : ℕ). IsInLeastFree m.regions.log_sectors (m.regions.generation + 1) n (open_records m.regions.open_region) (Some is.new_log)) (sym kept.agrees.counted) is.least)

      -- ---- the root that was prepared

      module _ (n : ℕ) (root : Planned) (prepared : root ≡ record { size = n; log = regions.log_sectors; manifest = contents_for (placed_in (layout_of regions) m.levels (records_of m.levels)) }) (medium new : Medium) (cache : Cached) where
        -- it is that of the placement after the rotation
        planned_is : root ≡ record { size = n; log = m.regions.log_sectors; manifest = contents_for (with_next m.next_table (rotated_placement (placement_of (view_of medium m cache)) is.new_log)) }
        planned_is = prepared ∙ (λ i. record { size = n; log = (is.layout i).log_sectors; manifest = contents_for (placed_in (is.layout i) m.levels (records_of m.levels)) })

        pub installing_next : (IsTrue medium.lasting.tells → IsReady medium.size root.log root.manifest.generation (disk medium) → EachSince (Leaves (IsOldOrNew (disk medium) (Stands root.log root.manifest))) medium.history new.history)
            → AtMost 0 42 2 medium.calls new.calls → new.size ≡ medium.size → new.lasting ≡ medium.lasting
            → IsInstalling m.regions.log_sectors (m.regions.generation + 1) (contents_for (with_next m.next_table (rotated_placement (placement_of (view_of medium m cache)) is.new_log))) medium new
        installing_next moments calls same_size same_lasting = record {
          moments = λ tells. subst (λ (p : Planned). IsReady medium.size p.log p.manifest.generation (disk medium) → EachSince (Leaves (IsOldOrNew (disk medium) (Stands p.log p.manifest))) medium.history new.history) planned_is (moments tells);
          calls = calls;
          same_size = same_size;
          same_lasting = same_lasting;
        }

        pub installed_next : (IsTrue medium.lasting.tells → IsReady medium.size root.log root.manifest.generation (disk medium) → IsInstalled (disk medium) (Stands root.log root.manifest) (disk new))
            → IsTrue medium.lasting.tells → IsReady medium.size m.regions.log_sectors (m.regions.generation + 1) (disk medium)
            → IsInstalled (disk medium) (Stands m.regions.log_sectors (contents_for (with_next m.next_table (rotated_placement (placement_of (view_of medium m cache)) is.new_log)))) (disk new)
        installed_next installed tells = subst (λ (p : Planned). IsReady medium.size p.log p.manifest.generation (disk medium) → IsInstalled (disk medium) (Stands p.log p.manifest) (disk new)) planned_is (installed tells)

      -- ---- where the root was installed

      module _ (sealed : Option (Arc (List Version) A)) where
        -- what was in memory is sealed
        sealed_taking : (closed : ℕ) → option_map arc_value sealed ≡ Some m.mem → CanTake (marks m.snapshots) m.count [] (option_map arc_value sealed) closed
        sealed_taking closed taken = record {
          few = kept.taking.few;
          rising = kept.taking.rising;
          entries = tt;
          sealed_entries = subst (λ (x : Option (List Version)). AllByRecursion IsEntry (sealed_versions x)) (sym taken) kept.taking.entries;
          waits = λ some. ap is_some taken;
        }

        abbrev after_rotation : Memory A
        after_rotation = record m { regions = regions; mem = []; sealed = sealed; synced = m.count; told = record { state = after (state_of m) Rotate } }

        pub rotation_kept : option_map arc_value sealed ≡ Some m.mem → AreConsistent after_rotation
        rotation_kept taken = record {
          synced = omega arith;
          count = kept.count;
          snapshots = kept.snapshots;
          numbers = kept.numbers;
          agrees = subst (λ (l : Layout). Agrees (rotated (state_of m)) l m.count m.count (marks m.snapshots) m.snapshots.next m.status) (sym is.layout) (record {
            counted = add-zero (batch_count (state_of m).points) ∙ kept.agrees.counted;
            known = kept.agrees.counted;
            log_sectors = kept.agrees.log_sectors;
            closed = one_closed m.regions.open_region (state_of m).open_log kept.agrees.open_log;
            open_log = ap (λ (n : ℕ). log_at (n + 1) 0) kept.agrees.counted ∙ (λ i. log_at (sym is.least.new_log.first i) (sym is.least.new_log.used i));
            generation = ap (λ (n : ℕ). n + 1) kept.agrees.generation;
            snapshots = kept.agrees.snapshots;
            next_snapshot = kept.agrees.next_snapshot;
            stopped = kept.agrees.stopped;
          });
          current = λ running. record {
            numbered = tt;
            opened = subst (λ (l : Layout). IsOpenIn l.log_sectors m.count l.open_region) (sym is.layout) (rotated_log m.regions.log_sectors (m.regions.generation + 1) m.count (open_records m.regions.open_region) is.new_log is.least);
            tabled = λ closed. absurd (no (sym closed ∙ ap (λ (l : Layout). l.open_region) is.layout));
          };
          taking = sealed_taking (length regions.closed.items) taken;
          jobs = kept.jobs;
          next = record { low = omega (arith, ap (λ (l : Layout). l.next_table) is.layout); high = kept.next.high };
          numbered = kept.numbered;
        }
          where
            no : None ≡ Some is.new_log → ⊥
            no e = cc

        module _ (medium new : Medium) (cache : Cached) (taken : option_map arc_value sealed ≡ Some m.mem) where
          view_is : view_of new after_rotation cache ≡ rotated_on (view_of medium m cache) is.new_log new
          view_is = λ i. record {
            device = new;
            state = rotated (state_of m);
            layout = is.layout i;
            work = record (work_of m) { memory = []; sealed = sealed_versions (taken i) };
            cache = cache;
          }

          pub rotation_work : work_of after_rotation ≡ with_sealed (work_of m)
          rotation_work = λ i. record (work_of m) { memory = []; sealed = sealed_versions (taken i) }

          pub rotation_serves : (IsTrue medium.lasting.tells → length (disk medium).stands ≡ medium.size)
              → IsInstalling m.regions.log_sectors (m.regions.generation + 1) (contents_for (with_next m.next_table (rotated_placement (placement_of (view_of medium m cache)) is.new_log))) medium new
              → (IsTrue medium.lasting.tells → IsReady medium.size m.regions.log_sectors (m.regions.generation + 1) (disk medium)
              → IsInstalled (disk medium) (Stands m.regions.log_sectors (contents_for (with_next m.next_table (rotated_placement (placement_of (view_of medium m cache)) is.new_log)))) (disk new))
              → new.calls.faults ≡ medium.calls.faults → Serves (view_of medium m cache) Rotate Done (view_of new after_rotation cache)
          rotation_serves sized wrote installed faults =
              rotate_done (view_of medium m cache) none low is.new_log least (view_of new after_rotation cache) sized wrote installed faults view_is

        -- ---- where a fault stopped the store

        abbrev after_fault : Memory A
        after_fault = record m { mem = []; sealed = sealed; status = Stopped; told = record { state = stopped_in (state_of m) Rotate } }

        pub fault_serves : (medium new : Medium) (cache : Cached) → (IsTrue medium.lasting.tells → length (disk medium).stands ≡ medium.size)
            → IsInstalling m.regions.log_sectors (m.regions.generation + 1) (contents_for (with_next m.next_table (rotated_placement (placement_of (view_of medium m cache)) is.new_log))) medium new
            → new.calls.faults ≡ faults_after false medium.calls.faults → Serves (view_of medium m cache) Rotate (Refused Io) (view_of new after_fault cache)
        fault_serves medium new cache sized wrote faults =
            rotate_io (view_of medium m cache) none low is.new_log least (view_of new after_fault cache) sized wrote refl refl faults

        pub fault_kept : option_map arc_value sealed ≡ Some m.mem → AreConsistent after_fault
        fault_kept taken = record {
          synced = kept.synced;
          count = kept.count;
          snapshots = kept.snapshots;
          numbers = kept.numbers;
          agrees = agrees_stopped (state_of m) (layout_of m.regions) m.count m.synced (marks m.snapshots) m.snapshots.next m.status kept.agrees (left_besides (state_of m) Rotate);
          current = λ running. absurd (not_running running);
          taking = sealed_taking (length m.regions.closed.items) taken;
          jobs = kept.jobs;
          next = kept.next;
          numbered = kept.numbered;
        }
