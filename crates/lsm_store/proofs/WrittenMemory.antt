-- The memory of a store that writes blocks of a job.
use Rattle.std.proofs.Common.{◌≡◌, ℕ, ◌+◌, ◌≤◌, ◌<◌, true, false, List, [], ◌++◌, Option, Some, None, refl, sym, ◌∙◌, ap, subst, arith}
use Rattle.std.specs.List.{AllByRecursion}
use Rattle.lsm_codec.proofs.Lists.{all_right, all_map}
use Rattle.lsm_extent.specs.Area.{IsPartition}
use Rattle.lsm_jobs.proofs.Found.{found_number}
use Rattle.lsm_jobs.proofs.KeptJobs.{going_on_law}
use Rattle.lsm_jobs.specs.Keeping.{AreKept}
use Rattle.lsm_jobs.specs.Outputs.{EndsWithin}
use Rattle.lsm_jobs.specs.Slots.{Stage, Reading, Frozen, Writing, Slot, Slots, JobSlots, slot_of, with_held, is_reading, is_writing, less_left, outputs_of}
use Rattle.lsm_jobs.specs.Writing.{JobWritesOn}
use Rattle.lsm_levels.specs.Levels.{all_tables, places}
use Rattle.lsm_levels.specs.Tables.{Table}
use Rattle.lsm_open.specs.Tables.{first_data}
use Rattle.lsm_open.specs.ToldTables.{IsOutlined}
use Rattle.lsm_store.specs.declared.memory.Memory.{Memory}
use Rattle.lsm_store.specs.declared.memory.Status.TheVariants.{Stopped}
use Rattle.lsm_machine.specs.Accounts.{tables_like, outputs_in, AreNumbered}
use Rattle.lsm_store.specs.Memory.{AreConsistent, AreReadAsMerges, HaveTables, IsInside, work_of}
use Rattle.lsm_machine.specs.Work.{WorkView}
use Rattle.lsm_machine.proofs.Accounts.{accounts_law}
use Rattle.lsm_store.proofs.HeldTables.{with_held_merges}
use Rattle.lsm_store.proofs.PlacedJobs.{one_held}
use Rattle.lsm_store.proofs.WrittenWorks.{written_outputs_in}
use Rattle.std.proofs.lemmas.Bool.{false≢true}

-- ---- the tables of jobs

-- a job that is written is not read
still_writing : (stage : Stage) → is_writing stage ≡ true → is_reading (less_left 8 stage) ≡ false
still_writing (Reading left) at = absurd (false≢true at)
still_writing Frozen at = refl
still_writing (Writing outputs left) at = refl

-- a step of writing keeps them
pub written_tables : (w : WorkView) (job left : ℕ) (js : JobSlots) → HaveTables w.levels w.jobs w.area → JobWritesOn job left w.jobs js → HaveTables w.levels js w.area
written_tables w job left js have h =
    let slot = h.slot in
    let then : Slot = record slot { stage = less_left 8 slot.stage } in
    let number : slot.number ≡ job = found_number job w.jobs.slots slot h.found in
    let kept : AreKept w.levels w.jobs.next (with_held job (Some then) w.jobs.slots) =
    subst (λ (n : ℕ). AreKept w.levels w.jobs.next (with_held n (Some then) w.jobs.slots)) number
    (going_on_law w.levels w.jobs.next w.jobs.slots slot then have.kept (ap (λ (n : ℕ). slot_of n w.jobs.slots) number ∙ h.found) refl refl refl) in
    record {
      kept = subst (λ (x : JobSlots). AreKept w.levels x.next x.slots) (sym h.staged) kept;
      merges = subst (λ (x : JobSlots). AreReadAsMerges x.slots) (sym h.staged) (with_held_merges job (Some then) w.jobs.slots (λ reads. absurd (false≢true (sym (still_writing slot.stage h.writing) ∙ reads))) have.merges);
      accounted = λ e. have.accounted e ∙ ap (λ (ts : List Table). tables_like e (all_tables (places w.levels) ++ ts)) (sym (written_outputs_in job left w.jobs js h));
      outlined = subst (λ (ts : List Table). AllByRecursion IsOutlined (all_tables (places w.levels) ++ ts)) (sym (written_outputs_in job left w.jobs js h)) have.outlined;
    }

-- the outputs of one job are among those of all
one_of_all : (P : Table → Type 0) (job : ℕ) (slots : Slots) → AllByRecursion P (outputs_in slots) → AllByRecursion P (outputs_of (slot_of job slots))
one_of_all P job slots all = by (slot_of job slots) refl
  where
    by : (o : Option Slot) → slot_of job slots ≡ o → AllByRecursion P (outputs_of o)
    by None is = tt
    by (Some slot) is = one_held P job slot slots is all

-- ---- the memory

-- stopped by a fault, with these jobs
abbrev stopped_with : {A : Type 0} → Memory A → JobSlots → Memory A
stopped_with m js = record m { jobs = js; status = Stopped; told = record { state = record m.told.state { stopped = Some [] } } }

-- the jobs are then what they were
pub stopped_same : {A : Type 0} (m then : Memory A) (js : JobSlots) → then ≡ stopped_with m js → js ≡ m.jobs → then ≡ stopped_with m m.jobs
stopped_same m then js is same = is ∙ ap (stopped_with m) same

module _ {A : Type 0} (m : Memory A) (kept : AreConsistent m) where
  -- blocks of a job were written
  pub written_kept : (job left : ℕ) (js : JobSlots) → JobWritesOn job left m.jobs js → AreConsistent (record m { jobs = js })
  written_kept job left js h = record {
    synced = kept.synced;
    count = kept.count;
    snapshots = kept.snapshots;
    numbers = kept.numbers;
    agrees = kept.agrees;
    current = λ runs. let is = kept.current runs in record { numbered = is.numbered; opened = is.opened; tabled = is.tabled };
    taking = kept.taking;
    jobs = written_tables (work_of m) job left js kept.jobs h;
    next = kept.next;
    numbered = subst (λ (ts : List Table). AreNumbered m.next_table (all_tables (places m.levels) ++ ts)) (sym (written_outputs_in job left m.jobs js h)) kept.numbered;
  }

  -- the outputs of a job lie in the device
  pub outputs_within : (size job : ℕ) → IsPartition m.extents → IsInside size m → AllByRecursion (EndsWithin size (first_data m.regions.log_sectors)) (outputs_of (slot_of job m.jobs.slots))
  outputs_within size job whole inside =
      let E : Table → Type 0 = λ t. (0 < t.blocks) × (t.start + t.blocks ≤ m.extents.blocks) in
      let placed = accounts_law.placed (work_of m) (record { each = kept.jobs.accounted }) whole in
      let all = all_right E (all_tables (places m.levels)) (outputs_in m.jobs.slots) placed.inside in
      all_map {P = E} {Q = EndsWithin size (first_data m.regions.log_sectors)} (λ t is. ends t is.0 is.1) (outputs_of (slot_of job m.jobs.slots)) (one_of_all E job m.jobs.slots all)
    where
      ends : (t : Table) → 0 < t.blocks → t.start + t.blocks ≤ m.extents.blocks → EndsWithin size (first_data m.regions.log_sectors) t
      ends t some le = omega (arith, some, le, inside.area, inside.lie.regions)
