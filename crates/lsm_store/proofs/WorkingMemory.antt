-- The memory of a store whose jobs go on.
use Rattle.std.proofs.Common.{◌≡◌, ℕ, zero, suc, ◌+◌, ◌==◌, ◌∷◌, ◌++◌, Bool, true, false, cond, not, nat_le, List, [], length, map, Option, Some, None, is_some, refl, sym, ◌∙◌, ap, subst, arith}
use Rattle.std.specs.Prelude.{option_map, Result, Ok, Err, IfOk, OnOk, OnErr}
use Rattle.std.specs.List.{AllByRecursion}
use Rattle.std.specs.Arc.{arc_value}
use Rattle.std.proofs.lemmas.Bool.{leb-true, le-leb, ne_eqb}
use Rattle.std.proofs.lemmas.List.{length-map}
use Rattle.lsm_codec.specs.Versions.{Version, IsEntry}
use Rattle.lsm_codec.specs.declared.log_record.LogRecord.{LogRecord}
use Rattle.lsm_device.specs.Medium.{Medium}
use Rattle.lsm_device.specs.declared.refusal.Refusal.{Refusal}
use Rattle.lsm_extent.specs.Area.{Area, IsPartition}
use Rattle.lsm_levels.specs.Held.{AreRuns}
use Rattle.lsm_levels.specs.declared.choosing.Choice.{Choice}
use Rattle.lsm_jobs.specs.Reading.{JobCanBeRead, JobReadsOn}
use Rattle.lsm_jobs.specs.Outputs.{placed_blocks}
use Rattle.lsm_jobs.specs.Placing.{all_given_back, AreHandedOut, IsAccepted}
use Rattle.lsm_jobs.specs.Slots.{Writing, Slot, JobSlots, outputs_at, slot_of, with_held, outputs_of}
use Rattle.lsm_table.specs.Division.{TableBlocks}
use Rattle.lsm_jobs.specs.Taking.{given_job, slot_for, with_taken}
use Rattle.lsm_mem.specs.Versions.{sealed_versions}
use Rattle.lsm_levels.specs.Pick.{Job}
use Rattle.lsm_levels.specs.Levels.{all_tables, places}
use Rattle.lsm_machine.specs.Accounts.{outputs_in, tables_numbered, AreNumbered}
use Rattle.lsm_jobs.specs.declared.taking.TakenJob.{TakenJob}
use Rattle.lsm_open.specs.Tables.{first_data}
use Rattle.lsm_store.specs.declared.memory.Memory.{Memory}
use Rattle.lsm_store.specs.declared.snapshots.Mark.{Mark}
use Rattle.lsm_machine.specs.JobAnswers.{AreRising}
use Rattle.lsm_store.specs.LiveMarks.{marks}
use Rattle.lsm_store.specs.Memory.{AreConsistent, HaveTables, IsInside, mark_of, state_of, work_of}
use Rattle.lsm_machine.specs.Work.{each_once, cuts_of}
use Rattle.lsm_machine.specs.State.{are_waiting}
use Rattle.lsm_merge.specs.Inputs.{IsCuts, MergeInput}
use Rattle.lsm_store.proofs.Cuts.{cuts_law, counts_are}
use Rattle.lsm_machine.proofs.Accounts.{accounts_law, first_none}
use Rattle.lsm_store.proofs.HeldTables.{job_can_be_read, dropped_tables, placed_tables, read_tables, taken_tables, no_outputs}
use Rattle.lsm_store.proofs.NumberedJobs.{taken_numbered, held_numbered, gone_numbered, placed_numbered, placed_outlined}
use Rattle.lsm_machine.proofs.ExtentCounts.{back_blocks}
use Rattle.lsm_store.proofs.FewTables.{records_counted}

module _ {A : Type 0} (m : Memory A) (kept : AreConsistent m) where
  abbrev pub with_jobs : JobSlots → Area → Memory A
  with_jobs js extents = record m { jobs = js; extents = extents }

  pub jobs_kept : (js : JobSlots) (extents : Area) → HaveTables m.levels js extents → AreNumbered m.next_table (all_tables (places m.levels) ++ outputs_in js.slots) → AreConsistent (with_jobs js extents)
  jobs_kept js extents are numbered = record {
    synced = kept.synced;
    count = kept.count;
    snapshots = kept.snapshots;
    numbers = kept.numbers;
    agrees = kept.agrees;
    current = λ runs. let is = kept.current runs in record { numbered = is.numbered; opened = is.opened; tabled = is.tabled };
    taking = kept.taking;
    jobs = are;
    next = kept.next;
    numbered = numbered;
  }

  -- where they are what they were
  same_kept : (js : JobSlots) (extents : Area) → js ≡ m.jobs → extents ≡ m.extents → AreConsistent (with_jobs js extents)
  same_kept js extents same back =
      jobs_kept js extents (subst (λ (x : JobSlots). HaveTables m.levels x extents) (sym same) (subst (HaveTables m.levels m.jobs) (sym back) kept.jobs))
      (subst (λ (x : JobSlots). AreNumbered m.next_table (all_tables (places m.levels) ++ outputs_in x.slots)) (sym same) kept.numbered)

  -- each job can be read
  pub can_be_read : (size job : ℕ) → AreRuns m.levels → IsInside size m → JobCanBeRead size (first_data m.regions.log_sectors) job m.jobs.slots
  can_be_read size job runs inside =
      job_can_be_read size (first_data m.regions.log_sectors) job (work_of m) m.jobs runs kept.jobs.kept inside.lie.tables
      (omega (arith, inside.lie.manifest.numbers.tables, records_counted m.levels))

  -- a job was given up
  pub dropped_kept : (job : ℕ) (r : Result (Unit {0}) Refusal) (js : JobSlots) (extents : Area) → IsPartition m.extents → OnOk r (js ≡ record { next = m.jobs.next; slots = with_held job None m.jobs.slots })
      → OnOk r (extents ≡ all_given_back (outputs_of (slot_of job m.jobs.slots)) m.extents) → OnErr r ((js ≡ m.jobs) × (extents ≡ m.extents)) → AreConsistent (with_jobs js extents)
  dropped_kept job (Ok x) js extents whole freed back same =
      jobs_kept js extents (subst (λ (x : JobSlots). HaveTables m.levels x extents) (sym freed) (subst (HaveTables m.levels (record { next = m.jobs.next; slots = with_held job None m.jobs.slots })) (sym back) (dropped_tables (work_of m) job kept.jobs whole)))
      (subst (λ (x : JobSlots). AreNumbered m.next_table (all_tables (places m.levels) ++ outputs_in x.slots)) (sym freed) (gone_numbered m.next_table (all_tables (places m.levels)) job m.jobs.slots kept.numbered))
  dropped_kept job (Err e) js extents whole freed back same = same_kept js extents same.0 same.1

  -- what it has placed may be given back
  pub outputs_held : (job : ℕ) → IsPartition m.extents → AreHandedOut (outputs_of (slot_of job m.jobs.slots)) m.extents
  outputs_held job whole = accounts_law.outputs (work_of m) job (record { each = kept.jobs.accounted }) whole

  -- blocks of a job were read
  pub read_kept : (area job : ℕ) (medium : Medium) (r : Result ℕ Refusal) (js : JobSlots) → IfOk r (λ left. JobReadsOn area medium job left m.jobs js) → OnErr r (js ≡ m.jobs) → AreConsistent (with_jobs js m.extents)
  read_kept area job medium (Ok left) js read same =
      jobs_kept js m.extents (read_tables (work_of m) area job left medium js kept.jobs read)
      (subst (λ (x : JobSlots). AreNumbered m.next_table (all_tables (places m.levels) ++ outputs_in x.slots)) (sym read.becomes)
      (held_numbered m.next_table (all_tables (places m.levels)) job read.slot (Some read.now) m.jobs.slots read.is (λ n. omega (arith, ap (tables_numbered n) (no_outputs (work_of m) area job left medium js kept.jobs read))) kept.numbered))
  read_kept area job medium (Err e) js read same = same_kept js m.extents same refl

  -- a job was taken, or none
  pub take_kept : (waiting : Bool) (asked : Option Choice) (sealed : List Version) (cuts : List ℕ) (r : Result (Option TakenJob) Refusal) (js : JobSlots) → AreRuns m.levels
      → OnOk r (js ≡ with_taken sealed cuts m.levels (given_job waiting asked m.levels m.jobs.slots) m.jobs) → OnErr r (js ≡ m.jobs) → AreConsistent (with_jobs js m.extents)
  take_kept waiting asked sealed cuts (Ok taken) js runs moved same =
      jobs_kept js m.extents (subst (λ (x : JobSlots). HaveTables m.levels x m.extents) (sym moved) (taken_tables waiting asked m.levels sealed cuts m.jobs runs m.extents kept.jobs))
      (subst (λ (x : JobSlots). AreNumbered m.next_table (all_tables (places m.levels) ++ outputs_in x.slots)) (sym moved) (with_one (given_job waiting asked m.levels m.jobs.slots)))
    where
      with_one : (o : Option Job) → AreNumbered m.next_table (all_tables (places m.levels) ++ outputs_in (with_taken sealed cuts m.levels o m.jobs).slots)
      with_one None = kept.numbered
      with_one (Some job) = taken_numbered m.next_table (all_tables (places m.levels)) (slot_for m.jobs.next sealed cuts m.levels job) m.jobs.slots (first_none job) kept.numbered
  take_kept waiting asked sealed cuts (Err e) js runs moved same = same_kept js m.extents same refl

  -- a result was accepted
  pub accepted_kept : (job next : ℕ) (input : MergeInput) (images : List TableBlocks) (js : JobSlots) (extents : Area) → next ≡ m.next_table + length images → IsAccepted job m.next_table input images m.extents extents m.jobs js
      → AreConsistent (record m { jobs = js; extents = extents; next_table = next })
  accepted_kept job next input images js extents counted is =
      let now : Slot = record is.slot { stage = Writing is.tables (length (placed_blocks is.tables)) } in
      let placed = is.placing.placed in
      record {
        synced = kept.synced;
        count = kept.count;
        snapshots = kept.snapshots;
        numbers = kept.numbers;
        agrees = kept.agrees;
        current = λ runs. let current = kept.current runs in record { numbered = current.numbered; opened = current.opened; tabled = current.tabled };
        taking = kept.taking;
        jobs = subst (λ (x : JobSlots). HaveTables m.levels x extents) (sym is.staged)
            (subst (HaveTables m.levels (record { next = m.jobs.next; slots = with_held job (Some now) m.jobs.slots })) (sym is.placing.taken)
            (placed_tables (work_of m) job is.slot is.tables (placed_outlined m.next_table m.extents images is.tables placed) kept.jobs is.found is.frozen));
        next = record { low = omega (arith, kept.next.low, counted); high = omega (arith, is.numbers, counted) };
        numbered = subst (λ (n : ℕ). AreNumbered n (all_tables (places m.levels) ++ outputs_in js.slots)) (sym counted)
            (subst (λ (x : JobSlots). AreNumbered (m.next_table + length images) (all_tables (places m.levels) ++ outputs_in x.slots)) (sym is.staged)
            (placed_numbered m.next_table (all_tables (places m.levels)) m.extents images is.tables job is.slot now m.jobs.slots placed is.found (ap outputs_at is.frozen) refl kept.numbered));
      }

  -- or refused
  pub unaccepted_kept : (js : JobSlots) (extents : Area) → (js ≡ m.jobs) × (extents ≡ m.extents) → AreConsistent (with_jobs js extents)
  unaccepted_kept js extents same = same_kept js extents same.0 same.1

  -- ---- what waits for a flush

  -- whether sealed versions wait, as closed regions tell
  pub waits_told : (b : Bool) → b ≡ (length m.regions.closed.items == 0) → not b ≡ are_waiting (state_of m)
  waits_told b is = ap not is ∙ by (length m.regions.closed.items) ∙ ap (nat_le 1) (sym kept.agrees.closed)
    where
      by : (n : ℕ) → not (n == 0) ≡ nat_le 1 n
      by zero = refl
      by (suc n) = ap not (ne_eqb (suc n) 0 (λ e. omega (arith, e))) ∙ sym (le-leb 1 (suc n) (omega arith))

  -- what is told of them
  abbrev pub waiting_told : Option (List Version)
  waiting_told = cond (nat_le 1 (length m.regions.closed.items)) (option_map arc_value m.sealed) None

  pub told_is : (closed : List LogRecord) → closed ≡ m.regions.closed.items → (told : Option (List Version)) → told ≡ cond (nat_le 1 (length closed)) (option_map arc_value m.sealed) None → told ≡ waiting_told
  told_is closed same told is = is ∙ ap (λ (l : List LogRecord). cond (nat_le 1 (length l)) (option_map arc_value m.sealed) None) same

  pub told_waits : is_some waiting_told ≡ are_waiting (state_of m)
  told_waits = by (nat_le 1 (length m.regions.closed.items)) refl ∙ ap (nat_le 1) (sym kept.agrees.closed)
    where
      by : (b : Bool) → nat_le 1 (length m.regions.closed.items) ≡ b → is_some (cond b (option_map arc_value m.sealed) None) ≡ nat_le 1 (length m.regions.closed.items)
      by true is = kept.taking.waits (leb-true 1 (length m.regions.closed.items) is) ∙ sym is
      by false is = sym is

  pub told_entries : AllByRecursion IsEntry (sealed_versions waiting_told)
  told_entries = by (nat_le 1 (length m.regions.closed.items))
    where
      by : (b : Bool) → AllByRecursion IsEntry (sealed_versions (cond b (option_map arc_value m.sealed) None))
      by true = kept.taking.sealed_entries
      by false = tt

  pub told_sealed : are_waiting (state_of m) ≡ true → sealed_versions waiting_told ≡ (work_of m).sealed
  told_sealed waits = ap (λ (b : Bool). sealed_versions (cond b (option_map arc_value m.sealed) None)) (ap (nat_le 1) (sym kept.agrees.closed) ∙ waits)

  -- ---- the cuts of a job

  -- the marks that live are few, and their counts rise
  pub cuts_made : (cuts : List ℕ) → cuts ≡ cuts_of (state_of m) → IsCuts cuts
  cuts_made cuts is =
      let s = state_of m in
      subst IsCuts (sym is)
      (cuts_law s (omega (arith, kept.taking.few, ap length kept.agrees.snapshots, length-map s.snapshots mark_of))
      (subst AreRising (counts_are s (marks m.snapshots) m.count kept.agrees.snapshots kept.agrees.counted) kept.taking.rising))

  pub cuts_counted : (cuts : List ℕ) → cuts ≡ each_once (map (λ (mark : Mark). mark.count) (marks m.snapshots) ++ m.count ∷ []) → cuts ≡ cuts_of (state_of m)
  cuts_counted cuts is = is ∙ ap each_once (counts_are (state_of m) (marks m.snapshots) m.count kept.agrees.snapshots kept.agrees.counted)

-- the data area is as large without a job
pub dropped_blocks : {A : Type 0} (m : Memory A) (job : ℕ) (r : Result (Unit {0}) Refusal) (js : JobSlots) (extents : Area) → OnOk r (extents ≡ all_given_back (outputs_of (slot_of job m.jobs.slots)) m.extents) → OnErr r ((js ≡ m.jobs) × (extents ≡ m.extents)) → extents.blocks ≡ m.extents.blocks
dropped_blocks m job (Ok x) js extents back same = ap (λ (a : Area). a.blocks) back ∙ back_blocks (outputs_of (slot_of job m.jobs.slots)) m.extents
dropped_blocks m job (Err e) js extents back same = ap (λ (a : Area). a.blocks) same.1
