-- Jobs in slots have their tables, whatever the device holds, and can be read; and where these stand they are read as they are.
use Rattle.std.proofs.Common.{◌≡◌, ℕ, zero, suc, ◌++◌, ◌≤◌, ◌==◌, Bool, true, false, cond, List, [], ◌∷◌, length, Option, Some, None, refl, sym, ◌∙◌, ap, subst, arith}
use Rattle.std.specs.List.{AllByRecursion}
use Rattle.std.proofs.lemmas.Bool.{false≢true}
use Rattle.lsm_codec.specs.Versions.{Version}
use Rattle.lsm_device.specs.Medium.{Medium}
use Rattle.lsm_merge.specs.Inputs.{MergeInput, AreRuns as AreEntryRuns}
use Rattle.lsm_levels.specs.Held.{AreRuns, IsHeld}
use Rattle.lsm_levels.specs.declared.choosing.Choice.{Choice}
use Rattle.lsm_extent.specs.Area.{Area, IsPartition}
use Rattle.lsm_extent.specs.declared.extent.Extent.{Extent}
use Rattle.lsm_levels.specs.Levels.{Levels, all_tables, places}
use Rattle.lsm_levels.specs.Pick.{Job, Flush, Merge, inputs, is_flush}
use Rattle.lsm_levels.specs.Stored.{LiesWithin, AreWithin, AreStored, IsStored}
use Rattle.lsm_levels.specs.Tables.{Table}
use Rattle.lsm_jobs.specs.Gathering.{ReadSoFar}
use Rattle.lsm_jobs.specs.Keeping.{AreKept}
use Rattle.lsm_jobs.specs.Reading.{CanBeRead, JobCanBeRead, JobReadsOn, SlotReadsOn, input_with}
use Rattle.lsm_jobs.specs.Outputs.{placed_blocks}
use Rattle.lsm_jobs.specs.Placing.{all_handed_out, all_given_back}
use Rattle.lsm_jobs.specs.Slots.{Frozen, Writing, Slot, Slots, JobSlots, slot_of, with_slot, with_held, is_reading, outputs_at, outputs_of}
use Rattle.lsm_jobs.specs.StoredJobs.{HasStored}
use Rattle.lsm_jobs.specs.Taking.{runs_of, first_stage, given_job, slot_for, with_taken}
use Rattle.lsm_jobs.proofs.Found.{found_there, found_number}
use Rattle.lsm_jobs.proofs.KeptJobs.{given_may, may_taken, going_on_law, freeing_law}
use Rattle.lsm_jobs.proofs.StoredTakings.{stored_taking_law}
use Rattle.lsm_codec.proofs.Lists.{all_left, all_right, all_append}
use Rattle.lsm_open.specs.ToldTables.{IsOutlined}
use Rattle.lsm_machine.specs.Accounts.{extents_like, tables_like, outputs_in, AreAccounted}
use Rattle.lsm_store.specs.Memory.{IsReadAsMerge, AreReadAsMerges, HaveTables}
use Rattle.lsm_machine.specs.Work.{WorkView}
use Rattle.lsm_machine.specs.WorkRefusals.{live_tables}
use Rattle.lsm_machine.proofs.Accounts.{unheld, first_none, read_none, reading_none, taken_outputs, held_accounts, placed_accounts, dropped_accounts}
use Rattle.lsm_store.proofs.PlacedJobs.{all_held}
use Rattle.lsm_store.proofs.StoredLevels.{jobs_have, jobs_stored}
use Rattle.lsm_machine.proofs.TableLimits.{install_counts}

-- ---- slots

-- a job that is just taken is read only where it is a merge
first_merges : (job : Job) → is_reading (first_stage job) ≡ true → is_flush job ≡ false
first_merges Flush = λ h. absurd (false≢true h)
first_merges (Merge i upper lower) = λ h. refl

with_slot_merges : (new : Slot) (slots : Slots) → IsReadAsMerge (Some new) → AreReadAsMerges slots → AreReadAsMerges (with_slot new slots)
with_slot_merges new [] one all = tt
with_slot_merges new (None ∷ rest) one all = (one, all.1)
with_slot_merges new (Some held ∷ rest) one all = (all.0, with_slot_merges new rest one all.1)

pub with_held_merges : (number : ℕ) (now : Option Slot) (slots : Slots) → IsReadAsMerge now → AreReadAsMerges slots → AreReadAsMerges (with_held number now slots)
with_held_merges number now [] one all = tt
with_held_merges number now (None ∷ rest) one all = (tt, with_held_merges number now rest one all.1)
with_held_merges number now (Some held ∷ rest) one all = by (held.number == number) (with_held_merges number now rest one all.1)
  where
    by : (b : Bool) → AreReadAsMerges (with_held number now rest) → AreReadAsMerges (cond b (now ∷ rest) (Some held ∷ with_held number now rest))
    by true later = (one, all.1)
    by false later = (all.0, later)

pub merges_at : (number : ℕ) (slots : Slots) (slot : Slot) → AreReadAsMerges slots → slot_of number slots ≡ Some slot → IsReadAsMerge (Some slot)
merges_at number [] slot all is = absurd (none_slot is)
  where
    none_slot : None ≡ Some slot → ⊥
    none_slot e = cc
merges_at number (None ∷ rest) slot all is = merges_at number rest slot all.1 is
merges_at number (Some held ∷ rest) slot all is = by (λ e. merges_at number rest slot all.1 e) (held.number == number) is
  where
    by : (slot_of number rest ≡ Some slot → IsReadAsMerge (Some slot)) → (b : Bool) → cond b (Some held) (slot_of number rest) ≡ Some slot → IsReadAsMerge (Some slot)
    by later true e = subst IsReadAsMerge e all.0
    by later false e = later e

pub held_outlined : (ts : List Table) (job : ℕ) (now : Option Slot) (slots : Slots) → AllByRecursion IsOutlined (outputs_of now) → AllByRecursion IsOutlined (ts ++ outputs_in slots) → AllByRecursion IsOutlined (ts ++ outputs_in (with_held job now slots))
held_outlined ts job now slots one all =
    all_append IsOutlined ts (outputs_in (with_held job now slots)) (all_left IsOutlined ts (outputs_in slots) all) (all_held IsOutlined job now slots one (all_right IsOutlined ts (outputs_in slots) all))

-- ---- a taking

module _ (waiting : Bool) (asked : Option Choice) (levels : Levels) (sealed : List Version) (cuts : List ℕ) (js : JobSlots) (runs : AreRuns levels) (area : Area) (have : HaveTables levels js area) where
  abbrev after : Option Job → JobSlots
  after o = with_taken sealed cuts levels o js

  taken_by : (o : Option Job) → given_job waiting asked levels js.slots ≡ o → HaveTables levels (after o) area
  taken_by None given = have
  taken_by (Some job) given = record {
    kept = may_taken levels js.next js.slots sealed cuts job have.kept (given_may waiting levels asked js.slots job given runs);
    merges = with_slot_merges (slot_for js.next sealed cuts levels job) js.slots (first_merges job) have.merges;
    accounted = λ e. have.accounted e ∙ ap (λ (ts : List Table). tables_like e (all_tables (places levels) ++ ts)) (sym (taken_outputs (slot_for js.next sealed cuts levels job) js.slots (first_none job)));
    outlined = subst (λ (ts : List Table). AllByRecursion IsOutlined (all_tables (places levels) ++ ts)) (sym (taken_outputs (slot_for js.next sealed cuts levels job) js.slots (first_none job))) have.outlined;
  }

  pub taken_tables : HaveTables levels (after (given_job waiting asked levels js.slots)) area
  taken_tables = taken_by (given_job waiting asked levels js.slots) refl

-- it is the same with other sealed versions, where the job is no flush
pub same_taken : (sealed others : List Version) (cuts : List ℕ) (levels : Levels) (o : Option Job) (js : JobSlots) → (o ≡ Some Flush → sealed ≡ others) → with_taken sealed cuts levels o js ≡ with_taken others cuts levels o js
same_taken sealed others cuts levels None js same = refl
same_taken sealed others cuts levels (Some Flush) js same = ap (λ (x : List Version). with_taken x cuts levels (Some Flush) js) (same refl)
same_taken sealed others cuts levels (Some (Merge i upper lower)) js same = refl

-- ---- a job is dropped

pub dropped_tables : (w : WorkView) (number : ℕ) → HaveTables w.levels w.jobs w.area → IsPartition w.area → HaveTables w.levels (record { next = w.jobs.next; slots = with_held number None w.jobs.slots }) (all_given_back (outputs_of (slot_of number w.jobs.slots)) w.area)
dropped_tables w number have whole = record {
  kept = freeing_law w.levels w.jobs.next number w.jobs.slots have.kept;
  merges = with_held_merges number None w.jobs.slots tt have.merges;
  accounted = by (slot_of number w.jobs.slots) refl;
  outlined = held_outlined (all_tables (places w.levels)) number None w.jobs.slots tt have.outlined;
}
  where
    accounts : AreAccounted w
    accounts = record { each = have.accounted }

    by : (o : Option Slot) → slot_of number w.jobs.slots ≡ o → (e : Extent) → extents_like e (all_given_back (outputs_of o) w.area).held ≡ tables_like e (all_tables (places w.levels) ++ outputs_in (with_held number None w.jobs.slots))
    by None is = λ e. have.accounted e ∙ ap (λ (slots : Slots). tables_like e (all_tables (places w.levels) ++ outputs_in slots)) (sym (unheld number None w.jobs.slots is))
    by (Some slot) is = (dropped_accounts w accounts whole number slot is).each

-- ---- a job's outputs are placed

pub placed_tables : (w : WorkView) (job : ℕ) (slot : Slot) (tables : List Table) → AllByRecursion IsOutlined tables → HaveTables w.levels w.jobs w.area → slot_of job w.jobs.slots ≡ Some slot → slot.stage ≡ Frozen
    → HaveTables w.levels (record { next = w.jobs.next; slots = with_held job (Some (record slot { stage = Writing tables (length (placed_blocks tables)) })) w.jobs.slots }) (all_handed_out tables w.area)
placed_tables w job slot tables each have is frozen =
    let now : Slot = record slot { stage = Writing tables (length (placed_blocks tables)) } in
    let number : slot.number ≡ job = found_number job w.jobs.slots slot is in
    record {
      kept = subst (λ (n : ℕ). AreKept w.levels w.jobs.next (with_held n (Some now) w.jobs.slots)) number
          (going_on_law w.levels w.jobs.next w.jobs.slots slot now have.kept (ap (λ (n : ℕ). slot_of n w.jobs.slots) number ∙ is) refl refl refl);
      merges = with_held_merges job (Some now) w.jobs.slots (λ h. absurd (false≢true h)) have.merges;
      accounted = (placed_accounts w (record { each = have.accounted }) job slot (Some tables) is (ap outputs_at frozen)).each;
      outlined = held_outlined (all_tables (places w.levels)) job (Some now) w.jobs.slots each have.outlined;
    }

-- ---- a job is read

-- A job that holds a slot can be read: its tables are those of levels that are few and lie within the device.
pub job_can_be_read : (size area job : ℕ) (w : WorkView) (js : JobSlots) → AreRuns w.levels → AreKept w.levels js.next js.slots → AreWithin size area (places w.levels) → length (live_tables w) ≤ 1024 → JobCanBeRead size area job js.slots
job_can_be_read size area job w js runs kept within few = record { is = by }
  where
    by : (slot : Slot) → slot_of job js.slots ≡ Some slot → CanBeRead size area slot.job
    by slot is =
        let held = kept.held slot (found_there job js.slots slot is) in
        let taken_in = (install_counts w job slot runs held).taken_in in
        record { few = omega (arith, taken_in, few); within = jobs_have (LiesWithin size area) w.levels slot.input.bottom slot.job within held }

same_flag : (left : ℕ) (tables : List Table) (g : ReadSoFar) → (input_with left tables g).bottom ≡ g.bottom
same_flag zero tables g = refl
same_flag (suc left) tables g = refl

module _ (w : WorkView) (area job left : ℕ) (m : Medium) (after : JobSlots) (have : HaveTables w.levels w.jobs w.area) (read : JobReadsOn area m job left w.jobs after) where
  reads : SlotReadsOn area m left read.slot read.now
  reads = read.reads

  reading : is_reading read.slot.stage ≡ true
  reading = ap is_reading reads.shows.stage

  same_job : read.now.job ≡ read.slot.job
  same_job = ap (λ (s : Slot). s.job) reads.becomes

  same_bottom : read.now.input.bottom ≡ read.slot.input.bottom
  same_bottom =
      ap (λ (s : Slot). s.input.bottom) reads.becomes
      ∙ same_flag left (inputs read.slot.job) reads.after
      ∙ reads.next.same_bottom
      ∙ sym (ap (λ (i : MergeInput). i.bottom) reads.shows.input)

  numbered : read.slot.number ≡ job
  numbered = found_number job w.jobs.slots read.slot read.is

  now_merges : IsReadAsMerge (Some read.now)
  now_merges = λ h. ap is_flush same_job ∙ merges_at job w.jobs.slots read.slot have.merges read.is reading

  now_kept : AreKept w.levels w.jobs.next (with_held job (Some read.now) w.jobs.slots)
  now_kept =
      subst (λ (n : ℕ). AreKept w.levels w.jobs.next (with_held n (Some read.now) w.jobs.slots)) numbered
      (going_on_law w.levels w.jobs.next w.jobs.slots read.slot read.now have.kept (ap (λ (n : ℕ). slot_of n w.jobs.slots) numbered ∙ read.is) (ap (λ (s : Slot). s.number) reads.becomes) same_job same_bottom)

  -- what is being read has no outputs
  pub no_outputs : outputs_at read.now.stage ≡ []
  no_outputs = ap (λ (s : Slot). outputs_at s.stage) reads.becomes ∙ read_none left

  pub none_before : outputs_at read.slot.stage ≡ []
  none_before = reading_none read.slot.stage reading

  none_yet : outputs_at read.now.stage ≡ outputs_at read.slot.stage
  none_yet = no_outputs ∙ sym none_before

  pub read_tables : HaveTables w.levels after w.area
  read_tables = subst (λ (x : JobSlots). HaveTables w.levels x w.area) (sym read.becomes) (record {
    kept = now_kept;
    merges = with_held_merges job (Some read.now) w.jobs.slots now_merges have.merges;
    accounted = (held_accounts w (record { each = have.accounted }) job read.slot read.now read.is none_yet).each;
    outlined = held_outlined (all_tables (places w.levels)) job (Some read.now) w.jobs.slots (subst (AllByRecursion IsOutlined) (sym no_outputs) tt) have.outlined;
  })

-- ---- where tables stand

ordered_by : (sectors : List (List ℕ)) (area : ℕ) (levels : Levels) (bottom : Bool) (sealed : List Version) (job : Job) → AreStored sectors area (places levels) → IsHeld levels bottom job → is_flush job ≡ false → AreEntryRuns (runs_of sealed job)
ordered_by sectors area levels bottom sealed Flush stored held merges = absurd (false≢true (sym merges))
ordered_by sectors area levels bottom sealed (Merge i upper lower) stored held merges =
    (stored_taking_law sectors area 0 i sealed [] bottom upper lower (jobs_have (IsStored sectors area) levels bottom (Merge i upper lower) stored held)).ordered

-- the tables of a job that is being read stand, and what its merge is to be given is in the order of entries
pub reading_stored : (sectors : List (List ℕ)) (area : ℕ) (levels : Levels) (sealed : List Version) (slot : Slot) → AreStored sectors area (places levels) → IsHeld levels slot.input.bottom slot.job
    → slot.input.runs ≡ runs_of sealed slot.job → is_flush slot.job ≡ false → HasStored sectors area slot
reading_stored sectors area levels sealed slot stored held is merges =
    jobs_stored sectors area levels slot stored held (subst AreEntryRuns (sym is) (ordered_by sectors area levels slot.input.bottom sealed slot.job stored held merges))
