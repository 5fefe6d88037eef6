-- What a step of reading does, by what the slots answer.
use Rattle.std.proofs.Common.{◌≡◌, ◌≢◌, ◌⊎◌, inl, inr, ⊎_elim, ◌≤◌, ◌<◌, ℕ, ◌*◌, ◌-◌, min, Bool, true, false, cond, not, ◌==◌, List, [], Some, None, is_some, refl, sym, ◌∙◌, ap, subst, arith, IsTrue}
use Rattle.std.specs.Prelude.{◌↔◌, Option, IsNone, Result, Ok, Err, IfErr, IfOk, OnErr}
use Rattle.std.proofs.lemmas.Bool.{false≢true, eqb-true, ne_eqb}
use Rattle.lsm_device.specs.Calls.{AtMost, faults_after}
use Rattle.lsm_device.specs.Disk.{seen}
use Rattle.lsm_device.specs.Medium.{Medium, disk}
use Rattle.lsm_device.specs.Outcomes.{Leaves}
use Rattle.lsm_device.specs.Refusals.{is_no_fault, faultless}
use Rattle.lsm_device.specs.declared.refusal.Refusal.{Refusal}
use Rattle.lsm_device.specs.declared.refusal.Refusal.TheVariants.{NoMemory, Io, BadTable, NoSuchJob, WrongState}
use Rattle.lsm_device.proofs.Counting.{AtMost-wider}
use Rattle.lsm_device.proofs.Moments.{unchanged}
use Rattle.lsm_jobs.specs.Reading.{IsBadNext, JobReadsOn, stage_with}
use Rattle.lsm_jobs.specs.Slots.{Stage, Slot, Reading, Frozen, Writing, JobSlots, with_held, is_reading, is_not_at, slot_of, left_at, left_to_read, to_read, outputs_at}
use Rattle.lsm_jobs.specs.StoredJobs.{HasStored}
use Rattle.lsm_levels.specs.Pick.{is_flush}
use Rattle.lsm_jobs.proofs.Found.{found_there, found_number}
use Rattle.lsm_jobs.proofs.StoredJobs.{stored_reading_law, never_bad_law}
use Rattle.lsm_open.specs.Recovering.{StandForOne}
use Rattle.lsm_store.specs.Backing.{StoreView, HasNoneOf, IsRunOn, IsBacked, placement_of, data_start, machine_of}
use Rattle.lsm_machine.specs.Calls.{Number, Refused, Reply, reply_of}
use Rattle.lsm_machine.specs.Effects.{Use}
use Rattle.lsm_machine.specs.Effects.{Untouched, Reads, Changes}
use Rattle.lsm_machine.specs.Work.{WorkView, Work, Read}
use Rattle.lsm_machine.specs.WorkEffects.{work_after, use_for, work_use, staged}
use Rattle.lsm_machine.specs.WorkRefusals.{held, of_slot, work_refusal}
use Rattle.lsm_machine.specs.WorkSound.{IsSound}
use Rattle.lsm_store.specs.Working.{work_use_before, work_use_by, IsWorkUsed, WorksTo, Works}
use Rattle.lsm_machine.proofs.AnsweredWork.{stage_passes, no_job, other_stage, read_answers}
use Rattle.lsm_store.specs.Memory.{AreReadAsMerges}
use Rattle.lsm_store.proofs.HeldTables.{reading_stored, merges_at}
use Rattle.lsm_store.proofs.ReadCalls.{no_use}
use Rattle.lsm_open.proofs.OpeningAnswers.{none_more}
use Rattle.lsm_store.proofs.WorkSounds.{read_sound}
use Rattle.lsm_store.proofs.Works.{GoesOn, running_refuses, backed_moved, worked_on, now_within, works_refused}
use Rattle.lsm_machine.proofs.Accounts.{read_none}
use Rattle.lsm_store.proofs.PlacedJobs.{held_placed, none_of_held}
use Rattle.lsm_machine.specs.Accounts.{outputs_in}
use Rattle.lsm_store.specs.InstalledJobs.{placed_by}
use Rattle.lsm_store.specs.StoredTables.{IsStoredWithJobs}
use Rattle.lsm_machine.specs.Machine.{Machine}
use Rattle.lsm_store.specs.Serving.{is_faultless}
use Rattle.lsm_machine.specs.WorkReplies.{work_reply_by, work_decided, WorkAllows, WorkAdmits, work_left_inside, next_worked, after_work_fault}
use Rattle.lsm_levels.specs.NamedBlocks.{HasNoBlock}
use Rattle.lsm_open.specs.Writing.{PlacedTable}
use Rattle.std.specs.List.{AllByRecursion}

-- What a step of the slots tells of the device, where it answered Ok or not.
pub record IsReadStep (slot : Option Slot) (ok : Bool) (old new : Medium) : Type 0 where
  pub calls : AtMost (8 * min 8 (to_read slot)) 0 0 old.calls new.calls
  pub untouched : to_read slot ≡ 0 → new ≡ old
  pub unchanged : IsTrue old.lasting.tells → new.history ≡ old.history
  pub faults : new.calls.faults ≡ faults_after ok old.calls.faults
  pub same_size : new.size ≡ old.size
  pub same_lasting : new.lasting ≡ old.lasting

-- a job that is being read
pub record IsBeingRead (m : Machine) (job : ℕ) : Type 0 where
  pub slot : Slot
  pub is : held m job ≡ Some slot
  pub reading : is_reading slot.stage ≡ true

reads_left : (stage : Stage) → is_reading stage ≡ true → left_to_read stage ≡ left_at stage
reads_left (Reading left) is = refl
reads_left Frozen is = absurd (false≢true is)
reads_left (Writing tables left) is = absurd (false≢true is)

use_kept : (u : Use) (reply : Reply) → u ≢ Changes → work_use_before u reply ≡ u
use_kept Untouched reply other = refl
use_kept Reads reply other = refl
use_kept Changes reply other = absurd (other refl)

by_left : (b : Bool) → cond b Untouched Reads ≢ Changes
by_left true e = cc
by_left false e = cc

-- with no hand on more than reads, a fault leaves the machine as it was
fault_by : (m : Machine) (piece : Work) (u : Use) → u ≢ Changes → after_work_fault m piece u ≡ m
fault_by m piece Untouched other = refl
fault_by m piece Reads other = refl
fault_by m piece Changes other = absurd (other refl)

io_job : Io ≡ NoSuchJob → ⊥
io_job e = cc

io_state : Io ≡ WrongState → ⊥
io_state e = cc

bad_job : BadTable ≡ NoSuchJob → ⊥
bad_job e = cc

bad_state : BadTable ≡ WrongState → ⊥
bad_state e = cc

want_job : NoMemory ≡ NoSuchJob → ⊥
want_job e = cc

want_state : NoMemory ≡ WrongState → ⊥
want_state e = cc

-- nothing is left to read of a job that isn't being read
none_to_read : (slot : Option Slot) → (slot ≡ None) ⊎ (is_not_at is_reading slot ≡ true) → to_read slot ≡ 0
none_to_read None h = refl
none_to_read (Some slot) h = by slot.stage (⊎_elim (λ none. absurd (no_none none)) (λ other. other) h)
  where
    no_none : Some slot ≡ None → ⊥
    no_none e = cc

    by : (stage : Stage) → not (is_reading stage) ≡ true → left_to_read stage ≡ 0
    by (Reading left) h = absurd (false≢true h)
    by Frozen h = refl
    by (Writing tables left) h = refl

module _ (v : StoreView) (job : ℕ) (new : Medium) (running : IsNone v.state.stopped) where
  abbrev m : Machine
  m = machine_of v

  abbrev piece : Work
  piece = Read job

  -- the store with that on its device
  abbrev pub on_new : JobSlots → StoreView
  on_new js = worked_on v js v.work.area new

  module _ (being : IsBeingRead m job) where
    none : work_refusal m piece ≡ None
    none = running_refuses m piece running ∙ stage_passes is_reading (held m job) being.slot None being.is being.reading

    abbrev is_whole : Bool
    is_whole = left_at being.slot.stage == 0

    uses : work_use m piece ≡ cond is_whole Untouched Reads
    uses = ap (use_for Reads) being.is

    used_by : (reply : Reply) → work_use_by m piece reply ≡ cond is_whole Untouched Reads
    used_by reply =
        ap (λ (o : Option Refusal). cond (is_some o) Untouched (work_use_before (work_use m piece) reply)) none
        ∙ ap (λ (u : Use). work_use_before u reply) uses
        ∙ use_kept (cond is_whole Untouched Reads) reply (by_left is_whole)

    no_changes : work_use m piece ≢ Changes
    no_changes e = by_left is_whole (sym uses ∙ e)

    module _ (ok : Bool) (step : IsReadStep (held m job) ok v.device new) where
      used : (reply : Reply) → IsWorkUsed piece (work_use_by m piece reply) v.device new
      used reply = subst (λ (u : Use). IsWorkUsed piece u v.device new) (sym (used_by reply)) (by is_whole refl)
        where
          small : 8 * min 8 (to_read (held m job)) ≤ 64
          small = omega arith

          by : (z : Bool) → is_whole ≡ z → IsWorkUsed piece (cond z Untouched Reads) v.device new
          by true e = step.untouched (ap to_read being.is ∙ reads_left being.slot.stage being.reading ∙ eqb-true (left_at being.slot.stage) 0 e)
          by false e = (
            record {
              no_write = none_more step.calls.written.0 v.device.calls.writes new.calls.writes step.calls.written.1 step.calls.written.2;
              no_sync = none_more step.calls.synced.0 v.device.calls.syncs new.calls.syncs step.calls.synced.1 step.calls.synced.2;
              same_history = step.unchanged;
            },
            AtMost-wider (8 * min 8 (to_read (held m job))) 0 0 64 0 0 v.device.calls new.calls small (omega arith) (omega arith) step.calls,
          )

      -- such a step, with what it answers
      works_step : (reply : Reply) (js : JobSlots) → WorkAdmits m piece reply → (IsBacked v → WorkAllows m piece reply) → (next_worked m piece reply).state ≡ v.state
          → WorksTo reply v piece (record v.work { jobs = js }) → is_faultless reply ≡ ok
          → (IsBacked v → IsRunOn v → GoesOn v js v.work.next_table v.work.area) → Works v piece reply (on_new js)
      works_step reply js admitted allowed state worked faultless goes = record {
        admitted = admitted;
        allowed = allowed;
        state = sym state;
        worked = worked;
        same_cache = refl;
        used = used reply;
        fault = step.faults ∙ sym (ap (λ (b : Bool). faults_after b v.device.calls.faults) faultless);
        same_size = step.same_size;
        same_lasting = step.same_lasting;
        crash = λ backed. unchanged (Leaves (StandForOne v.state.log_sectors (work_left_inside m piece))) v.device.history new.history (step.unchanged backed.tells) (now_within v piece backed);
        backed = λ backed. backed_moved v js v.work.next_table v.work.area new step.unchanged step.same_lasting (λ tells. goes backed) backed;
      }

  -- ---- where the tables of the job stand

  module _ (merges : (slot : Slot) → held m job ≡ Some slot → is_reading slot.stage ≡ true → is_flush slot.job ≡ false) where
    stored : (being : IsBeingRead m job) → IsBacked v → HasStored (seen (disk v.device)) (data_start v) being.slot
    stored being backed =
        let runs = backed.runs running in
        let there = found_there job v.work.jobs.slots being.slot being.is in
        reading_stored (seen (disk v.device)) (data_start v) v.work.levels v.work.sealed being.slot runs.tables
        (runs.sound.ready.kept.held being.slot there) (runs.sound.ready.jobs being.slot there).runs (merges being.slot being.is being.reading)

    -- ---- blocks were read

    module _ (left : ℕ) (js : JobSlots) (read : JobReadsOn (data_start v) v.device job left v.work.jobs js) (step : IsReadStep (held m job) true v.device new) where
      abbrev now_being : IsBeingRead m job
      now_being = record { slot = read.slot; is = read.is; reading = ap is_reading read.reads.shows.stage }

      answer_is : Number left ≡ work_decided m piece
      answer_is = sym ((read_answers m job).answer (data_start v) left v.device js read) ∙ sym (ap (work_reply_by m piece) (none now_being))

      work_is : IsBacked v → record v.work { jobs = js } ≡ work_after m piece
      work_is backed =
          let w = v.work in
          let keeps = stored_reading_law (data_start v) job left v.device w.jobs js read.slot backed.tells read.is (stored now_being backed) read in
          ap (λ (x : JobSlots). record w { jobs = x }) keeps.staged
          ∙ ap (λ (n : ℕ). record w { jobs = record w.jobs { slots = with_held n (Some (record read.slot { stage = stage_with left })) w.jobs.slots } }) (found_number job w.jobs.slots read.slot read.is)
          ∙ ap (λ (n : ℕ). staged w job (stage_with n) read.slot) keeps.eight_less
          ∙ sym (ap (of_slot w (λ slot. staged w job (stage_with (left_at slot.stage - 8)) slot)) read.is)

      none_now : outputs_at read.now.stage ≡ []
      none_now = ap (λ (s : Slot). outputs_at s.stage) read.reads.becomes ∙ read_none left

      pub read_done : Works v piece (Number left) (on_new js)
      read_done =
          works_step now_being true step (Number left) js answer_is (λ backed. answer_is) refl (record { others = refl; reads = read; kept = work_is }) refl
          (λ backed runs. record {
            sound = subst (λ (w : WorkView). IsSound (record { state = v.state; work = w })) (sym (work_is backed)) (read_sound m runs.sound job);
            stored = subst (λ (x : JobSlots). IsStoredWithJobs (placement_of v) (placed_by x.slots) v.state (disk v.device)) (sym read.becomes)
                (subst (λ (l : List PlacedTable). IsStoredWithJobs (placement_of v) l v.state (disk v.device)) (sym (held_placed job read.slot read.now v.work.jobs.slots read.is (ap outputs_at read.reads.shows.stage) none_now)) runs.stored);
            unasked = subst (λ (x : JobSlots). HasNoneOf v.work.next_table (outputs_in x.slots) v.cache) (sym read.becomes)
                (none_of_held v.work.next_table v.work.next_table job (Some read.now) v.work.jobs.slots v.cache (omega arith) (subst (AllByRecursion (λ t. HasNoBlock t.number v.cache)) (sym none_now) tt) runs.unasked);
          })

    -- ---- it was refused

    module _ (e : Refusal) (absent : (e ≡ NoSuchJob) ↔ (held m job ≡ None)) (wrong : (e ≡ WrongState) ↔ (is_not_at is_reading (held m job) ≡ true)) where
      being_read : e ≢ NoSuchJob → e ≢ WrongState → IsBeingRead m job
      being_read there right = by (held m job) refl
        where
          at_stage : (slot : Slot) → held m job ≡ Some slot → (b : Bool) → is_reading slot.stage ≡ b → IsBeingRead m job
          at_stage slot is true at = record { slot = slot; is = is; reading = at }
          at_stage slot is false at = absurd (right (wrong.1 (ap (is_not_at is_reading) is ∙ ap not at)))

          by : (o : Option Slot) → held m job ≡ o → IsBeingRead m job
          by None is = absurd (there (absent.1 is))
          by (Some slot) is = at_stage slot is (is_reading slot.stage) refl

      at : {r : Refusal} → e ≡ r → Works v piece (Refused r) (on_new v.work.jobs) → Works v piece (Refused e) (on_new v.work.jobs)
      at is works = subst (λ (r : Refusal). Works v piece (Refused r) (on_new v.work.jobs)) (sym is) works

      refused_same : (r : Refusal) → work_refusal m piece ≡ Some r → new ≡ v.device → Works v piece (Refused r) (on_new v.work.jobs)
      refused_same r is same = subst (λ (d : Medium). Works v piece (Refused r) (record v { device = d })) (sym same) (works_refused v piece r is)

      read_absent : IsReadStep (held m job) true v.device new → held m job ≡ None → Works v piece (Refused NoSuchJob) (on_new v.work.jobs)
      read_absent step is = refused_same NoSuchJob (running_refuses m piece running ∙ no_job is_reading (held m job) None is) (step.untouched (none_to_read (held m job) (inl is)))

      read_wrong : IsReadStep (held m job) true v.device new → is_not_at is_reading (held m job) ≡ true → Works v piece (Refused WrongState) (on_new v.work.jobs)
      read_wrong step is = refused_same WrongState (running_refuses m piece running ∙ other_stage is_reading (held m job) None is) (step.untouched (none_to_read (held m job) (inr is)))

      module _ (being : IsBeingRead m job) where
        read_want : IsReadStep (held m job) true v.device new → Works v piece (Refused NoMemory) (on_new v.work.jobs)
        read_want step =
            let may = ap is_some (none being) in
            works_step being true step (Refused NoMemory) v.work.jobs may (λ backed. may) refl refl refl (λ backed runs. record { sound = runs.sound; stored = runs.stored; unasked = runs.unasked })

        read_io : 0 < to_read (held m job) → IsReadStep (held m job) false v.device new → Works v piece (Refused Io) (on_new v.work.jobs)
        read_io some step =
            let still = fault_by m piece (work_use m piece) (no_changes being) in
            let may : WorkAllows m piece (Refused Io) = (ap is_some (none being), λ alone. no_reads (reads_here some) (sym (uses being) ∙ alone)) in
            works_step being false step (Refused Io) v.work.jobs may (λ backed. may) (ap (λ (x : Machine). x.state) still) (sym (ap (λ (x : Machine). x.work) still)) refl (λ backed runs. record { sound = runs.sound; stored = runs.stored; unasked = runs.unasked })
          where
            reads_here : 0 < to_read (held m job) → is_whole being ≡ false
            reads_here some = let same = ap to_read being.is ∙ reads_left being.slot.stage being.reading in ne_eqb (left_at being.slot.stage) 0 (λ zero. omega (arith, some, same, zero))

            no_reads : {b : Bool} → b ≡ false → cond b Untouched Reads ≢ Untouched
            no_reads is e = no_use (sym (ap (λ (x : Bool). cond x Untouched Reads) is) ∙ e)

        read_bad : ((slot : Slot) → IsTrue v.device.lasting.tells → held m job ≡ Some slot → IsBadNext (data_start v) v.device slot) → IsReadStep (held m job) true v.device new
            → Works v piece (Refused BadTable) (on_new v.work.jobs)
        read_bad bad step =
            works_step being true step (Refused BadTable) v.work.jobs (ap is_some (none being))
            (λ backed. absurd (never_bad_law (data_start v) v.device being.slot (stored being backed) (bad being.slot backed.tells being.is))) refl refl refl (λ backed runs. record { sound = runs.sound; stored = runs.stored; unasked = runs.unasked })

      -- The refusals of a step, each with what it tells.
      abbrev pub IsWhy : Bool → Type 0
      IsWhy ok = IsReadStep (held m job) ok v.device new

      pub read_refused : (e ≡ NoSuchJob) ⊎ ((e ≡ WrongState) ⊎ ((e ≡ Io) ⊎ ((e ≡ BadTable) ⊎ (e ≡ NoMemory)))) → (e ≡ Io → 0 < to_read (held m job))
          → (IsTrue v.device.lasting.tells → e ≡ BadTable → (slot : Slot) → held m job ≡ Some slot → IsBadNext (data_start v) v.device slot) → IsWhy (is_no_fault e) → Works v piece (Refused e) (on_new v.work.jobs)
      read_refused (inl is) some bad step = at is (read_absent (subst (λ (r : Refusal). IsWhy (is_no_fault r)) is step) (absent.0 is))
      read_refused (inr (inl is)) some bad step = at is (read_wrong (subst (λ (r : Refusal). IsWhy (is_no_fault r)) is step) (wrong.0 is))
      read_refused (inr (inr (inl is))) some bad step =
          at is (read_io (being_read (λ x. io_job (sym is ∙ x)) (λ x. io_state (sym is ∙ x))) (some is) (subst (λ (r : Refusal). IsWhy (is_no_fault r)) is step))
      read_refused (inr (inr (inr (inl is)))) some bad step =
          at is (read_bad (being_read (λ x. bad_job (sym is ∙ x)) (λ x. bad_state (sym is ∙ x))) (λ slot tells found. bad tells is slot found) (subst (λ (r : Refusal). IsWhy (is_no_fault r)) is step))
      read_refused (inr (inr (inr (inr is)))) some bad step =
          at is (read_want (being_read (λ x. want_job (sym is ∙ x)) (λ x. want_state (sym is ∙ x))) (subst (λ (r : Refusal). IsWhy (is_no_fault r)) is step))

-- ---- either

abbrev err_of_number : Refusal → Result ℕ Refusal
err_of_number e = Err e

err_same : (a b : Refusal) → err_of_number a ≡ err_of_number b → a ≡ b
err_same a b e = cc

pub read_works : (v : StoreView) (job : ℕ) (new : Medium) → IsNone v.state.stopped → AreReadAsMerges v.work.jobs.slots → (area : ℕ) → area ≡ data_start v → (r : Result ℕ Refusal) (js : JobSlots)
    → IfOk r (λ left. JobReadsOn area v.device job left v.work.jobs js) → (r ≡ Err NoSuchJob) ↔ (slot_of job v.work.jobs.slots ≡ None) → (r ≡ Err WrongState) ↔ (is_not_at is_reading (slot_of job v.work.jobs.slots) ≡ true)
    → (IsTrue v.device.lasting.tells → r ≡ Err BadTable → (slot : Slot) → slot_of job v.work.jobs.slots ≡ Some slot → IsBadNext area v.device slot)
    → IfErr r (λ e. (e ≡ NoSuchJob) ⊎ ((e ≡ WrongState) ⊎ ((e ≡ Io) ⊎ ((e ≡ BadTable) ⊎ (e ≡ NoMemory))))) → OnErr r (js ≡ v.work.jobs)
    → new.calls.faults ≡ faults_after (faultless r) v.device.calls.faults → (r ≡ Err Io → 0 < to_read (slot_of job v.work.jobs.slots)) → AtMost (8 * min 8 (to_read (slot_of job v.work.jobs.slots))) 0 0 v.device.calls new.calls
    → (to_read (slot_of job v.work.jobs.slots) ≡ 0 → new ≡ v.device) → (IsTrue v.device.lasting.tells → new.history ≡ v.device.history) → new.size ≡ v.device.size → new.lasting ≡ v.device.lasting
    → Works v (Read job) (reply_of Number r) (worked_on v js v.work.area new)
read_works v job new running merges area at_area (Ok left) js reads absent wrong bad refused same faults some calls untouched unchanged size lasting =
    read_done v job new running (λ slot is reading. merges_at job v.work.jobs.slots slot merges is reading) left js
    (subst (λ (n : ℕ). JobReadsOn n v.device job left v.work.jobs js) at_area reads)
    (record { calls = calls; untouched = untouched; unchanged = unchanged; faults = faults; same_size = size; same_lasting = lasting })
read_works v job new running merges area at_area (Err e) js reads absent wrong bad refused same faults some calls untouched unchanged size lasting =
    subst (λ (x : JobSlots). Works v (Read job) (Refused e) (worked_on v x v.work.area new)) (sym same)
    (read_refused v job new running (λ slot is reading. merges_at job v.work.jobs.slots slot merges is reading) e
    (λ is. absent.0 (ap err_of_number is), λ is. err_same e NoSuchJob (absent.1 is))
    (λ is. wrong.0 (ap err_of_number is), λ is. err_same e WrongState (wrong.1 is))
    refused (λ is. some (ap err_of_number is))
    (λ tells is slot found. subst (λ (n : ℕ). IsBadNext n v.device slot) at_area (bad tells (ap err_of_number is) slot found))
    (record { calls = calls; untouched = untouched; unchanged = unchanged; faults = faults; same_size = size; same_lasting = lasting }))
