-- What a step of writing does, by what the slots answer.
use Rattle.std.proofs.Common.{◌≡◌, ◌≢◌, ⊎_elim, ◌<◌, ◌≤◌, ℕ, ◌*◌, min, ◌==◌, Bool, true, false, cond, not, List, [], ◌∷◌, ◌++◌, Option, Some, None, is_some, refl, sym, ◌∙◌, ap, subst, arith, IsTrue}
use Rattle.std.specs.Prelude.{IsNone, Contains}
use Rattle.std.proofs.lemmas.Bool.{false≢true, eqb-true, ne_eqb}
use Rattle.std.proofs.lemmas.List.Elements.{Contains-append_left}
use Rattle.std.proofs.lemmas.Option.{same_Some}
use Rattle.lsm_device.specs.Calls.{AtMost}
use Rattle.lsm_device.specs.Disk.{Disk, Write as DiskWrite, seen}
use Rattle.lsm_device.specs.History.{EachSince}
use Rattle.lsm_device.specs.Medium.{Lasting, Medium, disk}
use Rattle.lsm_device.specs.Outcomes.{Leaves}
use Rattle.lsm_device.specs.Runs.{grown, HasSomeOf}
use Rattle.lsm_device.specs.declared.refusal.Refusal.{Refusal}
use Rattle.lsm_device.specs.declared.refusal.Refusal.TheVariants.{Io, NoSuchJob, WrongState}
use Rattle.lsm_device.proofs.Counting.{AtMost-wider}
use Rattle.lsm_device.proofs.Moments.{ended, weaker}
use Rattle.lsm_jobs.specs.Outputs.{writes_of, next_blocks}
use Rattle.lsm_jobs.specs.Refusing.{RefusesWrite}
use Rattle.lsm_jobs.specs.Slots.{Stage, Slot, Slots, Reading, Frozen, Writing, JobSlots, slot_of, with_held, is_writing, left_at, left_to_write, less_left, outputs_at, to_write}
use Rattle.lsm_jobs.specs.Writing.{WritesBlocks, JobWritesOn, next_at, next_of}
use Rattle.lsm_levels.proofs.NamedBlocks.{named_law}
use Rattle.lsm_levels.specs.Levels.{all_tables, places}
use Rattle.lsm_levels.specs.Tables.{Table}
use Rattle.lsm_root.specs.CrashState.{CrashState}
use Rattle.lsm_open.specs.Placements.{Placement}
use Rattle.lsm_open.specs.Recovering.{StandForOne}
use Rattle.lsm_machine.specs.Accounts.{outputs_in}
use Rattle.lsm_store.specs.Backing.{StoreView, HasNoneOf, IsRunOn, IsBacked, placement_of, data_start, machine_of}
use Rattle.lsm_machine.specs.Calls.{Number, Refused, Reply}
use Rattle.lsm_machine.specs.Crash.{may_leave, left_between}
use Rattle.lsm_machine.specs.Effects.{Use}
use Rattle.lsm_machine.specs.Effects.{Untouched, Changes}
use Rattle.lsm_store.specs.InstalledJobs.{placed_by, AreSealedIn, AreLoggedIn}
use Rattle.lsm_machine.specs.State.{State}
use Rattle.lsm_store.specs.StoredTables.{IsStoredWithJobs, KeepsExtents}
use Rattle.lsm_machine.specs.Work.{WorkView, Work, Write}
use Rattle.lsm_machine.specs.WorkEffects.{use_for, work_after, work_use}
use Rattle.lsm_machine.specs.WorkRefusals.{held, work_refusal}
use Rattle.lsm_machine.specs.WorkSound.{IsSound}
use Rattle.lsm_store.specs.Working.{work_use_before, work_use_by, IsWorkUsed, Works}
use Rattle.lsm_machine.specs.Machine.{Machine}
use Rattle.lsm_machine.specs.WorkReplies.{work_decided, work_left_inside, work_reply_by, after_work_fault, WorkAllows}
use Rattle.lsm_machine.proofs.Accounts.{same_outputs}
use Rattle.lsm_machine.proofs.AnsweredWork.{stage_passes, write_answers}
use Rattle.lsm_store.proofs.Backed.{run_backed}
use Rattle.lsm_store.proofs.Carrying.{may_leave_running}
use Rattle.lsm_store.proofs.Serving.{none_of}
use Rattle.lsm_store.proofs.StoredLevels.{levels_kept, blocks_kept}
use Rattle.lsm_store.proofs.WorkSounds.{write_sound}
use Rattle.lsm_store.proofs.Works.{running_refuses, works_refused, worked_on}
use Rattle.lsm_store.proofs.WrittenSteps.{step_stored, step_extents, step_sealed, step_logged, step_each}

-- What a step of the slots tells of the device, where it answered Ok or not.
pub record IsWriteStep (area : ℕ) (slot : Option Slot) (ok : Bool) (old new : Medium) : Type 0 where
  pub written : WritesBlocks area (next_of slot) ok old new
  pub calls : AtMost 0 (8 * min 8 (to_write slot)) 0 old.calls new.calls
  pub untouched : to_write slot ≡ 0 → new ≡ old

-- where the area begins with the same sector
pub step_at : (slot : Option Slot) (ok : Bool) (old new : Medium) {area other : ℕ} → area ≡ other → WritesBlocks area (next_of slot) ok old new → AtMost 0 (8 * min 8 (to_write slot)) 0 old.calls new.calls → (to_write slot ≡ 0 → new ≡ old)
    → IsWriteStep other slot ok old new
step_at slot ok old new is written calls untouched = record {
  written = subst (λ (n : ℕ). WritesBlocks n (next_of slot) ok old new) is written;
  calls = calls;
  untouched = untouched;
}

-- a stage at which a job is written
record IsWriting (stage : Stage) : Type 0 where
  outputs : List Table
  left : ℕ
  is : stage ≡ Writing outputs left

writing_at : (stage : Stage) → is_writing stage ≡ true → IsWriting stage
writing_at (Reading left) at = absurd (false≢true at)
writing_at Frozen at = absurd (false≢true at)
writing_at (Writing outputs left) at = record { outputs = outputs; left = left; is = refl }

-- so is one at which some blocks are left to write
some_writing : (stage : Stage) → 0 < left_to_write stage → IsWriting stage
some_writing (Reading left) some = absurd (omega (arith, some))
some_writing Frozen some = absurd (omega (arith, some))
some_writing (Writing outputs left) some = record { outputs = outputs; left = left; is = refl }

no_slot : (slot : Slot) → None ≡ Some slot → ⊥
no_slot slot e = cc

-- outputs are the same where those of one job stay
pub same_outputs_in : (job : ℕ) (other : Slot) (slots : Slots) (slot : Slot) → slot_of job slots ≡ Some slot → outputs_at other.stage ≡ outputs_at slot.stage → outputs_in (with_held job (Some other) slots) ≡ outputs_in slots
same_outputs_in job other [] slot is same = absurd (no_slot slot is)
same_outputs_in job other (None ∷ rest) slot is same = same_outputs_in job other rest slot is same
same_outputs_in job other (Some one ∷ rest) slot is same = by (one.number == job) is (λ later. same_outputs_in job other rest slot later same)
  where
    by : (b : Bool) → cond b (Some one) (slot_of job rest) ≡ Some slot → (slot_of job rest ≡ Some slot → outputs_in (with_held job (Some other) rest) ≡ outputs_in rest)
        → outputs_in (cond b (Some other ∷ rest) (Some one ∷ with_held job (Some other) rest)) ≡ outputs_at one.stage ++ outputs_in rest
    by true here later = ap (λ (ts : List Table). ts ++ outputs_in rest) (same ∙ sym (ap (λ (x : Slot). outputs_at x.stage) (same_Some one slot here)))
    by false there later = ap (λ (ts : List Table). outputs_at one.stage ++ ts) (later there)

-- a step of writing leaves all outputs
pub written_outputs_in : (job left : ℕ) (old new : JobSlots) → JobWritesOn job left old new → outputs_in new.slots ≡ outputs_in old.slots
written_outputs_in job left old new h =
    ap (λ (js : JobSlots). outputs_in js.slots) h.staged
    ∙ same_outputs_in job (record h.slot { stage = less_left 8 h.slot.stage }) old.slots h.slot h.found (same_outputs 8 h.slot.stage)

-- nothing is left to write of a job that isn't written
none_to_write : (o : Option Slot) (e : Refusal) → e ≢ Io → RefusesWrite o e → to_write o ≡ 0
none_to_write o NoSuchJob other h = ap to_write h
none_to_write None WrongState other h = refl
none_to_write (Some slot) WrongState other h = by slot.stage h
  where
    by : (stage : Stage) → not (is_writing stage) ≡ true → left_to_write stage ≡ 0
    by (Reading left) h = refl
    by Frozen h = refl
    by (Writing outputs left) h = absurd (false≢true h)
none_to_write o Io other h = absurd (other refl)
none_to_write o more other h = absurd h

module _ (v : StoreView) (job : ℕ) (new : Medium) (running : IsNone v.state.stopped) where
  abbrev m : Machine
  m = machine_of v

  abbrev piece : Work
  piece = Write job

  abbrev p : Placement
  p = placement_of v

  -- ---- a step of a job that is written

  module _ (slot : Slot) (is : held m job ≡ Some slot) (writing : IsWriting slot.stage) where
    abbrev outputs : List Table
    outputs = writing.outputs

    abbrev left : ℕ
    left = writing.left

    abbrev writes : List DiskWrite
    writes = writes_of (data_start v) (next_blocks outputs left)

    none : work_refusal m piece ≡ None
    none = running_refuses m piece running ∙ stage_passes is_writing (held m job) slot None is (ap is_writing writing.is)

    uses : work_use m piece ≡ cond (left == 0) Untouched Changes
    uses = ap (use_for Changes) is ∙ ap (λ (at : Stage). cond (left_at at == 0) Untouched Changes) writing.is

    used_by : (reply : Reply) → work_use_before Changes reply ≡ Changes → work_use_by m piece reply ≡ cond (left == 0) Untouched Changes
    used_by reply keeps =
        ap (λ (o : Option Refusal). cond (is_some o) Untouched (work_use_before (work_use m piece) reply)) none
        ∙ ap (λ (u : Use). work_use_before u reply) uses
        ∙ by (left == 0)
      where
        by : (b : Bool) → work_use_before (cond b Untouched Changes) reply ≡ cond b Untouched Changes
        by true = refl
        by false = keeps

    blocks_are : next_of (held m job) ≡ next_blocks outputs left
    blocks_are = ap next_of is ∙ ap next_at writing.is

    left_is : to_write (held m job) ≡ left
    left_is = ap to_write is ∙ ap left_to_write writing.is

    module _ (ok : Bool) (step : IsWriteStep (data_start v) (held m job) ok v.device new) where
      used : (reply : Reply) → work_use_before Changes reply ≡ Changes → IsWorkUsed piece (work_use_by m piece reply) v.device new
      used reply keeps = subst (λ (u : Use). IsWorkUsed piece u v.device new) (sym (used_by reply keeps)) (by (left == 0) refl)
        where
          small : 8 * min 8 (to_write (held m job)) ≤ 64
          small = omega arith

          by : (z : Bool) → (left == 0) ≡ z → IsWorkUsed piece (cond z Untouched Changes) v.device new
          by true e = step.untouched (left_is ∙ eqb-true left 0 e)
          by false e = AtMost-wider 0 (8 * min 8 (to_write (held m job))) 0 0 64 0 v.device.calls new.calls (omega arith) small (omega arith) step.calls

      moments : IsBacked v → EachSince (HasSomeOf (disk v.device) writes) v.device.history new.history
      moments backed = subst (λ (bs : List DiskWrite). EachSince (HasSomeOf (disk v.device) (writes_of (data_start v) bs)) v.device.history new.history) blocks_are (step.written.moments backed.tells)

      -- at each moment of it a crash leaves what it might before
      each : IsBacked v → EachSince (Leaves (StandForOne v.state.log_sectors (may_leave v.state))) v.device.history new.history
      each backed = step_each p v.work.jobs.slots job slot outputs left is writing.is v.state v.device.history new.history (backed.runs running).stored (moments backed)

      inside : IsBacked v → EachSince (Leaves (StandForOne v.state.log_sectors (work_left_inside m piece))) v.device.history new.history
      inside backed =
          weaker (Leaves (StandForOne v.state.log_sectors (may_leave v.state))) (Leaves (StandForOne v.state.log_sectors (work_left_inside m piece))) v.device.history new.history
          (λ d leaves mask. let one = leaves mask in (one.0, Contains-append_left (may_leave v.state) _ one.0 one.1, one.2)) (each backed)

      tells_still : IsBacked v → IsTrue new.lasting.tells
      tells_still backed = subst (λ (l : Lasting). IsTrue l.tells) (sym step.written.same_lasting) backed.tells

    -- ---- all blocks were written

    module _ (step : IsWriteStep (data_start v) (held m job) true v.device new) (answered : ℕ) (js : JobSlots) (staged : js ≡ record { next = v.work.jobs.next; slots = with_held job (Some (record slot { stage = less_left 8 slot.stage })) v.work.jobs.slots })
        (same : outputs_in js.slots ≡ outputs_in v.work.jobs.slots) (work : record v.work { jobs = js } ≡ work_after m piece) where
      disk_is : IsBacked v → disk new ≡ grown writes (disk v.device)
      disk_is backed = step.written.pends backed.tells refl ∙ ap (λ (bs : List DiskWrite). grown (writes_of (data_start v) bs) (disk v.device)) blocks_are

      runs_written : IsBacked v → IsRunOn (worked_on v js v.work.area new)
      runs_written backed =
          let s = v.state in
          let old = disk v.device in
          let slots = v.work.jobs.slots in
          let runs = backed.runs running in
          let here : grown writes old ≡ disk new = sym (disk_is backed) in
          let kept : KeepsExtents p old (disk new) = subst (KeepsExtents p old) here (step_extents p slots job slot outputs left is writing.is s old runs.stored) in
          record {
            stored = subst (λ (x : JobSlots). IsStoredWithJobs p (placed_by x.slots) s (disk new)) (sym staged)
                (subst (IsStoredWithJobs p (placed_by (with_held job (Some (record slot { stage = less_left 8 slot.stage })) slots)) s) here (step_stored p slots job slot outputs left is writing.is s old runs.stored));
            sound = subst (λ (w : WorkView). IsSound (record { state = s; work = w })) (sym work) (write_sound m runs.sound job);
            sealed = subst (λ (d : Disk). AreSealedIn p (seen d) v.work.sealed) here (step_sealed p slots job slot outputs left is writing.is s old runs.stored v.work.sealed runs.sealed);
            logged = subst (λ (d : Disk). AreLoggedIn p (seen d) v.work.memory) here (step_logged p slots job slot outputs left is writing.is s old runs.stored v.work.memory runs.logged);
            tables = levels_kept p v.work.levels old (disk new) refl kept runs.tables;
            apart = runs.apart;
            fresh = named_law.kept (data_start v) (seen old) (seen (disk new)) (all_tables (places v.work.levels)) v.cache (blocks_kept p v.work.levels old (disk new) refl kept) runs.fresh;
            unasked = subst (λ (ts : List Table). HasNoneOf v.work.next_table ts v.cache) (sym same) runs.unasked;
          }

      works_written : Number answered ≡ work_decided m piece → Works v piece (Number answered) (worked_on v js v.work.area new)
      works_written answer = record {
        admitted = answer;
        allowed = λ backed. answer;
        state = refl;
        worked = work;
        same_cache = refl;
        used = used true step (Number answered) refl;
        fault = step.written.faults;
        same_size = step.written.same_size;
        same_lasting = step.written.same_lasting;
        crash = inside true step;
        backed = λ backed. run_backed (worked_on v js v.work.area new) (tells_still true step backed) (runs_written backed);
      }

    -- ---- a fault stopped it

    -- the state that is stopped so
    abbrev stopped_state : State
    stopped_state = record v.state { stopped = Some [] }

    module _ (step : IsWriteStep (data_start v) (held m job) false v.device new) (some : 0 < to_write (held m job)) where
      changes : work_use m piece ≡ Changes
      changes = uses ∙ ap (λ (b : Bool). cond b Untouched Changes) (ne_eqb left 0 (λ zero. omega (arith, some, left_is, zero)))

      may : WorkAllows m piece (Refused Io)
      may = (ap is_some none, λ alone. no (sym changes ∙ alone))
        where
          no : Changes ≡ Untouched → ⊥
          no e = cc

      stopped_leaves : IsBacked v → Leaves (StandForOne v.state.log_sectors (left_between v.state ++ [])) (disk new)
      stopped_leaves backed mask =
          let one = ended (Leaves (StandForOne v.state.log_sectors (may_leave v.state))) v.device.history new.history (each false step backed) mask in
          (one.0, Contains-append_left (left_between v.state) [] one.0 (subst (λ (all : List CrashState). Contains all one.0) (may_leave_running v.state (none_of v.state.stopped running)) one.1), one.2)

      works_stopped : Works v piece (Refused Io) (record v { device = new; state = stopped_state })
      works_stopped = record {
        admitted = may;
        allowed = λ backed. may;
        state = sym (ap (λ (u : Use). (after_work_fault m piece u).state) changes);
        worked = sym (ap (λ (u : Use). (after_work_fault m piece u).work) changes);
        same_cache = refl;
        used = used false step (Refused Io) refl;
        fault = step.written.faults;
        same_size = step.written.same_size;
        same_lasting = step.written.same_lasting;
        crash = inside false step;
        backed = λ backed. record {
          tells = tells_still false step backed;
          crashes = stopped_leaves backed;
          reads = λ runs. absurd (false≢true (sym runs));
          runs = λ runs. absurd (false≢true (sym runs));
        };
      }

  -- ---- by what the slots answer

  pub write_done : (left : ℕ) (js : JobSlots) → JobWritesOn job left v.work.jobs js → IsWriteStep (data_start v) (held m job) true v.device new → Works v piece (Number left) (worked_on v js v.work.area new)
  write_done left js h step =
      let writing = writing_at h.slot.stage h.writing in
      let answers = write_answers m job in
      works_written h.slot h.found writing step left js h.staged (written_outputs_in job left v.work.jobs js h) (answers.after left js h)
      (sym (answers.answer left js h) ∙ sym (ap (work_reply_by m piece) (none h.slot h.found writing)))

  pub write_io : RefusesWrite (held m job) Io → IsWriteStep (data_start v) (held m job) false v.device new → Works v piece (Refused Io) (record v { device = new; state = record v.state { stopped = Some [] } })
  write_io some step = by (held m job) refl
    where
      by : (o : Option Slot) → held m job ≡ o → Works v piece (Refused Io) (record v { device = new; state = record v.state { stopped = Some [] } })
      by None is = absurd (omega (arith, some, ap to_write is))
      by (Some slot) is = works_stopped slot is (some_writing slot.stage (omega (arith, some, ap to_write is))) step some

  pub write_refused : (e : Refusal) → e ≢ Io → RefusesWrite (held m job) e → (to_write (held m job) ≡ 0 → new ≡ v.device) → Works v piece (Refused e) (record v { device = new })
  write_refused e other h untouched =
      subst (λ (d : Medium). Works v piece (Refused e) (record v { device = d })) (sym (untouched (none_to_write (held m job) e other h)))
      (⊎_elim (λ is. works_refused v piece e (running_refuses m piece running ∙ is)) (λ io. absurd (other io.0)) ((write_answers m job).refused e h))
