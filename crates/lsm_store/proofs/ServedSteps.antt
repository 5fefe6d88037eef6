-- The machine that a store is goes on by the steps that it serves.
use Rattle.std.proofs.Common.{◌≡◌, ℕ, ◌-◌, Some, ap, sym, ◌∙◌}
use Rattle.std.specs.Prelude.{IsNone}
use Rattle.lsm_jobs.specs.Reading.{stage_with, input_with}
use Rattle.lsm_levels.specs.Pick.{inputs}
use Rattle.lsm_jobs.specs.Slots.{Slot, JobSlots, Stage, left_at, with_held}
use Rattle.lsm_store.specs.Backing.{StoreView, IsBacked, machine_of}
use Rattle.lsm_machine.specs.Calls.{Call, Reply}
use Rattle.lsm_machine.specs.Calls.{Number, Done, Value, Rows, Given, Handed, Refused, Unread}
use Rattle.lsm_machine.specs.Machine.{Step, Called, Worked}
use Rattle.lsm_machine.specs.Run.{next_machine, HasReadOn, WorkGoesTo, GoesTo}
use Rattle.lsm_machine.specs.Work.{WorkView, Work, Take, Read, Ask, Accept, Write, Install, Drop}
use Rattle.lsm_store.specs.Working.{ReadsTo, WorksTo, ServesStep}

module _ (old : StoreView) (w : WorkView) where
  read_on : (job left : ℕ) → ReadsTo old job left w → HasReadOn (machine_of old) job w
  read_on job left h =
      let on = h.reads.reads in
      let slot = h.reads.slot in
      let less : left ≡ left_at slot.stage - 8 = on.eight_less ∙ ap (λ (stage : Stage). left_at stage - 8) (sym on.shows.stage) in
      let input = input_with left (inputs slot.job) on.after in
      let now : h.reads.now ≡ record slot { input = input; stage = stage_with (left_at slot.stage - 8) } = on.becomes ∙ ap (λ (n : ℕ). record slot { input = input; stage = stage_with n }) less in
      record {
        slot = slot;
        is = h.reads.is;
        input = input;
        becomes = h.others ∙ ap (λ (jobs : JobSlots). record old.work { jobs = jobs }) (h.reads.becomes ∙ ap (λ (s : Slot). record { next = old.work.jobs.next; slots = with_held job (Some s) old.work.jobs.slots }) now);
      }

  work_goes_to : (reply : Reply) (piece : Work) → WorksTo reply old piece w → WorkGoesTo reply (machine_of old) (Worked piece) w
  work_goes_to (Number n) (Read job) h = read_on job n h
  work_goes_to (Number n) (Take asked) h = h
  work_goes_to (Number n) (Ask job) h = h
  work_goes_to (Number n) (Accept job result) h = h
  work_goes_to (Number n) (Write job) h = h
  work_goes_to (Number n) (Install job) h = h
  work_goes_to (Number n) (Drop job) h = h
  work_goes_to Done piece h = h
  work_goes_to (Value v) piece h = h
  work_goes_to (Rows page) piece h = h
  work_goes_to (Given taken) piece h = h
  work_goes_to (Handed input) piece h = h
  work_goes_to (Refused e) piece h = h
  work_goes_to Unread piece h = h

  -- what a device gives that backs the state is what the job was taken with
  work_is : IsBacked old → (reply : Reply) (piece : Work) → WorksTo reply old piece w → w ≡ (next_machine (machine_of old) (Worked piece) reply).work
  work_is backed (Number n) (Read job) h = h.kept backed
  work_is backed (Number n) (Take asked) h = h
  work_is backed (Number n) (Ask job) h = h
  work_is backed (Number n) (Accept job result) h = h
  work_is backed (Number n) (Write job) h = h
  work_is backed (Number n) (Install job) h = h
  work_is backed (Number n) (Drop job) h = h
  work_is backed Done piece h = h
  work_is backed (Value v) piece h = h
  work_is backed (Rows page) piece h = h
  work_is backed (Given taken) piece h = h
  work_is backed (Handed input) piece h = h
  work_is backed (Refused e) piece h = h
  work_is backed Unread piece h = h

-- the work of a store after what it replied
call_goes_to : (old : StoreView) (call : Call) (reply : Reply) (w : WorkView) → w ≡ (next_machine (machine_of old) (Called call) reply).work → WorkGoesTo reply (machine_of old) (Called call) w
call_goes_to old call (Number n) w h = h
call_goes_to old call Done w h = h
call_goes_to old call (Value v) w h = h
call_goes_to old call (Rows page) w h = h
call_goes_to old call (Given taken) w h = h
call_goes_to old call (Handed input) w h = h
call_goes_to old call (Refused e) w h = h
call_goes_to old call Unread w h = h

-- whatever its device holds, the machine goes on as memory says
pub served_goes : (old : StoreView) (step : Step) (reply : Reply) (new : StoreView) → ServesStep old step reply new → GoesTo (machine_of old) step reply (machine_of new)
served_goes old (Called call) reply new serves = record { state = serves.state; work = λ running. call_goes_to old call reply new.work (serves.worked running) }
served_goes old (Worked piece) reply new works = record { state = works.state; work = λ running. work_goes_to old new.work reply piece works.worked }

-- where the device backs its state, it goes on by the reply
pub served_work : (old : StoreView) (step : Step) (reply : Reply) (new : StoreView) → ServesStep old step reply new → IsBacked old → IsNone new.state.stopped → new.work ≡ (next_machine (machine_of old) step reply).work
served_work old (Called call) reply new serves backed running = serves.worked running
served_work old (Worked piece) reply new works backed running = work_is old new.work backed reply piece works.worked
