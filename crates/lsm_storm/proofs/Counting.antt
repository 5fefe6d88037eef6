-- As many commits are answered with a number as there are batches more.
use Rattle.std.proofs.Common.{◌≡◌, ℕ, ◌+◌, Bool, true, false, ◌&&◌, List, [], ◌∷◌, Option, Some, None, refl, ap, subst, ◌∙◌, arith}
use Rattle.std.specs.Prelude.{IsTrue, is_some, nat_le, if◌then◌else◌}
use Rattle.std.proofs.lemmas.List.{length-append}
use Rattle.lsm_codec.specs.Guards.{Condition}
use Rattle.lsm_codec.specs.Map.{Operation, apply}
use Rattle.lsm_device.specs.declared.refusal.Refusal.{Refusal}
use Rattle.lsm_device.specs.declared.refusal.Refusal.TheVariants.{Io}
use Rattle.lsm_jobs.specs.Slots.{Slot}
use Rattle.lsm_levels.specs.Pick.{is_flush}
use Rattle.lsm_store.specs.Backing.{StoreView}
use Rattle.lsm_machine.specs.Calls.{Call, Reply}
use Rattle.lsm_machine.specs.Calls.{Commit, CommitIf, Sync, SyncTo, Get, Scan, Snapshot, Release, Rotate, LogRoom, Number, Done, Value, Rows, Given, Handed, Refused, Unread}
use Rattle.lsm_machine.specs.Effects.{Use, use_of, after, answer, reply_by, installed}
use Rattle.lsm_machine.specs.Effects.{Untouched, Reads, Changes}
use Rattle.lsm_machine.specs.Machine.{Machine, Step, Called, Worked}
use Rattle.lsm_machine.specs.RecoveryPoints.{RecoveryPoints, batch_count, present_map, all_synced}
use Rattle.lsm_machine.specs.Refusals.{refusal}
use Rattle.lsm_machine.specs.Run.{Admits, AdmitsStep, asks_page, asks_value, after_fault, next, next_machine}
use Rattle.lsm_machine.specs.State.{State}
use Rattle.lsm_machine.specs.Work.{Work, Take, Read, Ask, Accept, Write, Install, Drop}
use Rattle.lsm_machine.specs.WorkEffects.{work_use, state_after}
use Rattle.lsm_machine.specs.WorkRefusals.{held, of_slot}
use Rattle.lsm_machine.specs.WorkReplies.{after_work_fault, next_worked}
use Rattle.lsm_trail.specs.Begins.{Begin, base_of, first_machine}
use Rattle.lsm_trail.specs.Entries.{is_number, told_in}
use Rattle.lsm_trail.specs.History.{Event, TrailView, AreServed, machine_behind}
use Rattle.lsm_trail.specs.Knowledge.{Known}
use Rattle.lsm_shared.specs.Sessions.{IsEnded, released}
use Rattle.lsm_storm.specs.Storms.{is_commit, accepted_in, IsFresh}

-- how many batches a state has
abbrev count_in : State → ℕ
count_in s = batch_count s.points

none_more : (n : ℕ) → n ≡ 0 + n
none_more n = omega arith

all_stay : (points : RecoveryPoints) → batch_count (all_synced points) ≡ batch_count points
all_stay points = omega arith

-- ---- calls

-- a call that is no commit adds none
after_other : (s : State) (call : Call) → is_commit (Called call) ≡ false → count_in (after s call) ≡ count_in s
after_other s (Commit batch) other = absurd (cc other)
after_other s (CommitIf guards batch) other = absurd (cc other)
after_other s Sync other = all_stay s.points
after_other s (SyncTo number) other = by (nat_le number s.points.synced)
  where
    by : (b : Bool) → count_in (if b then s else record s { points = all_synced s.points }) ≡ count_in s
    by true = refl
    by false = all_stay s.points
after_other s (Get at key) other = refl
after_other s (Scan at from to limit) other = refl
after_other s Snapshot other = refl
after_other s (Release number) other = refl
after_other s Rotate other = all_stay s.points
after_other s LogRoom other = refl

fault_stays : (s : State) (call : Call) (most : Use) → count_in (after_fault s call most) ≡ count_in s
fault_stays s call Untouched = refl
fault_stays s call Reads = refl
fault_stays s call Changes = refl

next_other : (s : State) (call : Call) (reply : Reply) → is_commit (Called call) ≡ false → count_in (next s call reply) ≡ count_in s
next_other s call (Refused Io) other = fault_stays s call (use_of s call)
next_other s call (Refused e) other = refl
next_other s call Unread other = refl
next_other s call reply other = after_other s call other

never : IsTrue false → ⊥
never e = cc

-- a call that adds a batch: it is answered with a number, and with nothing else
record AddsOne (s : State) (call : Call) : Type 0 where
  number : ℕ
  answered : answer s call ≡ Number number
  counted : count_in (after s call) ≡ 1 + count_in s
  no_value : asks_value call ≡ false
  no_page : asks_page call ≡ false

commit_adds : (s : State) (batch : List Operation) → AddsOne s (Commit batch)
commit_adds s batch = record {
  number = batch_count s.points + 1;
  answered = refl;
  counted = omega (arith, length-append s.points.later (apply (present_map s.points) batch ∷ []));
  no_value = refl;
  no_page = refl;
}

commit_if_adds : (s : State) (guards : List Condition) (batch : List Operation) → AddsOne s (CommitIf guards batch)
commit_if_adds s guards batch = record {
  number = batch_count s.points + 1;
  answered = refl;
  counted = omega (arith, length-append s.points.later (apply (present_map s.points) batch ∷ []));
  no_value = refl;
  no_page = refl;
}

-- no such call is replied to so
not_replied : (s : State) (call : Call) (n : ℕ) (reply : Reply) (o : Option Refusal) → answer s call ≡ Number n → ((e : Refusal) → reply ≡ Refused e → ⊥)
    → (reply ≡ Number n → ⊥) → reply ≡ reply_by s call o → ⊥
not_replied s call n reply None is no_refusal no_number e = no_number (e ∙ is)
not_replied s call n reply (Some r) is no_refusal no_number e = no_refusal r e

-- a commit adds one where it is answered with a number
next_commit : (s : State) (call : Call) (reply : Reply) (result : ℕ) → AddsOne s call → Admits s call reply
    → count_in (next s call reply) ≡ (if is_number (told_in reply result) then 1 else 0) + count_in s
next_commit s call (Number n) result adds admits = adds.counted
next_commit s call Done result adds admits = absurd (not_replied s call adds.number Done (refusal s call) adds.answered (λ e x. cc) (λ x. cc) admits)
next_commit s call (Value value) result adds admits = absurd (never (subst IsTrue adds.no_value admits.1))
next_commit s call (Rows page) result adds admits = absurd (never (subst IsTrue adds.no_page admits.1))
next_commit s call (Given job) result adds admits = absurd (not_replied s call adds.number (Given job) (refusal s call) adds.answered (λ e x. cc) (λ x. cc) admits)
next_commit s call (Handed input) result adds admits = absurd (not_replied s call adds.number (Handed input) (refusal s call) adds.answered (λ e x. cc) (λ x. cc) admits)
next_commit s call (Refused Io) result adds admits = fault_stays s call (use_of s call) ∙ none_more (count_in s)
next_commit s call (Refused e) result adds admits = none_more (count_in s)
next_commit s call Unread result adds admits = none_more (count_in s)

-- ---- pieces of work

fault_of_work : (m : Machine) (piece : Work) (most : Use) → count_in (after_work_fault m piece most).state ≡ count_in m.state
fault_of_work m piece Untouched = refl
fault_of_work m piece Reads = refl
fault_of_work m piece Changes = refl

after_work : (m : Machine) (piece : Work) → count_in (state_after m piece) ≡ count_in m.state
after_work m (Take asked) = refl
after_work m (Read job) = refl
after_work m (Ask job) = refl
after_work m (Accept job result) = refl
after_work m (Write job) = refl
after_work m (Install job) = by (held m job)
  where
    by : (slot : Option Slot) → count_in (of_slot m.state (λ one. installed (is_flush one.job) m.state) slot) ≡ count_in m.state
    by None = refl
    by (Some slot) = all_stay m.state.points
after_work m (Drop job) = refl

next_work : (m : Machine) (piece : Work) (reply : Reply) → count_in (next_worked m piece reply).state ≡ count_in m.state
next_work m piece (Refused Io) = fault_of_work m piece (work_use m piece)
next_work m piece (Refused e) = refl
next_work m piece reply = after_work m piece

-- ---- histories

step_adds : (m : Machine) (step : Step) (reply : Reply) (result : ℕ) → AdmitsStep m step reply
    → count_in (next_machine m step reply).state ≡ (if is_commit step && is_number (told_in reply result) then 1 else 0) + count_in m.state
step_adds m (Called (Commit batch)) reply result admits = next_commit m.state (Commit batch) reply result (commit_adds m.state batch) admits
step_adds m (Called (CommitIf guards batch)) reply result admits = next_commit m.state (CommitIf guards batch) reply result (commit_if_adds m.state guards batch) admits
step_adds m (Called call) reply result admits = next_other m.state call reply refl ∙ none_more (count_in m.state)
step_adds m (Worked piece) reply result admits = next_work m piece reply ∙ none_more (count_in m.state)

history_adds : (m : Machine) (log : List Event) → AreServed m log → count_in (machine_behind m log).state ≡ accepted_in log + count_in m.state
history_adds m [] served = none_more (count_in m.state)
history_adds m (e ∷ log) (admits, goes, rest) =
    let here = ap count_in goes.state ∙ step_adds m e.step e.reply e.result admits in
    omega (arith, history_adds e.machine log rest, here)

released_stay : (number : ℕ) (s : State) → count_in (released number s) ≡ count_in s
released_stay number s = by (is_some s.stopped)
  where
    by : (b : Bool) → count_in (if b then s else after s (Release number)) ≡ count_in s
    by true = refl
    by false = refl

-- a store that was fresh when its session began has as many batches as the trail has commits that were answered with a number
pub as_many : (b : Begin) (clients : List Known) (store : StoreView) (trail : TrailView) → IsFresh b.store → IsEnded b clients store trail → accepted_in trail.log ≡ count_in store.state
as_many b clients store trail fresh ended =
    let end = ap count_in ended.state ∙ released_stay (base_of b) (machine_behind (first_machine b) trail.log).state in
    let first : count_in b.store.state ≡ 0 = ap count_in fresh.state in
    omega (arith, end, history_adds (first_machine b) trail.log ended.legal.served, first)
