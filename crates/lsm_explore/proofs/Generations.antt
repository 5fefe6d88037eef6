-- By how many generations a life goes on.
use Rattle.std.proofs.Common.{◌≡◌, ◌≤◌, ◌⊎◌, inl, inr, ℕ, ◌+◌, ◌==◌, Bool, true, false, cond, List, [], ◌∷◌, length, map, Option, None, Some, ap, sym, subst, arith}
use Rattle.std.specs.Prelude.{nat_le, Contains}
use Rattle.std.specs.List.{AllByRecursion}
use Rattle.std.proofs.lemmas.List.Elements.{Contains-append_cases}
use Rattle.lsm_device.specs.declared.refusal.Refusal.TheVariants.{Io}
use Rattle.lsm_jobs.specs.Slots.{Slot}
use Rattle.lsm_levels.specs.Pick.{is_flush}
use Rattle.lsm_root.specs.CrashState.{CrashState, in_next_generation, last_number}
use Rattle.lsm_machine.specs.Calls.{Call, Reply}
use Rattle.lsm_machine.specs.Calls.{Commit, CommitIf, Sync, SyncTo, Get, Scan, Snapshot, Release, Rotate, LogRoom, Number, Done, Value, Rows, Given, Handed, Refused, Unread}
use Rattle.lsm_machine.specs.Crash.{crash_state_at, left_besides, left_with}
use Rattle.lsm_machine.specs.Effects.{Use, Untouched, Reads, Changes, after, use_of, installed}
use Rattle.lsm_machine.specs.Lives.{IsAnswered, Life, left_by_life}
use Rattle.lsm_machine.specs.Machine.{Machine, Step, Called, Worked}
use Rattle.lsm_machine.specs.RecoveryPoints.{RecoveryPoint, all_synced, recovery_points}
use Rattle.lsm_machine.specs.Run.{Run, after_fault, last_machine, next, next_machine}
use Rattle.lsm_machine.specs.State.{State}
use Rattle.lsm_machine.specs.Work.{Work, Take, Read, Ask, Accept, Write, Install, Drop}
use Rattle.lsm_machine.specs.WorkEffects.{state_after, work_use}
use Rattle.lsm_machine.specs.WorkRefusals.{held, of_slot}
use Rattle.lsm_machine.specs.WorkReplies.{after_work_fault, next_worked, work_left_besides}
use Rattle.lsm_machine.proofs.CrashStates.{stays_stopped}
use Rattle.lsm_machine.proofs.Membership.{in_cases, map_cases, none_in, one_in}

-- ---- states

-- each is of this generation or an earlier one
abbrev AreWithin : ℕ → List CrashState → Type 0
AreWithin b lefts = AllByRecursion (λ left. left.generation ≤ b) lefts

abbrev BesidesWithin : ℕ → Option (List CrashState) → Type 0
BesidesWithin b None = Unit {0}
BesidesWithin b (Some others) = AreWithin b others

-- So is the state, and all that a crash may leave of it.
record IsWithin (b : ℕ) (s : State) : Type 0 where
  generation : s.generation ≤ b
  besides : BesidesWithin b s.stopped

more_within : (b : ℕ) (others : List CrashState) → AreWithin b others → AreWithin (b + 1) others
more_within b [] all = tt
more_within b (left ∷ others) all = (omega (arith, all.0), more_within b others all.1)

besides_more : (b : ℕ) (o : Option (List CrashState)) → BesidesWithin b o → BesidesWithin (b + 1) o
besides_more b None all = tt
besides_more b (Some others) all = more_within b others all

within_more : (b : ℕ) (s : State) → IsWithin b s → IsWithin (b + 1) s
within_more b s is = record { generation = omega (arith, is.generation); besides = besides_more b s.stopped is.besides }

one_of : (b : ℕ) (others : List CrashState) → AreWithin b others → (left : CrashState) → Contains others left → left.generation ≤ b
one_of b [] all left found = absurd (none_in left found)
one_of b (other ∷ others) all left found = by (one_of b others all.1 left) (in_cases other left others found)
  where
    by : (Contains others left → left.generation ≤ b) → (left ≡ other) ⊎ Contains others left → left.generation ≤ b
    by rest (inl is) = subst (λ (l : CrashState). l.generation ≤ b) (sym is) all.0
    by rest (inr more) = rest more

between : (s : State) (points : List RecoveryPoint) (left : CrashState) → Contains (map (crash_state_at s) points) left → left.generation ≡ s.generation
between s points left found = let which = map_cases (crash_state_at s) points left found in ap (λ (l : CrashState). l.generation) which.2

left_within : (b : ℕ) (s : State) → s.generation ≤ b → (o : Option (List CrashState)) → BesidesWithin b o → (left : CrashState) → Contains (left_with s o) left → left.generation ≤ b
left_within b s is None besides left found = omega (arith, is, between s (recovery_points s.points) left found)
left_within b s is (Some others) besides left found = by (Contains-append_cases (map (crash_state_at s) (recovery_points s.points)) others left found)
  where
    by : Contains (map (crash_state_at s) (recovery_points s.points)) left ⊎ Contains others left → left.generation ≤ b
    by (inl here) = omega (arith, is, between s (recovery_points s.points) left here)
    by (inr there) = one_of b others besides left there

-- ---- calls

after_within : (s : State) (call : Call) → (after s call).generation ≤ s.generation + 1
after_within s (Commit batch) = omega arith
after_within s (CommitIf guards batch) = omega arith
after_within s Sync = omega arith
after_within s (SyncTo number) = elim (nat_le number s.points.synced) as (λ b. (cond b s (record s { points = all_synced s.points })).generation ≤ s.generation + 1) [ true ↦ omega arith | false ↦ omega arith ]
after_within s (Get at key) = omega arith
after_within s (Scan at from to limit) = omega arith
after_within s Snapshot = omega arith
after_within s (Release number) = omega arith
after_within s Rotate = omega arith
after_within s LogRoom = omega arith

besides_within : (b : ℕ) (s : State) (call : Call) → s.generation ≤ b → AreWithin (b + 1) (left_besides s call)
besides_within b s call is = (omega (arith, after_within s call, is), tt)

answered : (b : ℕ) (s : State) (call : Call) → IsWithin b s → IsWithin (b + 1) (after s call)
answered b s call is = record {
  generation = omega (arith, after_within s call, is.generation);
  besides = subst (BesidesWithin (b + 1)) (sym (stays_stopped s call)) (besides_more b s.stopped is.besides);
}

faulted : (b : ℕ) (s : State) (call : Call) (most : Use) → IsWithin b s → IsWithin (b + 1) (after_fault s call most)
faulted b s call Untouched is = within_more b s is
faulted b s call Reads is = within_more b s is
faulted b s call Changes is = record { generation = omega (arith, is.generation); besides = besides_within b s call is.generation }

called_within : (b : ℕ) (s : State) (call : Call) (reply : Reply) → IsWithin b s → IsWithin (b + 1) (next s call reply)
called_within b s call (Refused Io) is = faulted b s call (use_of s call) is
called_within b s call (Refused e) is = within_more b s is
called_within b s call Unread is = within_more b s is
called_within b s call reply is = answered b s call is

-- ---- pieces of work

install_within : (b : ℕ) (s : State) (slot : Option Slot) → IsWithin b s → IsWithin (b + 1) (of_slot s (λ slot. installed (is_flush slot.job) s) slot)
install_within b s None is = within_more b s is
install_within b s (Some slot) is = record { generation = omega (arith, is.generation); besides = besides_more b s.stopped is.besides }

done_within : (b : ℕ) (m : Machine) (piece : Work) → IsWithin b m.state → IsWithin (b + 1) (state_after m piece)
done_within b m (Take asked) is = within_more b m.state is
done_within b m (Read job) is = within_more b m.state is
done_within b m (Ask job) is = within_more b m.state is
done_within b m (Accept job result) is = within_more b m.state is
done_within b m (Write job) is = within_more b m.state is
done_within b m (Install job) is = install_within b m.state (held m job) is
done_within b m (Drop job) is = within_more b m.state is

work_besides : (b : ℕ) (m : Machine) (piece : Work) → IsWithin b m.state → AreWithin (b + 1) (work_left_besides m piece)
work_besides b m (Take asked) is = tt
work_besides b m (Read job) is = tt
work_besides b m (Ask job) is = tt
work_besides b m (Accept job result) is = tt
work_besides b m (Write job) is = tt
work_besides b m (Install job) is = ((done_within b m (Install job) is).generation, tt)
work_besides b m (Drop job) is = tt

work_faulted : (b : ℕ) (m : Machine) (piece : Work) (most : Use) → IsWithin b m.state → IsWithin (b + 1) (after_work_fault m piece most).state
work_faulted b m piece Untouched is = within_more b m.state is
work_faulted b m piece Reads is = within_more b m.state is
work_faulted b m piece Changes is = record { generation = omega (arith, is.generation); besides = work_besides b m piece is }

worked_within : (b : ℕ) (m : Machine) (piece : Work) (reply : Reply) → IsWithin b m.state → IsWithin (b + 1) (next_worked m piece reply).state
worked_within b m piece (Refused Io) is = work_faulted b m piece (work_use m piece) is
worked_within b m piece (Refused e) is = within_more b m.state is
worked_within b m piece reply is = done_within b m piece is

-- ---- steps one after another

step_within : (b : ℕ) (m : Machine) (step : Step) (reply : Reply) → IsWithin b m.state → IsWithin (b + 1) (next_machine m step reply).state
step_within b m (Called call) reply is = called_within b m.state call reply is
step_within b m (Worked piece) reply is = worked_within b m piece reply is

run_within : (b : ℕ) (m : Machine) (steps : List Step) (replies : List Reply) → Run m steps replies → IsWithin b m.state → IsWithin (b + length steps) (last_machine m steps replies).state
run_within b m [] [] run is = subst (λ (n : ℕ). IsWithin n m.state) (omega arith) is
run_within b m (step ∷ steps) (reply ∷ replies) run is =
    let n = next_machine m step reply in
    subst (λ (k : ℕ). IsWithin k (last_machine n steps replies).state) (omega arith) (run_within (b + 1) n steps replies run.1 (step_within b m step reply is))
run_within b m [] (reply ∷ replies) run is = absurd run
run_within b m (step ∷ steps) [] run is = absurd run

-- what an opening leaves that was refused
by_opening : (opened left : CrashState) (b : Bool) → Contains (cond b (opened ∷ []) (opened ∷ in_next_generation opened ∷ [])) left → left.generation ≤ opened.generation + 1
by_opening opened left true found = omega (arith, ap (λ (l : CrashState). l.generation) (one_in opened left found))
by_opening opened left false found = by (in_cases opened left (in_next_generation opened ∷ []) found)
  where
    by : (left ≡ opened) ⊎ Contains (in_next_generation opened ∷ []) left → left.generation ≤ opened.generation + 1
    by (inl is) = omega (arith, ap (λ (l : CrashState). l.generation) is)
    by (inr more) = omega (arith, ap (λ (l : CrashState). l.generation) (one_in (in_next_generation opened) left more))

-- A life goes on by one generation as it is opened, and by one at most in each step.
answered_within : (log_sectors : ℕ) (opened : CrashState) (m : Machine) (steps : List Step) (replies : List Reply) (left : CrashState) → IsAnswered log_sectors opened m steps replies
    → Contains (left_by_life opened [] m steps replies) left → left.generation ≤ opened.generation + 1 + length steps
answered_within log_sectors opened m steps (Number n ∷ replies) left is found =
    let start : IsWithin (opened.generation + 1) m.state = subst (IsWithin (opened.generation + 1)) (sym is.2.state) (record { generation = omega arith; besides = tt }) in
    let last = run_within (opened.generation + 1) m steps replies is.3 start in
    left_within (opened.generation + 1 + length steps) (last_machine m steps replies).state last.generation (last_machine m steps replies).state.stopped last.besides left found
answered_within log_sectors opened m steps (Refused e ∷ replies) left is found = omega (arith, by_opening opened left (opened.generation == last_number) found)
answered_within log_sectors opened m steps [] left is found = absurd is
answered_within log_sectors opened m steps (Done ∷ replies) left is found = absurd is
answered_within log_sectors opened m steps (Value v ∷ replies) left is found = absurd is
answered_within log_sectors opened m steps (Rows page ∷ replies) left is found = absurd is
answered_within log_sectors opened m steps (Given job ∷ replies) left is found = absurd is
answered_within log_sectors opened m steps (Handed input ∷ replies) left is found = absurd is
answered_within log_sectors opened m steps (Unread ∷ replies) left is found = absurd is

pub life_within : (log_sectors : ℕ) (opened : CrashState) (steps : List Step) (replies : List Reply) (left : CrashState) → Life log_sectors opened [] steps replies left → left.generation ≤ opened.generation + 1 + length steps
life_within log_sectors opened steps replies left life = answered_within log_sectors opened life.machine steps replies left life.answered life.crash
