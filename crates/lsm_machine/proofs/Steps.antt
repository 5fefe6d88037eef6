-- Laws of steps one after another.
use Rattle.std.proofs.Common.{◌≡◌, ◌≢◌, ⊎_elim, ◌-◌, cond, List, [], ◌∷◌, ◌++◌, Option, Some, None, is_some, is_none, false, refl, ap, sym, subst, ◌∙◌}
use Rattle.std.specs.Prelude.{ℕ, Contains, IsSome}
use Rattle.std.proofs.lemmas.Bool.{false≢true}
use Rattle.std.proofs.lemmas.List.{append-nil}
use Rattle.std.proofs.lemmas.List.Elements.{Contains-append_left, Contains-append_right, Contains-append_cases}
use Rattle.lsm_device.specs.declared.refusal.Refusal.{Refusal}
use Rattle.lsm_device.specs.declared.refusal.Refusal.TheVariants.{Io, Stopped, BadTable}
use Rattle.lsm_jobs.specs.Reading.{stage_with}
use Rattle.lsm_jobs.specs.Slots.{Slot, left_at}
use Rattle.lsm_root.specs.CrashState.{CrashState}
use Rattle.lsm_machine.specs.Calls.{Call, Reply}
use Rattle.lsm_machine.specs.Calls.{Commit, CommitIf, Sync, SyncTo, Get, Scan, Snapshot, Release, Rotate, LogRoom, Number, Done, Value, Rows, Given, Handed, Refused, Unread}
use Rattle.lsm_machine.specs.Crash.{may_leave, left_besides}
use Rattle.lsm_machine.specs.Effects.{answer, decided, reply_by}
use Rattle.lsm_machine.specs.Machine.{Machine, Step, Called, Worked}
use Rattle.lsm_machine.specs.Refusals.{later_refusals, full_refusal}
use Rattle.lsm_machine.specs.Run.{AllowsStep, AdmitsStep, asks_guards, next_machine, left_in_step, work_completed, decided_step, completed_step, Run, last_machine, left_in_run, ample_replies, ample_machine, HasReadOn, WorkGoesTo, Course}
use Rattle.lsm_machine.specs.Work.{Take, Read, Ask, Accept, Write, Install, Drop}
use Rattle.lsm_machine.specs.WorkEffects.{staged, work_by}
use Rattle.lsm_machine.specs.WorkRefusals.{held, of_slot, work_refusals, running_refusal}
use Rattle.lsm_machine.specs.WorkReplies.{work_reply_by, work_decided, work_left_besides}
use Rattle.lsm_machine.proofs.Accounts.{first_not}
use Rattle.lsm_machine.proofs.CrashStates.{goes_inside, admitted_inside}
use Rattle.lsm_machine.proofs.Running.{decided_goes, admits, no_bad_table, full_stopped, stopped_admits}
use Rattle.lsm_machine.proofs.Unrefused.{none_taken}
use Rattle.lsm_machine.proofs.WorkReplies.{answered_unrefused, work_goes, no_bad_table_worked, admits_work, refused_work, refuses, stopped_work, work_inside}

-- ---- one step

-- what a crash may leave before a step, it may leave inside it
pub before_step : (left : CrashState) (m : Machine) (step : Step) → Contains (may_leave m.state) left → Contains (left_in_step m step) left
before_step left m (Called call) found = Contains-append_left (may_leave m.state) _ left found
before_step left m (Worked piece) found = Contains-append_left (may_leave m.state) _ left found

-- and what it may leave after its reply
pub goes_in_step : (m : Machine) (step : Step) (reply : Reply) (left : CrashState) → AllowsStep m step reply → Contains (may_leave (next_machine m step reply).state) left → Contains (left_in_step m step) left
goes_in_step m (Called call) reply left may found = goes_inside m.state call reply left may found
goes_in_step m (Worked piece) reply left may found = work_inside m left piece reply (admits_work m piece reply may) found

-- and what it may leave after one that memory admits, unless guards were asked
no_guards : (m : Machine) (call : Call) → asks_guards (Called call) ≡ false → later_refusals m.state call ≡ []
no_guards m (CommitIf [] batch) is = refl
no_guards m (CommitIf (guard ∷ guards) batch) is = absurd (false≢true (sym is))
no_guards m (Commit batch) is = refl
no_guards m Sync is = refl
no_guards m (SyncTo number) is = refl
no_guards m (Get at key) is = refl
no_guards m (Scan at from to limit) is = refl
no_guards m Snapshot is = refl
no_guards m (Release number) is = refl
no_guards m Rotate is = refl
no_guards m LogRoom is = refl

pub admitted_in_step : (m : Machine) (step : Step) (reply : Reply) (left : CrashState) → asks_guards step ≡ false → AdmitsStep m step reply → Contains (may_leave (next_machine m step reply).state) left → Contains (left_in_step m step) left
admitted_in_step m (Called call) reply left none may found = admitted_inside m.state call (no_guards m call none) reply left may found
admitted_in_step m (Worked piece) reply left none may found = work_inside m left piece reply may found

-- the work after what a state decides of a call
work_decides : (m : Machine) (call : Call) → work_by m call (decided m.state call) ≡ work_completed m call (full_refusal m.state call)
work_decides m call = by (full_refusal m.state call)
  where
    at : (c : Call) → work_by m c (answer m.state c) ≡ work_completed m c None
    at (Commit batch) = refl
    at (CommitIf guards batch) = refl
    at Sync = refl
    at (SyncTo number) = refl
    at (Get asked key) = refl
    at (Scan asked from to limit) = refl
    at Snapshot = refl
    at (Release number) = refl
    at Rotate = refl
    at LogRoom = refl

    by : (o : Option Refusal) → work_by m call (reply_by m.state call o) ≡ work_completed m call o
    by (Some e) = refl
    by None = at call

-- what the machine decides it allows, and goes on by it
pub step_goes : (m : Machine) (step : Step) → AllowsStep m step (decided_step m step) × (next_machine m step (decided_step m step) ≡ completed_step m step)
step_goes m (Called call) = let goes = decided_goes m.state call in (goes.0, λ i. record { state = goes.1 i; work = work_decides m call i })
step_goes m (Worked piece) = work_goes m piece

pub no_bad_table_in : (m : Machine) (step : Step) → AllowsStep m step (Refused BadTable) → ⊥
no_bad_table_in m (Called call) allows = no_bad_table m.state call allows
no_bad_table_in m (Worked piece) allows = no_bad_table_worked m piece allows

pub admits_step : (m : Machine) (step : Step) (reply : Reply) → AllowsStep m step reply → AdmitsStep m step reply
admits_step m (Called call) reply allows = admits m.state call reply allows
admits_step m (Worked piece) reply allows = admits_work m piece reply allows

some_of : {X : Type 0} (o : Option X) → IsSome o → (x : X) × (o ≡ Some x)
some_of (Some x) is = (x, refl)
some_of None is = cc

pub step_stopped : (m : Machine) (step : Step) (reply : Reply) → IsSome m.state.stopped → AdmitsStep m step reply → reply ≡ Refused Stopped
step_stopped m (Called call) reply stopped may = let others = some_of m.state.stopped stopped in stopped_admits m.state call reply others.0 others.1 may
step_stopped m (Worked piece) reply stopped may = let others = some_of m.state.stopped stopped in stopped_work m others.0 others.1 piece reply may

-- a refusal that tells of no fault changes nothing
pub step_refused : (m : Machine) (step : Step) (e : Refusal) → e ≢ Io → next_machine m step (Refused e) ≡ m
step_refused m (Called call) Io other = absurd (other refl)
step_refused m (Called call) e other = refl
step_refused m (Worked piece) e other = refused_work m piece e other

pub step_stays : (m : Machine) (step : Step) (reply : Reply) → IsSome m.state.stopped → AdmitsStep m step reply → next_machine m step reply ≡ m
step_stays m step reply stopped may = ap (next_machine m step) (step_stopped m step reply stopped may) ∙ step_refused m step Stopped (λ e. cc)

-- ---- steps of a stopped machine

nothing_more : (left : CrashState) (all : List CrashState) → Contains (all ++ []) left → Contains all left
nothing_more left all found = subst (λ (l : List CrashState). Contains l left) (append-nil all) found

-- it refuses each
stopped_allows : (m : Machine) (step : Step) → IsSome m.state.stopped → AllowsStep m step (Refused Stopped)
stopped_allows m (Called call) stopped = let others = some_of m.state.stopped stopped in sym (ap (reply_by m.state call) (full_stopped m.state call others.0 others.1))
stopped_allows m (Worked piece) stopped = let others = some_of m.state.stopped stopped in sym (ap (work_reply_by m piece) (refuses m others.0 others.1 piece))

-- and what a crash leaves inside it, it leaves before
stopped_in_step : (left : CrashState) (m : Machine) (step : Step) → IsSome m.state.stopped → Contains (left_in_step m step) left → Contains (may_leave m.state) left
stopped_in_step left m (Called call) stopped found =
    let others = some_of m.state.stopped stopped in
    nothing_more left (may_leave m.state) (subst (λ (o : Option Refusal). Contains (may_leave m.state ++ cond (is_some o) [] (left_besides m.state call)) left) (full_stopped m.state call others.0 others.1) found)
stopped_in_step left m (Worked piece) stopped found =
    let others = some_of m.state.stopped stopped in
    nothing_more left (may_leave m.state) (subst (λ (o : Option Refusal). Contains (may_leave m.state ++ cond (is_some o) [] (work_left_besides m piece)) left) (refuses m others.0 others.1 piece) found)

pub stopped_last : (m : Machine) → IsSome m.state.stopped → (steps : List Step) (replies : List Reply) → Run m steps replies → last_machine m steps replies ≡ m
stopped_last m stopped [] [] run = refl
stopped_last m stopped (step ∷ steps) (reply ∷ replies) run =
    let stays = step_stays m step reply stopped (admits_step m step reply run.0) in
    ap (λ (x : Machine). last_machine x steps replies) stays ∙ stopped_last m stopped steps replies (subst (λ (x : Machine). Run x steps replies) stays run.1)
stopped_last m stopped [] (reply ∷ replies) run = absurd run
stopped_last m stopped (step ∷ steps) [] run = absurd run

-- so what one gives, each gives that is stopped
pub stopped_run : (m n : Machine) → IsSome m.state.stopped → IsSome n.state.stopped → (steps : List Step) (replies : List Reply) → Run m steps replies → Run n steps replies
stopped_run m n stopped too [] [] run = tt
stopped_run m n stopped too (step ∷ steps) (reply ∷ replies) run =
    let may = admits_step m step reply run.0 in
    let allows : AllowsStep n step reply = subst (AllowsStep n step) (sym (step_stopped m step reply stopped may)) (stopped_allows n step too) in
    let rest = stopped_run m n stopped too steps replies (subst (λ (x : Machine). Run x steps replies) (step_stays m step reply stopped may) run.1) in
    (allows, subst (λ (x : Machine). Run x steps replies) (sym (step_stays n step reply too (admits_step n step reply allows))) rest)
stopped_run m n stopped too [] (reply ∷ replies) run = absurd run
stopped_run m n stopped too (step ∷ steps) [] run = absurd run

pub stopped_left : (left : CrashState) (m : Machine) → IsSome m.state.stopped → (steps : List Step) (replies : List Reply) → Run m steps replies → Contains (left_in_run m steps replies) left → Contains (may_leave m.state) left
stopped_left left m stopped [] [] run found = found
stopped_left left m stopped (step ∷ steps) (reply ∷ replies) run found =
    let stays = step_stays m step reply stopped (admits_step m step reply run.0) in
    ⊎_elim
    (λ here. stopped_in_step left m step stopped here)
    (λ later. stopped_left left m stopped steps replies (subst (λ (x : Machine). Run x steps replies) stays run.1) (subst (λ (x : Machine). Contains (left_in_run x steps replies) left) stays later))
    (Contains-append_cases (left_in_step m step) (left_in_run (next_machine m step reply) steps replies) left found)
stopped_left left m stopped [] (reply ∷ replies) run found = absurd run
stopped_left left m stopped (step ∷ steps) [] run found = absurd run

-- ---- joining runs

-- there is a reply to each step
abbrev AreAnswered : List Step → List Reply → Type 0
AreAnswered [] [] = Unit {0}
AreAnswered (step ∷ steps) (reply ∷ replies) = AreAnswered steps replies
AreAnswered [] (reply ∷ replies) = ⊥
AreAnswered (step ∷ steps) [] = ⊥

pub course_answered : (m end : Machine) (steps : List Step) (replies : List Reply) → Course m steps replies end → AreAnswered steps replies
course_answered m end [] [] course = tt
course_answered m end (step ∷ steps) (reply ∷ replies) (may, then, goes, rest) = course_answered then end steps replies rest
course_answered m end [] (reply ∷ replies) course = absurd course
course_answered m end (step ∷ steps) [] course = absurd course

module _ (more : List Step) (others : List Reply) where
  pub run_join : (m : Machine) (steps : List Step) (replies : List Reply) → Run m steps replies → Run (last_machine m steps replies) more others → Run m (steps ++ more) (replies ++ others)
  run_join m [] [] run rest = rest
  run_join m (step ∷ steps) (reply ∷ replies) run rest = (run.0, run_join (next_machine m step reply) steps replies run.1 rest)
  run_join m [] (reply ∷ replies) run rest = absurd run
  run_join m (step ∷ steps) [] run rest = absurd run

  pub course_join : (m mid end : Machine) (steps : List Step) (replies : List Reply) → Course m steps replies mid → Course mid more others end → Course m (steps ++ more) (replies ++ others) end
  course_join m mid end [] [] same rest = subst (λ (x : Machine). Course x more others end) same rest
  course_join m mid end (step ∷ steps) (reply ∷ replies) (may, then, goes, course) rest = (may, then, goes, course_join then mid end steps replies course rest)
  course_join m mid end [] (reply ∷ replies) course rest = absurd course
  course_join m mid end (step ∷ steps) [] course rest = absurd course

  pub last_join : (m : Machine) (steps : List Step) (replies : List Reply) → AreAnswered steps replies → last_machine m (steps ++ more) (replies ++ others) ≡ last_machine (last_machine m steps replies) more others
  last_join m [] [] each = refl
  last_join m (step ∷ steps) (reply ∷ replies) each = last_join (next_machine m step reply) steps replies each
  last_join m [] (reply ∷ replies) each = absurd each
  last_join m (step ∷ steps) [] each = absurd each

  pub left_behind : (left : CrashState) (m : Machine) (steps : List Step) (replies : List Reply) → AreAnswered steps replies
      → Contains (left_in_run (last_machine m steps replies) more others) left → Contains (left_in_run m (steps ++ more) (replies ++ others)) left
  left_behind left m [] [] each found = found
  left_behind left m (step ∷ steps) (reply ∷ replies) each found = Contains-append_right (left_in_step m step) _ left (left_behind left (next_machine m step reply) steps replies each found)
  left_behind left m [] (reply ∷ replies) each found = absurd each
  left_behind left m (step ∷ steps) [] each found = absurd each

-- what a state may leave is left in each run from it
pub left_now : (left : CrashState) (m : Machine) (steps : List Step) (replies : List Reply) → Contains (may_leave m.state) left → Contains (left_in_run m steps replies) left
left_now left m [] [] found = found
left_now left m [] (reply ∷ replies) found = found
left_now left m (step ∷ steps) [] found = found
left_now left m (step ∷ steps) (reply ∷ replies) found = Contains-append_left (left_in_step m step) _ left (before_step left m step found)

module _ (more : List Step) (others : List Reply) where
  pub left_before : (left : CrashState) (m : Machine) (steps : List Step) (replies : List Reply) → AreAnswered steps replies
      → Contains (left_in_run m steps replies) left → Contains (left_in_run m (steps ++ more) (replies ++ others)) left
  left_before left m [] [] each found = left_now left m more others found
  left_before left m (step ∷ steps) (reply ∷ replies) each found = ⊎_elim
      (λ here. Contains-append_left (left_in_step m step) _ left here)
      (λ later. Contains-append_right (left_in_step m step) _ left (left_before left (next_machine m step reply) steps replies each later))
      (Contains-append_cases (left_in_step m step) (left_in_run (next_machine m step reply) steps replies) left found)
  left_before left m [] (reply ∷ replies) each found = absurd each
  left_before left m (step ∷ steps) [] each found = absurd each

-- ---- ample memory, and no fault

pub ample_run : (m : Machine) (steps : List Step) → Run m steps (ample_replies m steps)
ample_run m [] = tt
ample_run m (step ∷ steps) =
    let goes = step_goes m step in
    (goes.0, subst (λ (n : Machine). Run n steps (ample_replies (completed_step m step) steps)) (sym goes.1) (ample_run (completed_step m step) steps))

pub ample_last : (m : Machine) (steps : List Step) → last_machine m steps (ample_replies m steps) ≡ ample_machine m steps
ample_last m [] = refl
ample_last m (step ∷ steps) =
    ap (λ (n : Machine). last_machine n steps (ample_replies (completed_step m step) steps)) (step_goes m step).1 ∙ ample_last (completed_step m step) steps

-- ---- what memory admits

-- where a piece of reading is answered, its job has a slot
read_slot : (m : Machine) (job n : ℕ) → Number n ≡ work_decided m (Read job) → (slot : Slot) × (held m job ≡ Some slot)
read_slot m job n is =
    let none = (answered_unrefused m (Read job) (Number n) tt is).0 in
    by (held m job) refl (first_not (work_refusals m (Read job)) (none_taken (is_some m.state.stopped) Stopped (running_refusal m (Read job)) none).1)
  where
    by : (o : Option Slot) → held m job ≡ o → is_none o ≡ false → (slot : Slot) × (held m job ≡ Some slot)
    by None found some = absurd (false≢true (sym some))
    by (Some slot) found some = (slot, found)

read_on : (m : Machine) (job n : ℕ) → Number n ≡ work_decided m (Read job) → HasReadOn m job (next_machine m (Worked (Read job)) (Number n)).work
read_on m job n is =
    let at = read_slot m job n is in
    record {
      slot = at.0;
      is = at.1;
      input = at.0.input;
      becomes = ap (λ (o : Option Slot). of_slot m.work (λ slot. staged m.work job (stage_with (left_at slot.stage - 8)) slot) o) at.1;
    }

-- a step that memory admits goes on as memory says
pub goes_to : (m : Machine) (step : Step) (reply : Reply) → AdmitsStep m step reply → WorkGoesTo reply m step (next_machine m step reply).work
goes_to m (Called call) (Number n) may = refl
goes_to m (Worked (Read job)) (Number n) may = read_on m job n may
goes_to m (Worked (Take asked)) (Number n) may = refl
goes_to m (Worked (Ask job)) (Number n) may = refl
goes_to m (Worked (Accept job result)) (Number n) may = refl
goes_to m (Worked (Write job)) (Number n) may = refl
goes_to m (Worked (Install job)) (Number n) may = refl
goes_to m (Worked (Drop job)) (Number n) may = refl
goes_to m step Done may = refl
goes_to m step (Value v) may = refl
goes_to m step (Rows page) may = refl
goes_to m step (Given taken) may = refl
goes_to m step (Handed input) may = refl
goes_to m step (Refused e) may = refl
goes_to m step Unread may = refl

pub course_of : (m : Machine) (steps : List Step) (replies : List Reply) → Run m steps replies → Course m steps replies (last_machine m steps replies)
course_of m [] [] run = refl
course_of m (step ∷ steps) (reply ∷ replies) run =
    let may = admits_step m step reply run.0 in
    (may, next_machine m step reply, record { state = refl; work = λ _. goes_to m step reply may }, course_of (next_machine m step reply) steps replies run.1)
course_of m [] (reply ∷ replies) run = absurd run
course_of m (step ∷ steps) [] run = absurd run
