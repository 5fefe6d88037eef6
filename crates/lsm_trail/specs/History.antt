-- Histories: the steps of clients in the order in which one store made them, with its replies.
use Rattle.std.specs.Prelude.{◌≡◌, ◌≢◌, ℕ, zero, suc, ◌+◌, ◌==◌, Bool, true, false, List, [], ◌∷◌, ◌++◌, length, map, slice_get, All, Option, Some, None, IsNone, if◌then◌else◌}
use Rattle.lsm_device.specs.declared.refusal.Refusal.TheVariants.{NoMemory}
use Rattle.lsm_merge.specs.Inputs.{MergeInput, kept_of}
use Rattle.lsm_merge.specs.Results.{MergeResult}
use Rattle.lsm_merge.specs.Divisions.{AreTablesAt}
use Rattle.lsm_machine.specs.RecoveryPoints.{batch_count}
use Rattle.lsm_machine.specs.State.{State}
use Rattle.lsm_store.specs.Backing.{IsBacked}
use Rattle.lsm_machine.specs.Calls.{Call, Reply}
use Rattle.lsm_machine.specs.Calls.{Release, Given, Handed, Refused}
use Rattle.lsm_machine.specs.Work.{Work, Ask, Accept}
use Rattle.lsm_machine.specs.Machine.{Machine, Step, Called, Worked}
use Rattle.lsm_machine.specs.Run.{AdmitsStep, GoesTo, Run, last_machine}
use Rattle.lsm_trail.specs.Begins.{Begin, base_of, first_machine, CanPin}
use Rattle.lsm_trail.specs.declared.numbers.Numbers.{Numbers}

-- A step of a client, a call or a piece of work, and its reply.
pub record Event : Type 0 where
  pub client : ℕ
  pub step : Step
  pub reply : Reply
  -- of a build the number that its result will have, of an accept that of the result which it takes, and else 0
  pub result : ℕ
  -- the machine after it
  pub machine : Machine

abbrev pub event : ℕ → Step → Reply → ℕ → Machine → Event
event client step reply result machine = record { client = client; step = step; reply = reply; result = result; machine = machine }

-- a call of a client; a piece of work other than these; a build, to which a job's input was lent; and an accept of a result
abbrev pub called : ℕ → Call → Reply → Machine → Event
called client call reply machine = event client (Called call) reply 0 machine

abbrev pub worked : ℕ → Work → Reply → Machine → Event
worked client piece reply machine = event client (Worked piece) reply 0 machine

abbrev pub lent_to : ℕ → ℕ → MergeInput → ℕ → Machine → Event
lent_to client job input result machine = event client (Worked (Ask job)) (Handed input) result machine

abbrev pub accepted : ℕ → ℕ → ℕ → MergeResult → Reply → Machine → Event
accepted client job result made reply machine = event client (Worked (Accept job (Some made))) reply result machine

abbrev pub steps_of : List Event → List Step
steps_of log = map (λ e. e.step) log

abbrev pub replies_of : List Event → List Reply
replies_of log = map (λ e. e.reply) log

-- ---- a history as a run of one machine

-- the machine after these entries, where it was this before them
abbrev pub machine_behind : Machine → List Event → Machine
machine_behind m [] = m
machine_behind m (e ∷ log) = machine_behind e.machine log

-- Memory admits each reply, whatever the device holds, and the machine goes on by it.
abbrev pub AreServed : Machine → List Event → Type 0
AreServed m [] = Unit {0}
AreServed m (e ∷ log) = AdmitsStep m e.step e.reply × GoesTo m e.step e.reply e.machine × AreServed e.machine log

-- The machine allows the replies, and goes on by them, with its work while it runs.
pub record AreRun (m : Machine) (log : List Event) : Type 0 where
  pub run : Run m (steps_of log) (replies_of log)
  pub state : (machine_behind m log).state ≡ (last_machine m (steps_of log) (replies_of log)).state
  pub work : IsNone (machine_behind m log).state.stopped → (machine_behind m log).work ≡ (last_machine m (steps_of log) (replies_of log)).work

-- ---- results of builds

-- the inputs that were lent to builds, in order
abbrev pub handed : Reply → List MergeInput
handed (Handed input) = input ∷ []
handed other = []

abbrev pub is_lent : Reply → Bool
is_lent (Handed input) = true
is_lent other = false

abbrev pub inputs_of : List Event → List MergeInput
inputs_of [] = []
inputs_of (e ∷ log) = handed e.reply ++ inputs_of log

-- the input of which the result of a number is built: they are numbered from 1 on, in the order of the builds
abbrev pub input_of : ℕ → List MergeInput → Option MergeInput
input_of zero inputs = None
input_of (suc n) inputs = slice_get inputs n

-- the tables that a merge makes of this input, divided at the keys of the result
abbrev pub IsMadeOf : Option MergeInput → Option MergeResult → Type 0
IsMadeOf (Some input) (Some made) = (made.input ≡ input) × AreTablesAt made.divisions (kept_of made.input) made.images
IsMadeOf input made = ⊥

-- a build has the next number
abbrev pub IsNextNumber : List MergeInput → Reply → ℕ → Type 0
IsNextNumber inputs (Handed input) number = number ≡ length inputs + 1
IsNextNumber inputs other number = Unit {0}

-- an accept takes what is built of the input of its number
abbrev pub TakesResult : List MergeInput → Step → ℕ → Type 0
TakesResult inputs (Worked (Accept job made)) number = IsMadeOf (input_of number inputs) made
TakesResult inputs other number = Unit {0}

-- So are the results numbered, where these inputs were lent before.
abbrev pub AreNumbered : List MergeInput → List Event → Type 0
AreNumbered inputs [] = Unit {0}
AreNumbered inputs (e ∷ log) = IsNextNumber inputs e.reply e.result × TakesResult inputs e.step e.result × AreNumbered (inputs ++ handed e.reply) log

-- ---- legal histories

-- A history that is legal where a session begins so: its replies are those of one store in which the base is pinned, results of
-- builds are numbered in their order, none of the replies tells of want of memory or that no job was taken, and no step releases the
-- base.
pub record IsLegal (b : Begin) (log : List Event) : Type 0 where
  pub pinned : CanPin b
  -- memory decides the replies but for what the device holds; these are the machine's too where the device backed it at the
  -- begin
  pub served : AreServed (first_machine b) log
  pub run : IsBacked b.store → AreRun (first_machine b) log
  pub numbered : AreNumbered [] log
  pub made : All (λ e. e.reply ≢ Refused NoMemory) log
  -- a taking that gives no job is no entry
  pub taken : All (λ e. e.reply ≢ Given None) log
  pub keeps_base : All (λ e. e.step ≢ Called (Release (base_of b))) log

-- the machine after a history, and its state
abbrev pub machine_after : Begin → List Event → Machine
machine_after b log = machine_behind (first_machine b) log

abbrev pub state_after : Begin → List Event → State
state_after b log = (machine_after b log).state

-- the entries of one client in it, in order
abbrev pub entries_by : ℕ → List Event → List Event
entries_by client [] = []
entries_by client (e ∷ log) = if e.client == client then e ∷ entries_by client log else entries_by client log

-- how many of its entries are calls
abbrev pub is_call : Step → Bool
is_call (Called call) = true
is_call (Worked piece) = false

abbrev pub calls_in : List Event → ℕ
calls_in [] = 0
calls_in (e ∷ log) = (if is_call e.step then 1 else 0) + calls_in log

abbrev pub numbers_at : ℕ → State → Numbers
numbers_at calls s = record { calls = calls; batches = batch_count s.points; synced = s.points.synced }

-- the numbers of a history: its calls, and the batches after it and how many of these are synced
abbrev pub numbers : Begin → List Event → Numbers
numbers b log = numbers_at (calls_in log) (state_after b log)

-- what contracts see of a trail: the history, and how many entries there may be
pub record TrailView : Type 0 where
  pub log : List Event
  pub limit : ℕ
