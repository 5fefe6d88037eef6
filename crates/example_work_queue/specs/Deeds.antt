-- What is done to a queue, batch by batch.
use Rattle.std.specs.Prelude.{◌≡◌, ◌≢◌, ◌⊎◌, ◌<◌, ◌≤◌, ◌+◌, ◌^◌, ℕ, List, [], ◌∷◌, map, length, take, Contains, Some, None}
use Rattle.std.specs.FinMap as finite
use Rattle.lsm_codec.specs.Keys.{Bytes}
use Rattle.lsm_codec.specs.Map.{Map, Operation, apply, apply_all}
use Rattle.example_work_queue.specs.Tasks.{Status, NotGiven, Waiting, Claimed, Finished, IsQueue, status, last_given, last_key, waiting_key, claimed_key, number_bytes}

-- ---- one deed

pub data Deed : Type 0 where
  -- a task is added under a number
  Adds : ℕ → Bytes → Deed
  -- the task of a number is claimed
  Claims : ℕ → Bytes → Deed
  -- and finished
  Finishes : ℕ → Deed

-- the number of its task
abbrev pub task_of : Deed → ℕ
task_of (Adds number task) = number
task_of (Claims number task) = number
task_of (Finishes number) = number

-- the batch that does it
abbrev pub batch_of : Deed → List Operation
batch_of (Adds number task) = record { key = last_key; value = Some (number_bytes number) } ∷ record { key = waiting_key number; value = Some task } ∷ []
batch_of (Claims number task) = record { key = waiting_key number; value = None } ∷ record { key = claimed_key number; value = Some task } ∷ []
batch_of (Finishes number) = record { key = claimed_key number; value = None } ∷ []

-- It may be done here: the next number is given, a task that waits is claimed, one that is claimed is finished.
abbrev pub MayBeDone : Map → Deed → Type 0
MayBeDone m (Adds number task) = (number ≡ last_given m + 1) × (number < 2 ^ 64)
MayBeDone m (Claims number task) = status m number ≡ Waiting task
MayBeDone m (Finishes number) = (task : Bytes) × (status m number ≡ Claimed task)

-- its task goes from one status to the next
abbrev pub Moves : Deed → Status → Status → Type 0
Moves (Adds number task) old new = (old ≡ NotGiven) × (new ≡ Waiting task)
Moves (Claims number task) old new = (old ≡ Waiting task) × (new ≡ Claimed task)
Moves (Finishes number) old new = ((task : Bytes) × (old ≡ Claimed task)) × (new ≡ Finished)

-- It was done: of one task the status has changed, all others have theirs, and there is a queue again.
pub record Does (deed : Deed) (old new : Map) : Type 0 where
  pub moves : Moves deed (status old (task_of deed)) (status new (task_of deed))
  pub others : (number : ℕ) → number ≢ task_of deed → status new number ≡ status old number
  pub queue : IsQueue new

-- ---- deeds one after another

-- the map after them
abbrev pub map_after : Map → List Deed → Map
map_after m deeds = apply_all m (map batch_of deeds)

-- each may be done where those before it were
abbrev pub AreDone : Map → List Deed → Type 0
AreDone m [] = Unit {0}
AreDone m (deed ∷ deeds) = MayBeDone m deed × AreDone (apply m (batch_of deed)) deeds

-- What may become of a task: it is given, claimed and finished, in this order, and keeps its bytes until it is finished.
abbrev pub GoesOn : Status → Status → Type 0
GoesOn NotGiven later = Unit {0}
GoesOn (Waiting task) later = (later ≡ Waiting task) ⊎ ((later ≡ Claimed task) ⊎ (later ≡ Finished))
GoesOn (Claimed task) later = (later ≡ Claimed task) ⊎ (later ≡ Finished)
GoesOn Finished later = later ≡ Finished

-- ---- what a map tells of the deeds that led to it

abbrev pub IsAdded : List Deed → ℕ → Bytes → Type 0
IsAdded deeds number task = Contains deeds (Adds number task)

abbrev pub IsClaimed : List Deed → ℕ → Type 0
IsClaimed deeds number = (task : Bytes) × Contains deeds (Claims number task)

abbrev pub IsFinished : List Deed → ℕ → Type 0
IsFinished deeds number = Contains deeds (Finishes number)

-- The status of a task is just what was done to it.
abbrev pub IsStatusBy : List Deed → ℕ → Status → Type 0
IsStatusBy deeds number NotGiven = (deed : Deed) → Contains deeds deed → task_of deed ≢ number
IsStatusBy deeds number (Waiting task) = IsAdded deeds number task × ¬ (IsClaimed deeds number) × ¬ (IsFinished deeds number)
IsStatusBy deeds number (Claimed task) = IsAdded deeds number task × Contains deeds (Claims number task) × ¬ (IsFinished deeds number)
IsStatusBy deeds number Finished = (task : Bytes) × IsAdded deeds number task × Contains deeds (Claims number task) × IsFinished deeds number

-- A map is a queue, and tells of each task what these deeds have done to it.
pub record Tells (deeds : List Deed) (m : Map) : Type 0 where
  pub queue : IsQueue m
  pub tasks : (number : ℕ) → IsStatusBy deeds number (status m number)
  -- a task that was added is there, with its bytes
  pub added : (number : ℕ) (task : Bytes) → IsAdded deeds number task → GoesOn (Waiting task) (status m number)

-- A map tells of a beginning of these deeds that has at least `least`.
pub record TellsBeginning (least : ℕ) (deeds : List Deed) (m : Map) : Type 0 where
  pub holds : ℕ
  pub at_least : least ≤ holds
  pub among : holds ≤ length deeds
  pub is : m ≡ map_after finite.empty (take holds deeds)
  pub tells : Tells (take holds deeds) m
  -- from there on the others may be done, and others in their place
  pub done : AreDone finite.empty (take holds deeds)
