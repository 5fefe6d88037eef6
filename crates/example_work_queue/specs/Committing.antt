-- What a call of a queue does to its store.
use Rattle.std.specs.Prelude.{◌≡◌, ◌⊎◌, ◌+◌, ◌≤◌, ◌≢◌, ℕ, Bool, true, false, IsTrue, [], ◌∷◌, Option, Some, None}
use Rattle.lsm_codec.specs.Guards.{Condition, is_met}
use Rattle.lsm_codec.specs.Keys.{Bytes}
use Rattle.lsm_codec.specs.Map.{Map}
use Rattle.lsm_device.specs.declared.refusal.Refusal.{Refusal}
use Rattle.lsm_store.specs.Backing.{StoreView, IsBacked}
use Rattle.lsm_machine.specs.Calls.{Call, Reply, Get, Scan, Number, Refused}
use Rattle.lsm_machine.specs.RecoveryPoints.{present_map}
use Rattle.lsm_store.specs.Serving.{Serves}
use Rattle.lsm_machine.specs.declared.asked.At.TheVariants.{Now}
use Rattle.lsm_upkeep.specs.Writing.{Writes}
use Rattle.example_work_queue.specs.Tasks.{Waiting, Claimed, IsQueue, last_given, status}
use Rattle.example_work_queue.specs.Deeds.{Deed, Adds, Claims, Finishes, Does, MayBeDone, batch_of}

-- the present map of a store: that after all its batches
abbrev pub map_in : StoreView → Map
map_in s = present_map s.state.points

-- The device backs the state of a store, and its map is a queue.
pub record HoldsQueue (s : StoreView) : Type 0 where
  pub backed : IsBacked s
  pub queue : IsQueue (map_in s)

-- a call that asks what the map has now
abbrev pub IsQuestion : Call → Type 0
IsQuestion (Get Now key) = Unit {0}
IsQuestion (Scan Now from to limit) = Unit {0}
IsQuestion other = ⊥

-- The store was asked, which changes no state.
pub record Asks (old new : StoreView) : Type 0 where
  pub question : Call
  pub is_question : IsQuestion question
  pub answer : Reply
  pub serves : Serves old question answer new

-- The batch of a deed was committed under a guard, and this was told. In each queue that meets the guard the deed may be done.
pub record CommitsUnder (deed : Deed) (old : StoreView) (told : Reply) (new : StoreView) : Type 0 where
  pub guard : Condition
  pub may : (m : Map) → IsQueue m → IsTrue (is_met m guard) → MayBeDone m deed
  pub writes : Writes (Some (guard ∷ [])) (batch_of deed) old told new

-- The store was asked, and then such a batch was committed.
pub record Commits (deed : Deed) (old : StoreView) (told : Reply) (new : StoreView) : Type 0 where
  pub asked : StoreView
  pub asks : Asks old asked
  pub commits : CommitsUnder deed asked told new

-- So it was, and this is the batch's sequence number.
abbrev pub HasCommitted : Deed → StoreView → StoreView → Type 0
HasCommitted deed old new = (batch : ℕ) × Commits deed old (Number batch) new

-- a task was finished, or the store was asked alone
abbrev pub HasFinished : Bool → ℕ → StoreView → StoreView → Type 0
HasFinished true number old new = HasCommitted (Finishes number) old new
HasFinished false number old new = Asks old new

-- A call was refused: the commit of such a deed was, or it came to none.
abbrev pub IsRefused : (Deed → Type 0) → Refusal → StoreView → StoreView → Type 0
IsRefused Meant refusal old new = Asks old new ⊎ ((deed : Deed) × Meant deed × Commits deed old (Refused refusal) new)

-- And so it is after the question.
abbrev pub HasCommittedUnder : Deed → StoreView → StoreView → Type 0
HasCommittedUnder deed old new = (batch : ℕ) × CommitsUnder deed old (Number batch) new

abbrev pub IsRefusedUnder : (Deed → Type 0) → Refusal → StoreView → StoreView → Type 0
IsRefusedUnder Meant refusal old new = (new ≡ old) ⊎ ((deed : Deed) × Meant deed × CommitsUnder deed old (Refused refusal) new)

-- the deeds that a call can mean
abbrev pub AddsTask : Bytes → Deed → Type 0
AddsTask task deed = (number : ℕ) × (deed ≡ Adds number task)

abbrev pub ClaimsOne : Deed → Type 0
ClaimsOne deed = (number : ℕ) × (task : Bytes) × (deed ≡ Claims number task)

-- ---- what it makes of the tasks

-- The task was added under the next number.
pub record IsAddedNext (number : ℕ) (task : Bytes) (old new : Map) : Type 0 where
  pub next : number ≡ last_given old + 1
  pub does : Does (Adds number task) old new

-- The task was claimed that had waited longest.
pub record IsFirstClaimed (number : ℕ) (task : Bytes) (old new : Map) : Type 0 where
  pub first : (other : ℕ) (its_task : Bytes) → status old other ≡ Waiting its_task → number ≤ other
  pub does : Does (Claims number task) old new

-- no task waits
abbrev pub NoneWaits : Map → Type 0
NoneWaits m = (number : ℕ) (task : Bytes) → status m number ≢ Waiting task

-- no task waits, or this is the one that has waited longest
abbrev pub IsFirstOf : Map → Option (ℕ × Bytes) → Type 0
IsFirstOf m None = NoneWaits m
IsFirstOf m (Some found) = (other : ℕ) (task : Bytes) → status m other ≡ Waiting task → found.0 ≤ other

-- the task was claimed and is finished now, or it was not claimed, and nothing has changed
abbrev pub IsFinishedNow : Bool → ℕ → Map → Map → Type 0
IsFinishedNow true number old new = Does (Finishes number) old new
IsFinishedNow false number old new = ((task : Bytes) → status old number ≢ Claimed task) × (new ≡ old)
