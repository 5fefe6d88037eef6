-- What a store does at steps one after another.
use Rattle.std.specs.Prelude.{◌≡◌, ◌⊎◌, ℕ, List, [], ◌∷◌, ◌++◌, Result, Ok, Err, IsNone}
use Rattle.lsm_device.specs.Calls.{faults_after}
use Rattle.lsm_device.specs.History.{EachSince}
use Rattle.lsm_device.specs.Outcomes.{Leaves}
use Rattle.lsm_open.specs.Recovering.{StandForOne}
use Rattle.lsm_store.specs.Backing.{StoreView, IsBacked, machine_of}
use Rattle.lsm_machine.specs.Calls.{Reply}
use Rattle.lsm_machine.specs.Calls.{Handed, Refused}
use Rattle.lsm_machine.specs.Machine.{Step}
use Rattle.lsm_machine.specs.Run.{Run, Course, last_machine, left_in_run}
use Rattle.lsm_store.specs.Serving.{is_faultless}
use Rattle.lsm_machine.specs.Work.{Ask}
use Rattle.lsm_store.specs.Working.{Works, ServesStep}
use Rattle.lsm_device.specs.declared.refusal.Refusal.{Refusal}
use Rattle.lsm_merge.specs.Inputs.{MergeInput, kept_of}
use Rattle.lsm_merge.specs.Results.{MergeResult}
use Rattle.lsm_table.specs.Division.{IsTables}
use Rattle.lsm_lives.specs.Asked.{Asked, Told, step_in, IsParts, HasNoResult, IsTold, AreTold}

-- Steps of a store one after another, each served by the store that the one before it left.
abbrev pub Replays : StoreView → List Step → List Reply → StoreView → Type 0
Replays old [] [] new = new ≡ old
Replays old (step ∷ steps) (reply ∷ replies) new = (mid : StoreView) × ServesStep old step reply mid × Replays mid steps replies new
Replays old [] (reply ∷ replies) new = ⊥
Replays old (step ∷ steps) [] new = ⊥

-- What was asked of a store and told, where these results were built before it and those after it: the store served its step
-- with a reply, and that is what was told.
pub record Makes (results : List MergeResult) (old : StoreView) (asked : Asked) (answer : Told) (after : List MergeResult) (new : StoreView) : Type 0 where
  pub reply : Reply
  pub serves : ServesStep old (step_in results asked) reply new
  pub told : IsTold results asked answer reply after

-- A store lent the input of a job, or refused to; and of an input that was lent a result was built, or none.
abbrev pub IsLent : StoreView → ℕ → ℕ → Result MergeResult Refusal → Type 0
IsLent s job parts (Ok made) = Works s (Ask job) (Handed made.input) s × IsParts parts × IsTables (kept_of made.input) made.images
IsLent s job parts (Err e) = Works s (Ask job) (Refused e) s ⊎ ((input : MergeInput) × Works s (Ask job) (Handed input) s × HasNoResult parts e)

-- So it is with what was asked one after another.
abbrev pub MakesEach : List MergeResult → StoreView → List Asked → List Told → StoreView → Type 0
MakesEach results old [] [] new = new ≡ old
MakesEach results old (asked ∷ more) (told ∷ rest) new = (after : List MergeResult) × (mid : StoreView) × Makes results old asked told after mid × MakesEach after mid more rest new
MakesEach results old [] (told ∷ rest) new = ⊥
MakesEach results old (asked ∷ more) [] new = ⊥

-- After what was told comes more, that of what was asked.
pub record AddsReplies (old : StoreView) (asked : List Asked) (before after : List Told) (new : StoreView) : Type 0 where
  pub more : List Told
  pub added : after ≡ before ++ more
  pub makes : MakesEach [] old asked more new

-- They are steps that the store made, with its replies.
pub record AreReplayed (results : List MergeResult) (old : StoreView) (asked : List Asked) (answers : List Told) (new : StoreView) : Type 0 where
  pub steps : List Step
  pub replies : List Reply
  pub told : AreTold results asked answers steps replies
  pub replays : Replays old steps replies new

-- the faults of a device after these replies, where `faults` were counted before: one more for each reply that tells of one
abbrev pub faults_told : List Reply → ℕ → ℕ
faults_told [] faults = faults
faults_told (reply ∷ replies) faults = faults_told replies (faults_after (is_faultless reply) faults)

-- What steps one after another come to.
pub record GoOn (old : StoreView) (steps : List Step) (replies : List Reply) (new : StoreView) : Type 0 where
  -- memory decides the replies but for what the device gives, and the machine goes on by them
  pub course : Course (machine_of old) steps replies (machine_of new)
  -- Where the device backs the state they are a run, at whose end the machine is, with its work while the store runs.
  pub run : IsBacked old → Run (machine_of old) steps replies
  pub state : IsBacked old → new.state ≡ (last_machine (machine_of old) steps replies).state
  pub work : IsBacked old → IsNone new.state.stopped → new.work ≡ (last_machine (machine_of old) steps replies).work
  -- the device had a fault for each reply that tells of one, and no other
  pub faults : new.device.calls.faults ≡ faults_told replies old.device.calls.faults
  pub same_size : new.device.size ≡ old.device.size
  pub same_lasting : new.device.lasting ≡ old.device.lasting
  -- at every moment of them, every crash leaves what it may
  pub crash : IsBacked old → EachSince (Leaves (StandForOne old.state.log_sectors (left_in_run (machine_of old) steps replies))) old.device.history new.device.history
  -- the device backs the state again
  pub backed : IsBacked old → IsBacked new
