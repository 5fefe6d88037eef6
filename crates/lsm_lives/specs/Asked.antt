-- What is asked for in a replay or a life, and what is told: the store's own steps, builds, and accepts of results by their number.
use Rattle.std.specs.Prelude.{◌≡◌, ◌⊎◌, ◌≤◌, ℕ, zero, suc, ◌+◌, List, [], ◌∷◌, ◌++◌, length, map, slice_get, Option, None}
use Rattle.lsm_device.specs.declared.refusal.Refusal.{Refusal}
use Rattle.lsm_device.specs.declared.refusal.Refusal.TheVariants.{NoMemory, BadLimit, Stopped}
use Rattle.lsm_merge.specs.Inputs.{MergeInput, kept_of}
use Rattle.lsm_merge.specs.Results.{MergeResult}
use Rattle.lsm_table.specs.Division.{IsTables}
use Rattle.lsm_machine.specs.Calls.{Reply}
use Rattle.lsm_machine.specs.Calls.{Handed, Refused, as_told}
use Rattle.lsm_machine.specs.Machine.{Step, Worked}
use Rattle.lsm_machine.specs.Work.{Ask, Accept}

pub data Asked : Type 0 where
  -- a step of the store
  Own : Step → Asked
  -- the result of a job's merge, built in n parts
  Build : ℕ → ℕ → Asked
  -- to accept for a job the result of a number
  AcceptBuilt : ℕ → ℕ → Asked

pub data Told : Type 0 where
  -- what the store replied
  Replied : Reply → Told
  -- of a result that was built, its number and how many tables it has
  Built : ℕ → ℕ → Told

-- the result of a number, of which the first is 1; none of one that was not built
abbrev pub result_of : ℕ → List MergeResult → Option MergeResult
result_of zero results = None
result_of (suc n) results = slice_get results n

-- The step that the store makes, where these results were built before: a build asks for the job's input.
abbrev pub step_in : List MergeResult → Asked → Step
step_in results (Own step) = step
step_in results (Build job parts) = Worked (Ask job)
step_in results (AcceptBuilt job number) = Worked (Accept job (result_of number results))

-- a result is built in 1 to 8 parts
abbrev pub IsParts : ℕ → Type 0
IsParts parts = (1 ≤ parts) × (parts ≤ 8)

-- why a build gives no result though the store lent the input
abbrev pub HasNoResult : ℕ → Refusal → Type 0
HasNoResult parts BadLimit = IsParts parts → ⊥
HasNoResult parts NoMemory = IsParts parts
HasNoResult parts other = ⊥

-- a result was built of an input, and is the next one
pub record IsNextResult (results : List MergeResult) (parts number tables : ℕ) (reply : Reply) (after : List MergeResult) : Type 0 where
  pub made : MergeResult
  pub lent : reply ≡ Handed made.input
  pub in_parts : IsParts parts
  pub images : IsTables (kept_of made.input) made.images
  pub numbered : number ≡ length results + 1
  pub counted : tables ≡ length made.images
  pub added : after ≡ results ++ made ∷ []

-- What is told of a step to which the store gave this reply, where these results were built before it, and the results after it.
abbrev pub IsTold : List MergeResult → Asked → Told → Reply → List MergeResult → Type 0
IsTold results (Build job parts) (Built number tables) reply after = IsNextResult results parts number tables reply after
IsTold results (Build job parts) (Replied (Refused e)) reply after = (after ≡ results) × ((reply ≡ Refused e) ⊎ ((input : MergeInput) × (reply ≡ Handed input) × HasNoResult parts e))
IsTold results (Build job parts) (Replied other) reply after = ⊥
IsTold results asked (Replied told) reply after = (after ≡ results) × (as_told reply ≡ told)
IsTold results asked (Built number tables) reply after = ⊥

-- So are steps one after another.
abbrev pub AreTold : List MergeResult → List Asked → List Told → List Step → List Reply → Type 0
AreTold results [] [] steps replies = (steps ≡ []) × (replies ≡ [])
AreTold results (asked ∷ more) (told ∷ rest) (step ∷ steps) (reply ∷ replies) = (step ≡ step_in results asked) × ((after : List MergeResult) × IsTold results asked told reply after × AreTold after more rest steps replies)
AreTold results (asked ∷ more) (told ∷ rest) [] replies = ⊥
AreTold results (asked ∷ more) (told ∷ rest) (step ∷ steps) [] = ⊥
AreTold results [] (told ∷ rest) steps replies = ⊥
AreTold results (asked ∷ more) [] steps replies = ⊥

-- each is told that the store is stopped
abbrev pub told_stopped : List Asked → List Told
told_stopped asked = map (λ _. Replied (Refused Stopped)) asked
