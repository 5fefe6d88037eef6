-- What may be taken where jobs hold slots.
use Rattle.std.specs.Prelude.{◌≡◌, Bool, true, false, List, [], Some, is_some}
use Rattle.lsm_levels.specs.Levels.{Levels}
use Rattle.lsm_levels.specs.Pick.{Job}
use Rattle.lsm_levels.specs.Choices.{chosen}
use Rattle.lsm_levels.specs.declared.choosing.Choice.{Choice}
use Rattle.lsm_levels.specs.declared.choosing.Choice.TheVariants as choice
use Rattle.lsm_extent.specs.Area.{Area}
use Rattle.lsm_room.specs.Outputs.{FindsRoom}
use Rattle.lsm_room.specs.declared.stepping.Step.{Step}
use Rattle.lsm_room.specs.declared.stepping.Advice.{Advice}
use Rattle.lsm_room.specs.declared.stepping.Advice.TheVariants.{Nothing, Take, Try, Lacks}

-- whether a choice is one that may be taken
abbrev pub may_take : Levels → List Job → Choice → Bool
may_take levels jobs choice = is_some (chosen levels jobs choice)

-- A step that is advised is one that may be taken.
abbrev pub MayFollow : {A : Type 0} → Levels → List Job → Advice A → Type 0
MayFollow levels jobs Nothing = Unit {0}
MayFollow levels jobs (Take step) = may_take levels jobs step.choice ≡ true
MayFollow levels jobs (Try step) = may_take levels jobs step.choice ≡ true
MayFollow levels jobs (Lacks choice wanted) = Unit {0}

-- whether a choice merges tables into the next level
abbrev pub goes_down : Choice → Bool
goes_down (choice.OldestRuns count) = true
goes_down (choice.Tables first last) = true
goes_down (choice.Rewrite first last) = false

-- The outputs of a step find room, divided as they are; one that merges tables down is undivided.
pub record IsPlaced {A : Type 0} (area : Area) (levels : Levels) (live : Bool) (jobs : List Job) (step : Step A) : Type 0 where
  pub whole : goes_down step.choice ≡ true → step.divisions.items ≡ []
  pub room : (job : Job) → chosen levels jobs step.choice ≡ Some job → FindsRoom area levels live job step.divisions.items

-- That holds of a step to be taken. One that is only to be tried merges no table down.
abbrev pub AdvisesRoom : {A : Type 0} → Area → Levels → Bool → List Job → Advice A → Type 0
AdvisesRoom area levels live jobs Nothing = Unit {0}
AdvisesRoom area levels live jobs (Take step) = IsPlaced area levels live jobs step
AdvisesRoom area levels live jobs (Try step) = goes_down step.choice ≡ false
AdvisesRoom area levels live jobs (Lacks choice wanted) = Unit {0}
