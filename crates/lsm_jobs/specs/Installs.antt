-- What an install of a job's outputs leaves.
use Rattle.std.specs.Prelude.{◌≡◌, ℕ, List, ◌++◌, map, Some, None}
use Rattle.std.specs.List.{AllByRecursion}
use Rattle.lsm_merge.specs.Inputs.{MergeInput}
use Rattle.lsm_mem.specs.Versions.{joined}
use Rattle.lsm_levels.specs.Tables.{Table, versions_of}
use Rattle.lsm_levels.specs.Levels.{Levels, places}
use Rattle.lsm_levels.specs.Orders.{IsNewerPlace}
use Rattle.lsm_levels.specs.Pick.{Job, Flush, Merge, installed_levels}
use Rattle.lsm_levels.specs.Held.{AreRuns, IsHeld, AreOutputs, AreOrdered}
use Rattle.lsm_jobs.specs.Slots.{Slot, Slots, slot_of, with_held}
use Rattle.lsm_jobs.specs.Keeping.{AreKept}
use Rattle.lsm_jobs.specs.Outputs.{AreMadeOf}
use Rattle.lsm_jobs.specs.Outcomes.{SeesSome}

-- The input of a job is what it took in: of a flush versions that are newer than those of their keys in all levels, one of
-- which a cut sees; of a merge the versions of its tables.
abbrev pub IsInputOf : Levels → Job → MergeInput → Type 0
IsInputOf levels Flush input = SeesSome input × AllByRecursion (IsNewerPlace (joined input.runs)) (map versions_of (places levels))
IsInputOf levels (Merge level upper lower) input = joined input.runs ≡ versions_of (upper ++ lower)

-- A job has its tables, and its outputs may take their place: the levels stay runs in the order of versions, and the other
-- jobs keep theirs.
pub record CanBeInstalled (levels : Levels) (next job : ℕ) (slots : Slots) (slot : Slot) (outputs : List Table) : Type 0 where
  pub held : IsHeld levels slot.input.bottom slot.job
  pub are_outputs : AreOutputs slot.job outputs
  pub runs : AreRuns (installed_levels levels slot.job outputs)
  pub ordered : AreOrdered (installed_levels levels slot.job outputs)
  pub kept : AreKept (installed_levels levels slot.job outputs) next (with_held job None slots)

-- Outputs that are made of a job's input may be installed.
abbrev pub InstallLaw : Type 0
InstallLaw = (levels : Levels) (next job : ℕ) (slots : Slots) (slot : Slot) (outputs : List Table) → AreRuns levels → AreOrdered levels → AreKept levels next slots → slot_of job slots ≡ Some slot
    → IsInputOf levels slot.job slot.input → AreMadeOf slot.input outputs → CanBeInstalled levels next job slots slot outputs
