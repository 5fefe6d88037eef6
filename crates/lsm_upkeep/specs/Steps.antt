-- What is done to a store besides a call.
use Rattle.std.specs.Prelude.{◌≡◌, ℕ, zero, suc}
use Rattle.lsm_store.specs.Backing.{StoreView}
use Rattle.lsm_machine.specs.Calls.{Reply, Rotate}
use Rattle.lsm_machine.specs.Machine.{Step, Called, Worked}
use Rattle.lsm_store.specs.Working.{ServesStep}
use Rattle.lsm_upkeep.specs.Keeping.{KeepsMap}

-- a step of upkeep: a piece of work on a job, or a rotation
abbrev pub IsUpkeepStep : Step → Reply → Type 0
IsUpkeepStep (Worked piece) reply = Unit {0}
IsUpkeepStep (Called Rotate) reply = Unit {0}
IsUpkeepStep (Called other) reply = ⊥

-- n of them, each served by the store that the one before it left
abbrev pub UpkeepSteps : ℕ → StoreView → StoreView → Type 0
UpkeepSteps zero old new = new ≡ old
UpkeepSteps (suc n) old new = (mid : StoreView) × (step : Step) × (reply : Reply) × IsUpkeepStep step reply × ServesStep old step reply mid × UpkeepSteps n mid new

-- Upkeep was done, which changes no map, no snapshot and no count of batches.
pub record IsUpkept (old new : StoreView) : Type 0 where
  pub count : ℕ
  pub steps : UpkeepSteps count old new
  pub keeps : KeepsMap old new
