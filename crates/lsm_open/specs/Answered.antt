-- What an opening promises besides the store that it recovers.
use Rattle.std.specs.Prelude.{◌≡◌, ◌≤◌, ◌⊎◌, ℕ, ◌+◌, Option, Some, None, Result, MatchResult}
use Rattle.lsm_device.specs.declared.refusal.Refusal.{Refusal}
use Rattle.lsm_device.specs.declared.refusal.Refusal.TheVariants.{NoMemory, Io}
use Rattle.lsm_log.specs.Opened.{AreNumbers}
use Rattle.lsm_open.specs.Reopening.{IsNewLog}
use Rattle.lsm_open.specs.declared.regions.OpenRegion.{OpenRegion}

-- An opening answers Ok only where no refusal holds, and an Err is the one that holds, or want of memory or a fault.
abbrev pub OpensUnless : {X : Type 0} → Option Refusal → Result X Refusal → Type 0
OpensUnless refusal result = MatchResult result (λ x. refusal ≡ None) (λ e. (refusal ≡ Some e) ⊎ ((e ≡ NoMemory) ⊎ (e ≡ Io)))

-- an open region of a device of this size: a new log of the generation, at `count` batches
pub record IsNewRegion (size log_sectors generation count : ℕ) (o : OpenRegion) : Type 0 where
  pub region : o.region ≤ 2
  pub within : o.log.start + o.log.sectors ≤ size
  pub numbers : AreNumbers o.log.epoch o.log.first 0
  pub new_log : IsNewLog log_sectors generation count o

abbrev pub IsNewRegionIfOpen : ℕ → ℕ → ℕ → ℕ → Option OpenRegion → Type 0
IsNewRegionIfOpen size log_sectors generation count (Some o) = IsNewRegion size log_sectors generation count o
IsNewRegionIfOpen size log_sectors generation count None = Unit {0}
