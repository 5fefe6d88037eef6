-- What an opening shows.
use Rattle.std.specs.Prelude.{◌≡◌, ℕ, [], IsTrue}
use Rattle.lsm_device.specs.Calls.{AtMost, no_calls}
use Rattle.lsm_device.specs.Disk.{seen}
use Rattle.lsm_device.specs.Medium.{Medium, disk}
use Rattle.lsm_root.specs.CrashState.{CrashState}
use Rattle.lsm_open.specs.Image.{StandFor}
use Rattle.lsm_store.specs.Backing.{StoreView}
use Rattle.lsm_store.specs.Serving.{OpensTo, ReopensTo}
use Rattle.lsm_upkeep.specs.Steps.{IsUpkept}
use Rattle.corwaphi.specs.Upkeep.{IsReadied}

-- The store on a device was opened, with a cache of `cache` blocks: of what a crash left it is the one that was. Then it was readied, which
-- is upkeep.
pub record OpensDb (cache : ℕ) (before : Medium) (new : StoreView) : Type 0 where
  pub opened : StoreView
  pub reopens : ReopensTo before opened
  pub opens : (log_sectors : ℕ) (left : CrashState) → IsTrue before.lasting.tells → StandFor log_sectors left (seen (disk before)) → OpensTo before log_sectors left opened
  pub cached : opened.cache ≡ record { blocks = []; capacity = cache; refusals = 0 }
  -- no call of the device faulted in the opening, which made at most these calls
  pub no_fault : opened.device.calls.faults ≡ before.calls.faults
  pub calls : AtMost 587842 42 3 before.calls opened.device.calls
  pub same_size : opened.device.size ≡ before.size
  pub same_lasting : opened.device.lasting ≡ before.lasting
  pub readied : IsReadied opened new
  pub upkept : IsUpkept opened new

-- So it was on a device that had not been called yet.
abbrev pub WasOpened : ℕ → StoreView → Type 0
WasOpened cache s = (before : Medium) × (before.calls ≡ no_calls) × OpensDb cache before s

-- So it was on a device of this number of sectors, on which it was made.
abbrev pub WasMade : ℕ → ℕ → StoreView → Type 0
WasMade sectors cache s = (before : Medium) × (before.size ≡ sectors) × OpensDb cache before s
