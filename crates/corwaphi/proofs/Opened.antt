-- What an opening comes to.
use Rattle.std.proofs.Common.{◌≡◌, ◌⊎◌, ℕ, [], IfOk, IsTrue, Result, Ok, Err, inl, inr}
use Rattle.lsm_device.specs.Calls.{AtMost, no_calls}
use Rattle.lsm_device.specs.Disk.{seen}
use Rattle.lsm_device.specs.Medium.{Medium, disk}
use Rattle.lsm_root.specs.CrashState.{CrashState}
use Rattle.lsm_open.specs.Image.{StandFor}
use Rattle.lsm_store.specs.Backing.{StoreView}
use Rattle.lsm_store.specs.Serving.{OpensTo, ReopensTo}
use Rattle.corwaphi.specs.Opening.{OpensDb, WasMade, WasOpened}
use Rattle.lsm_upkeep.specs.Steps.{IsUpkept}
use Rattle.corwaphi.specs.Upkeep.{IsReadied}

pub opens_db : (cache : ℕ) (before : Medium) (opened new : StoreView) → ReopensTo before opened
    → ((log_sectors : ℕ) (left : CrashState) → IsTrue before.lasting.tells → StandFor log_sectors left (seen (disk before)) → OpensTo before log_sectors left opened)
    → opened.cache ≡ record { blocks = []; capacity = cache; refusals = 0 }
    → opened.device.calls.faults ≡ before.calls.faults → AtMost 587842 42 3 before.calls opened.device.calls → opened.device.size ≡ before.size → opened.device.lasting ≡ before.lasting
    → IsReadied opened new → IsUpkept opened new → OpensDb cache before new
opens_db cache before opened new reopens opens cached faults calls size lasting readied upkept = record {
  opened = opened;
  reopens = reopens;
  opens = opens;
  cached = cached;
  no_fault = faults;
  calls = calls;
  same_size = size;
  same_lasting = lasting;
  readied = readied;
  upkept = upkept;
}

-- ---- files

pub was_made : {E : Type 0} (sectors cache : ℕ) (before : Medium) (result : Result StoreView E) → before.size ≡ sectors → IfOk result (λ s. OpensDb cache before s) → IfOk result (λ s. WasMade sectors cache s)
was_made sectors cache before (Ok s) size o = (before, size, o)
was_made sectors cache before (Err e) size o = tt

pub was_opened : {E : Type 0} (cache : ℕ) (before : Medium) (result : Result StoreView E) → before.calls ≡ no_calls → IfOk result (λ s. OpensDb cache before s) → IfOk result (λ s. WasOpened cache s)
was_opened cache before (Ok s) calls o = (before, calls, o)
was_opened cache before (Err e) calls o = tt

pub either_opened : {E : Type 0} (sectors cache : ℕ) (result : Result StoreView E) → IfOk result (λ s. WasOpened cache s) → IfOk result (λ s. WasOpened cache s ⊎ WasMade sectors cache s)
either_opened sectors cache (Ok s) o = inl o
either_opened sectors cache (Err e) o = tt

pub either_made : {E : Type 0} (sectors cache : ℕ) (result : Result StoreView E) → IfOk result (λ s. WasMade sectors cache s) → IfOk result (λ s. WasOpened cache s ⊎ WasMade sectors cache s)
either_made sectors cache (Ok s) o = inr o
either_made sectors cache (Err e) o = tt
