-- How a store is made and opened, and what is answered.
use Rattle.std.specs.Prelude.{◌≡◌, ◌⊎◌, ◌↔◌, ◌+◌, ◌*◌, ℕ, [], false, Option, Some, IsTrue}
use Rattle.lsm_codec.specs.Geometry.{IsDeviceSize}
use Rattle.lsm_device.specs.Calls.{AtMost, faults_after}
use Rattle.lsm_device.specs.Disk.{seen}
use Rattle.lsm_device.specs.Medium.{Medium, disk}
use Rattle.lsm_device.specs.Outcomes.{Leaves}
use Rattle.lsm_device.specs.Refusals.{is_no_fault, number_of}
use Rattle.lsm_device.specs.declared.refusal.Refusal.{Refusal}
use Rattle.lsm_device.specs.declared.refusal.Refusal.TheVariants.{BadGeometry, BadLimit, Io, NoMemory}
use Rattle.lsm_root.specs.Counted.{CallsMade}
use Rattle.lsm_root.specs.Layout.{IsGeometry}
use Rattle.lsm_root.specs.CrashState.{CrashState, formatted as empty_store}
use Rattle.lsm_open.specs.Formatted.{IsFormatted}
use Rattle.lsm_open.specs.Image.{StandFor}
use Rattle.lsm_open.specs.Recovering.{FailsToOpen, IsOpeningRefusal}
use Rattle.lsm_open.specs.RefusedOpenings.{opening_refusal}
use Rattle.lsm_store.specs.Backing.{StoreView}
use Rattle.lsm_store.specs.Memory.{is_cache_size}
use Rattle.lsm_store.specs.Serving.{IsRefusedBehindSync, IsUncalled, OpensTo, ReopensTo}
use Rattle.lsm_mapped.specs.Disks.{mapped}
use Rattle.corwaphi_c.specs.Calls.{IsMoved, IsWritten, Loan}

-- ---- on any device

-- A device was made an empty store, by just the calls that make one. Where it tells what it holds, it holds that, and so does what a crash leaves.
pub record IsMadeEmpty (log_sectors : ℕ) (before after : Medium) : Type 0 where
  pub made : CallsMade (132 + 3 * log_sectors) 3 before.calls after.calls
  pub empty : IsTrue before.lasting.tells → IsFormatted log_sectors (disk after)
  pub leaves : IsTrue before.lasting.tells → Leaves (StandFor log_sectors empty_store) (disk after)

-- A format of a device was answered with a number: 25 just where a size is outside the limits.
pub record Formats (log_sectors answer : ℕ) (before after : Medium) : Type 0 where
  pub geometry : (answer ≡ 25) ↔ (IsGeometry before.size log_sectors → ⊥)
  -- It is done (0); or nothing was, for want of memory too (1); or a call failed, the last one (2).
  pub ends : ((answer ≡ 0) × IsMadeEmpty log_sectors before after)
      ⊎ ((((answer ≡ 25) ⊎ (answer ≡ 1)) × (after ≡ before)) ⊎ ((answer ≡ 2) × IsTrue after.calls.last_faulted))
  pub counts : AtMost 0 (172 + 3 * log_sectors) 3 before.calls after.calls
  pub same_size : after.size ≡ before.size
  pub same_lasting : after.lasting ≡ before.lasting

-- An opening of a device answered this store: what the device held, and where a crash left that, the store that was.
pub record IsOpenedOn (cache : ℕ) (before : Medium) (s : StoreView) : Type 0 where
  pub cached : s.cache ≡ record { blocks = []; capacity = cache; refusals = 0 }
  pub reopens : ReopensTo before s
  pub opens : (log_sectors : ℕ) (left : CrashState) → IsTrue before.lasting.tells → StandFor log_sectors left (seen (disk before)) → OpensTo before log_sectors left s
  pub faults : s.device.calls.faults ≡ before.calls.faults
  pub same_size : s.device.size ≡ before.size
  pub same_lasting : s.device.lasting ≡ before.lasting

-- It was refused with the number of a refusal: just for a cache outside its limits with BadLimit, and for a device outside its own with
-- BadGeometry, both before any call; and else for what the device holds, for want of memory, or since a call failed.
pub record IsRefusedOn (cache answer : ℕ) (before after : Medium) : Type 0 where
  pub refusal : Refusal
  pub is : answer ≡ number_of refusal
  pub limit : is_cache_size cache ≡ false → (refusal ≡ BadLimit) × (after ≡ before)
  pub size : IsTrue (is_cache_size cache) → (IsDeviceSize before.size → ⊥) → (refusal ≡ BadGeometry) × (after ≡ before)
  pub other : IsTrue (is_cache_size cache) → IsOpeningRefusal refusal
  pub held : IsTrue (is_cache_size cache) → IsDeviceSize before.size → IsTrue before.lasting.tells → (opening_refusal (seen (disk before)) ≡ Some refusal) ⊎ ((refusal ≡ NoMemory) ⊎ (refusal ≡ Io))
  pub called : IsTrue (is_cache_size cache) → IsDeviceSize before.size → IsUncalled refusal before after ⊎ IsRefusedBehindSync before refusal after
  pub fails : IsTrue (is_cache_size cache) → (log_sectors : ℕ) (left : CrashState) → IsTrue before.lasting.tells → StandFor log_sectors left (seen (disk before)) → FailsToOpen before log_sectors left refusal after
  pub faults : after.calls.faults ≡ faults_after (is_no_fault refusal) before.calls.faults
  pub same_size : after.size ≡ before.size
  pub same_lasting : after.lasting ≡ before.lasting

-- An opening of a device answered a store, which is kept then.
abbrev pub OpensOn : ℕ → Medium → Medium → Option StoreView → Type 0
OpensOn cache before after kept = (s : StoreView) × IsOpenedOn cache before s × (after ≡ s.device) × (parked : StoreView) × IsMoved s parked × (kept ≡ Some parked)

-- ---- on the device of a call

-- a device of `sectors` sectors was formatted so
pub record FormatsHere (sectors log_sectors answer : ℕ) (loan : Loan) : Type 0 where
  pub name : ℕ
  pub after : Medium
  pub formats : Formats log_sectors answer (mapped sectors loan.past name) after
  pub written : IsWritten sectors loan after.history

-- a store was opened on a device of `sectors` sectors, and is kept
pub record IsKeptOpened (sectors cache : ℕ) (loan : Loan) (kept : Option StoreView) : Type 0 where
  pub name : ℕ
  pub opened : StoreView
  pub opens : IsOpenedOn cache (mapped sectors loan.past name) opened
  pub written : IsWritten sectors loan opened.device.history
  pub parked : StoreView
  pub back : IsMoved opened parked
  pub is : kept ≡ Some parked

-- or it was refused
pub record IsRefusedHere (sectors cache : ℕ) (loan : Loan) (answer : ℕ) : Type 0 where
  pub name : ℕ
  pub after : Medium
  pub refused : IsRefusedOn cache answer (mapped sectors loan.past name) after
  pub written : IsWritten sectors loan after.history

-- no store was opened: there was no memory for what a handle leads to (1), or it was refused
abbrev pub IsUnopened : ℕ → ℕ → Loan → ℕ → Type 0
IsUnopened sectors cache loan answer = ((answer ≡ 1) × (loan.used ≡ 0)) ⊎ IsRefusedHere sectors cache loan answer

-- An opening was answered: the store that it opened is kept (0), or none was opened.
abbrev pub Opens : ℕ → ℕ → Loan → ℕ → Option StoreView → Type 0
Opens sectors cache loan answer kept = ((answer ≡ 0) × IsKeptOpened sectors cache loan kept) ⊎ IsUnopened sectors cache loan answer
