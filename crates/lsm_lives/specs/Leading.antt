-- Lives on a device in memory, whatever it holds.
use Rattle.std.specs.Prelude.{◌≡◌, ◌⊎◌, ℕ, Bool, List, [], ◌∷◌, Option, None, Some, map, IsTrue}
use Rattle.lsm_device.specs.Calls.{AtMost, faults_after}
use Rattle.lsm_device.specs.Disk.{seen, synced}
use Rattle.lsm_device.specs.History.{Becomes}
use Rattle.lsm_device.specs.Medium.{Medium, KeepsFuse, disk, fused, crashed}
use Rattle.lsm_device.specs.Refusals.{is_no_fault}
use Rattle.lsm_device.specs.declared.refusal.Refusal.{Refusal}
use Rattle.lsm_device.specs.declared.refusal.Refusal.TheVariants.{NoMemory, Io, BadGeometry}
use Rattle.lsm_root.specs.CrashState.{CrashState}
use Rattle.lsm_open.specs.Image.{StandFor}
use Rattle.lsm_open.specs.RefusedOpenings.{opening_refusal}
use Rattle.lsm_open.specs.Recovering.{BeginsWithSync, FailsToOpen}
use Rattle.lsm_root.specs.Layout.{IsDeviceSize}
use Rattle.lsm_store.specs.Backing.{StoreView}
use Rattle.lsm_machine.specs.Calls.{Number, Refused}
use Rattle.lsm_machine.specs.RecoveryPoints.{batch_count}
use Rattle.lsm_store.specs.Serving.{OpensTo, ReopensTo}
use Rattle.lsm_lives.specs.Asked.{Asked, Told, Replied, told_stopped}
use Rattle.lsm_lives.specs.Calls.{asked_of}
use Rattle.lsm_lives.specs.Replaying.{MakesEach}
use Rattle.lsm_lives.specs.declared.living.Life.{Life as Given}

-- what a life is asked to be
pub record LifeView : Type 0 where
  pub fuse : Option ℕ
  pub steps : List Asked
  pub mask : List Bool

abbrev pub life_of : {A : Type 0} → Given A → LifeView
life_of life = record { fuse = life.fuse; steps = map asked_of life.steps.items; mask = life.mask.items }

-- the cache of a store that was just opened, in a life, by a request or for a storm: it may keep 256 blocks, and has none yet
abbrev pub HasNewCache : StoreView → Type 0
HasNewCache s = s.cache ≡ record { blocks = []; capacity = 256; refusals = 0 }

-- An opening of the device answered this store.
pub record BeginsOn (before : Medium) (s : StoreView) : Type 0 where
  -- neither the device's size nor what it holds refuses it; the store is what it replayed, and of what a crash left the one
  -- that was
  pub size : IsDeviceSize before.size
  pub unrefused : opening_refusal (seen (disk before)) ≡ None
  pub reopens : ReopensTo before s
  pub opens : (log_sectors : ℕ) (left : CrashState) → StandFor log_sectors left (seen (disk before)) → OpensTo before log_sectors left s
  pub cache : HasNewCache s
  -- no call of the device faulted in it
  pub no_fault : s.device.calls.faults ≡ before.calls.faults
  pub calls : AtMost 587842 42 3 before.calls s.device.calls
  pub same_size : s.device.size ≡ before.size
  pub same_lasting : s.device.lasting ≡ before.lasting

-- An opening of a device of a fair size was refused after its first call, a sync. Where the error is not Io it made no other
-- change: nothing was written, and what pended stands.
pub record FailsBehindSync (before : Medium) (refusal : Refusal) (after : Medium) : Type 0 where
  pub size : IsDeviceSize before.size
  pub begins : BeginsWithSync before.calls after.calls
  pub unwritten : IsTrue (is_no_fault refusal) → AtMost 587842 0 1 before.calls after.calls
  pub settled : IsTrue (is_no_fault refusal) → Becomes (synced (disk before)) before.history after.history

-- It was refused.
pub record FailsOn (before : Medium) (refusal : Refusal) (after : Medium) : Type 0 where
  -- for the device's size, as what it holds calls for, or for want of memory, or with Io, which is told exactly where a call
  -- of the device faulted in it
  pub size : (IsDeviceSize before.size → ⊥) → (refusal ≡ NoMemory) ⊎ (refusal ≡ BadGeometry)
  pub reason : IsDeviceSize before.size → (opening_refusal (seen (disk before)) ≡ Some refusal) ⊎ ((refusal ≡ NoMemory) ⊎ (refusal ≡ Io))
  pub fault : after.calls.faults ≡ faults_after (is_no_fault refusal) before.calls.faults
  -- before it called the device, or after a sync
  pub called : (after ≡ before) ⊎ FailsBehindSync before refusal after
  -- of what a crash left it leaves the same
  pub fails : (log_sectors : ℕ) (left : CrashState) → StandFor log_sectors left (seen (disk before)) → FailsToOpen before log_sectors left refusal after
  pub same_size : after.size ≡ before.size
  pub same_lasting : after.lasting ≡ before.lasting

-- A life until its crash. The store was opened and made the steps; or its opening was refused, and then no step touched
-- the device.
abbrev pub IsLed : Medium → List Asked → List Told → Medium → Type 0
IsLed before steps (Replied (Number n) ∷ told) after = (s : StoreView) × BeginsOn before s × (n ≡ batch_count s.state.points) × (end : StoreView) × MakesEach [] s steps told end × (after ≡ end.device)
IsLed before steps (Replied (Refused e) ∷ told) after = FailsOn before e after × (told ≡ told_stopped steps)
IsLed before steps told after = ⊥

-- the device as a life begins: with its fuse set, where it has one
abbrev pub with_fuse : Option ℕ → Medium → Medium
with_fuse None m = m
with_fuse (Some n) m = fused n m

-- A life on a device: its fuse is set, it is led, and the device crashes by its mask. With a fuse of n at most n of its
-- writes and syncs answered Ok.
pub record LeadsTo (life : LifeView) (before : Medium) (told : List Told) (after : Medium) : Type 0 where
  pub end : Medium
  pub led : IsLed (with_fuse life.fuse before) life.steps told end
  pub fuse : KeepsFuse life.fuse end.calls
  pub crash : after ≡ crashed life.mask end

-- Lives one after another, each on the device as the crash before it left it.
abbrev pub AreLed : List LifeView → Medium → List (List Told) → Medium → Type 0
AreLed [] before [] after = after ≡ before
AreLed (life ∷ lives) before (told ∷ rest) after = (mid : Medium) × LeadsTo life before told mid × AreLed lives mid rest after
AreLed [] before (told ∷ rest) after = ⊥
AreLed (life ∷ lives) before [] after = ⊥
