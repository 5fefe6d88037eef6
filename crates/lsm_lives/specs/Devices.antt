-- Ring 2 of the theorem: lives come of this device, which at the end holds the map that is kept.
use Rattle.std.specs.Prelude.{◌≡◌, ℕ, List, [], ◌∷◌}
use Rattle.lsm_codec.specs.Map.{Operation}
use Rattle.lsm_device.specs.Disk.{Disk}
use Rattle.lsm_device.specs.Medium.{Medium, disk, zeroed}
use Rattle.lsm_device.specs.Outcomes.{Leaves}
use Rattle.lsm_root.specs.CrashState.{CrashState}
use Rattle.lsm_open.specs.Image.{StandFor}
use Rattle.lsm_machine.specs.Calls.{Reply}
use Rattle.lsm_machine.specs.Lives.{IsAfter}
use Rattle.lsm_lives.specs.Asked.{Told}
use Rattle.lsm_lives.specs.Batches.{Act, KeepsOn}
use Rattle.lsm_lives.specs.Leading.{LifeView, AreLed}

-- Lives one after another, as in ring 1 (`KeepsBatches`); and whatever a crash leaves of this disk, at their end, is the image of
-- the map after the batches that are kept.
abbrev pub KeepsBatchesOn : ℕ → List (List Operation) → CrashState → List (List Act) → List (List Reply) → Disk → Type 0
KeepsBatchesOn log_sectors before opened [] [] d = IsAfter before opened × Leaves (StandFor log_sectors opened) d
KeepsBatchesOn log_sectors before opened (acts ∷ lives) (told ∷ rest) d = (after : List (List Operation)) × (left : CrashState)
    × KeepsOn log_sectors before opened acts told after left × KeepsBatchesOn log_sectors after left lives rest d
KeepsBatchesOn log_sectors before opened lives told d = ⊥

-- Lives were led on a device in memory of `sectors` sectors, which then was left so. At first every crash of it left this, and
-- no fuse and no failing call was set.
pub record AreLedOn (sectors log_sectors : ℕ) (opened : CrashState) (lives : List LifeView) (answers : List (List Told)) (after : Medium) : Type 0 where
  pub device : Medium
  pub size : device.size ≡ sectors
  pub lasting : device.lasting ≡ (zeroed sectors).lasting
  pub leaves : Leaves (StandFor log_sectors opened) (disk device)
  pub led : AreLed lives device answers after
