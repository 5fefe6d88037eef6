-- Ring 2 of the theorem for a `Db`: the device that its lives leave holds the map that is kept.
use Rattle.std.specs.Prelude.{ℕ, List, [], Option}
use Rattle.lsm_device.specs.Disk.{Disk}
use Rattle.lsm_root.specs.CrashState.{formatted}
use Rattle.lsm_machine.specs.Calls.{Call, Reply}
use Rattle.lsm_lives.specs.Batches.{Act}
use Rattle.lsm_lives.specs.Devices.{KeepsBatchesOn}
use Rattle.corwaphi_lives.specs.Batches.{AreLivesTold}

-- Lives of a `Db` from a format on, as in ring 1 (`KeepsDbBatches`); and whatever a crash leaves of this disk, at their end, is the image of
-- the map after the batches that are kept.
pub record KeepsDbBatchesOn (log_sectors : ℕ) (lives : List (List (Option Call))) (told : List (List Reply)) (d : Disk) : Type 0 where
  pub acts : List (List Act)
  pub replies : List (List Reply)
  pub keeps : KeepsBatchesOn log_sectors [] formatted acts replies d
  pub told_so : AreLivesTold acts replies lives told
