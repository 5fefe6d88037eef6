-- A flush of a running store whose blocks are all written may be installed.
use Rattle.std.proofs.Common.{◌≡◌, ◌≤◌, ℕ, List, ◌++◌}
use Rattle.std.specs.Prelude.{Some, ◌^◌}
use Rattle.std.specs.List.{AllByRecursion}
use Rattle.lsm_device.specs.Disk.{seen}
use Rattle.lsm_device.specs.Medium.{disk}
use Rattle.lsm_jobs.specs.Outputs.{AreMadeOf}
use Rattle.lsm_jobs.specs.Slots.{Slot, Writing}
use Rattle.lsm_levels.specs.Pick.{Flush}
use Rattle.lsm_levels.specs.Tables.{Table}
use Rattle.lsm_open.specs.Switching.{AreFlushed}
use Rattle.lsm_open.specs.Writing.{PlacedTable}
use Rattle.lsm_store.specs.Backing.{StoreView, IsRunOn, placement_of, machine_of}
use Rattle.lsm_store.specs.InstalledJobs.{output_records, placed_for}
use Rattle.lsm_store.specs.StoredTables.{IsStoredWithJobs}
use Rattle.lsm_machine.specs.WorkRefusals.{held}
use Rattle.lsm_store.proofs.WrittenFlush.{flush_written}

-- What is sealed in a store that runs on its device is of the batches in its closed regions, as a flush asks.
pub running_flush_written : (v : StoreView) (xs ys : List PlacedTable) (job : ℕ) (slot : Slot) (outputs : List Table) → IsRunOn v → IsStoredWithJobs (placement_of v) (xs ++ (placed_for slot ++ ys)) v.state (disk v.device)
    → held (machine_of v) job ≡ Some slot → slot.job ≡ Flush → slot.stage ≡ Writing outputs 0 → AreMadeOf slot.input outputs → AllByRecursion (λ t. t.number ≤ 2 ^ 63) outputs
    → AreFlushed (placement_of v) (seen (disk v.device)) (output_records Flush outputs)
running_flush_written v xs ys job slot outputs runs stored found flush stage made numbers =
    flush_written (machine_of v) (placement_of v) xs ys (disk v.device) job slot outputs runs.sound stored runs.sealed found flush stage made numbers
