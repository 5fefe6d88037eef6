-- What stays while a store is kept up.
use Rattle.std.specs.Prelude.{◌≡◌}
use Rattle.lsm_store.specs.Backing.{StoreView}
use Rattle.lsm_machine.specs.RecoveryPoints.{batch_count, present_map}
use Rattle.lsm_machine.specs.State.{State}

-- The map after all batches, their count, and the snapshots.
pub record IsSameMap (old new : State) : Type 0 where
  pub map : present_map new.points ≡ present_map old.points
  pub count : batch_count new.points ≡ batch_count old.points
  pub snapshots : new.snapshots ≡ old.snapshots

abbrev pub KeepsMap : StoreView → StoreView → Type 0
KeepsMap old new = IsSameMap old.state new.state
