-- What is done to a store besides a call.
use Rattle.lsm_store.specs.Backing.{StoreView}
use Rattle.lsm_upkeep.specs.Flushing.{ReadiesLog}
use Rattle.lsm_upkeep.specs.Steps.{IsUpkept}
use Rattle.lsm_upkeep.specs.Upkeep.{KeepsUp}

-- It was compacted by the policy, and then the flush that waited was finished, or at least tried, and a log was opened where the open one had
-- no room, or none was open.
pub record IsReadied (old new : StoreView) : Type 0 where
  pub compacted : StoreView
  pub compacts : IsUpkept old compacted
  pub opens : ReadiesLog compacted new

-- What was begun was finished, which is upkeep; then a store was kept up, and its tables were brought down.
pub record CompactsWhole (old new : StoreView) : Type 0 where
  pub begun : StoreView
  pub finishes : IsUpkept old begun
  pub kept : StoreView
  pub keeps_up : KeepsUp 768 begun kept
  pub compacts : IsUpkept kept new
