-- Calls that are made for a line, and what is done to a store for one that asks for a compaction.
use Rattle.std.specs.Prelude.{◌≡◌, List, Option, Some, None}
use Rattle.lsm_codec.specs.Guards.{Condition}
use Rattle.lsm_codec.specs.Map.{Operation}
use Rattle.lsm_store.specs.Backing.{StoreView}
use Rattle.lsm_machine.specs.Calls.{Call, Reply, Commit, CommitIf, as_told}
use Rattle.lsm_store.specs.Serving.{Serves}
use Rattle.lsm_upkeep.specs.Flushing.{FlushesFirst}
use Rattle.lsm_upkeep.specs.Steps.{IsUpkept}
use Rattle.lsm_upkeep.specs.Upkeep.{KeepsUp}
use Rattle.lsm_upkeep.specs.Writing.{Writes}

-- a store served a call, and this is told of its reply
pub record ServesTold (call : Call) (before : StoreView) (told : Reply) (after : StoreView) : Type 0 where
  pub reply : Reply
  pub serves : Serves before call reply after
  pub is : told ≡ as_told reply

-- A batch was written, where guards are given under them, and this is told of the reply.
pub record WritesTold (guards : Option (List Condition)) (batch : List Operation) (before : StoreView) (told : Reply) (after : StoreView) : Type 0 where
  pub reply : Reply
  pub writes : Writes guards batch before reply after
  pub is : told ≡ as_told reply

-- A call was made: one that commits was a write, and any other was served.
abbrev pub MakesCall : Call → StoreView → Reply → StoreView → Type 0
MakesCall (Commit batch) before told after = WritesTold None batch before told after
MakesCall (CommitIf guards batch) before told after = WritesTold (Some guards) batch before told after
MakesCall call before told after = ServesTold call before told after

-- What was begun was finished, which is upkeep; then a store was kept up, and its tables were taken down, after a flush that waited. All
-- that is upkeep.
pub record CompactsWhole (old new : StoreView) : Type 0 where
  pub begun : StoreView
  pub finishes : IsUpkept old begun
  pub kept : StoreView
  pub keeps_up : KeepsUp 768 begun kept
  pub compacts : FlushesFirst kept new
  pub upkeep : IsUpkept old new
