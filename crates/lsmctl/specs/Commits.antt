-- Batches that are committed to a store that is kept up.
use Rattle.std.specs.Prelude.{◌≡◌, ℕ, List, Option, None}
use Rattle.lsm_codec.specs.Guards.{Condition}
use Rattle.lsm_codec.specs.Map.{Map, Operation, apply}
use Rattle.lsm_device.specs.declared.refusal.Refusal.{Refusal}
use Rattle.lsm_store.specs.Backing.{StoreView}
use Rattle.lsm_machine.specs.Calls.{Call, Reply, Sync, Done, Number, Refused, as_told}
use Rattle.lsm_machine.specs.RecoveryPoints.{present_map}
use Rattle.lsm_store.specs.Serving.{Serves}
use Rattle.lsm_upkeep.specs.Upkeep.{KeepsUp}
use Rattle.lsm_upkeep.specs.Writing.{Writes}
use Rattle.lsmctl.specs.declared.answer.Output.{Output}
use Rattle.lsmctl.specs.declared.answer.Output.TheVariants.{Batch}

-- A store is kept up where less than half of its blocks is free, or there are more than 768 tables.
abbrev pub IsKeptUp : StoreView → StoreView → Type 0
IsKeptUp before after = KeepsUp 768 before after

-- a store served a call, and told this refusal
pub record Refuses (call : Call) (before : StoreView) (e : Refusal) : Type 0 where
  pub reply : Reply
  pub after : StoreView
  pub serves : Serves before call reply after
  pub told : as_told reply ≡ Refused e

-- the store was kept up, then a batch was written, where guards are given under them, and synced, and its number is told
pub record HasCommitted (guards : Option (List Condition)) (batch : List Operation) (before after : StoreView) (output : Output) : Type 0 where
  pub number : ℕ
  pub kept : StoreView
  pub between : StoreView
  pub keeps : IsKeptUp before kept
  pub writes : Writes guards batch kept (Number number) between
  pub syncs : Serves between Sync Done after
  pub told : output ≡ Batch number

-- the map of a store, after all batches
abbrev pub map_in : StoreView → Map
map_in s = present_map s.state.points

-- a batch was put into its map
abbrev pub Puts : List Operation → StoreView → StoreView → Type 0
Puts batch before after = map_in after ≡ apply (map_in before) batch

-- ---- many batches

-- a batch was added
abbrev pub Adds : List Operation → StoreView → StoreView → Type 0
Adds batch before after = (number : ℕ) × Writes None batch before (Number number) after

-- it was refused so
abbrev pub AddsNot : List Operation → StoreView → Refusal → StoreView → Type 0
AddsNot batch before e after = Writes None batch before (Refused e) after
