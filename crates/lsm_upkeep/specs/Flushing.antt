-- A flush that waits is finished first, and a log with room is opened after it.
use Rattle.std.specs.Prelude.{◌≡◌, ◌⊎◌, zero, true, false, is_some, None}
use Rattle.lsm_store.specs.Backing.{StoreView}
use Rattle.lsm_machine.specs.Calls.{Reply, Rotate, LogRoom, Number}
use Rattle.lsm_store.specs.Serving.{Serves}
use Rattle.lsm_machine.specs.State.{are_waiting}
use Rattle.lsm_upkeep.specs.Finishing.{Taken, IsFinished, IsUndone}
use Rattle.lsm_upkeep.specs.Steps.{IsUpkept}

-- no flush waits, or the store is stopped
abbrev pub IsIdle : StoreView → Type 0
IsIdle s = (is_some s.state.stopped ≡ true) ⊎ (are_waiting s.state ≡ false)

-- The job that comes next, which is the flush where one waits, was asked for, and finished or not. Before and after that was upkeep.
pub record TriesNext (old new : StoreView) : Type 0 where
  pub ready : StoreView
  pub tried : StoreView
  pub before : IsUpkept old ready
  pub tries : Taken IsFinished None ready tried ⊎ IsUndone None ready tried
  pub behind : IsUpkept tried new

-- A flush that waited was finished before all else, or at least it was tried.
pub record FlushesFirst (old new : StoreView) : Type 0 where
  pub flushed : StoreView
  pub upkeep : IsUpkept old flushed
  pub flushes : IsIdle flushed ⊎ TriesNext old flushed
  pub rest : IsUpkept flushed new

-- The store was rotated once no flush waited, which may have been refused; after that was upkeep.
pub record Rotates (old new : StoreView) : Type 0 where
  pub idle : IsIdle old
  pub rotated : StoreView
  pub reply : Reply
  pub rotates : Serves old Rotate reply rotated
  pub behind : IsUpkept rotated new

-- It was, unless a flush that was tried before still waits.
pub record BeginsLog (old new : StoreView) : Type 0 where
  pub flushed : StoreView
  pub upkeep : IsUpkept old flushed
  pub opens : Rotates flushed new ⊎ (TriesNext old flushed × (new ≡ flushed))

-- so it was, amid other upkeep
pub record BeginsLogAmid (old new : StoreView) : Type 0 where
  pub before : StoreView
  pub begun : StoreView
  pub upkeep : IsUpkept old before
  pub begins : BeginsLog before begun
  pub behind : IsUpkept begun new

-- where the open log had no room, or none was open, so it was
abbrev pub IsBegunAt : Reply → StoreView → StoreView → Type 0
IsBegunAt (Number zero) old new = BeginsLog old new
IsBegunAt room old new = new ≡ old

pub record OpensAnother (old new : StoreView) : Type 0 where
  pub room : Reply
  pub asked : Serves old LogRoom room old
  pub begun : IsBegunAt room old new

-- A flush that waited was finished, or at least tried; then another log was opened where the open one had no room, or none was open.
pub record ReadiesLog (old new : StoreView) : Type 0 where
  pub flushed : StoreView
  pub upkeep : IsUpkept old flushed
  pub flushes : IsIdle flushed ⊎ TriesNext old flushed
  pub opens : OpensAnother flushed new

-- a store that runs was made ready so before all else
abbrev pub IsMadeReady : StoreView → StoreView → Type 0
IsMadeReady old new = ((is_some old.state.stopped ≡ true) × (new ≡ old)) ⊎ ((ready : StoreView) × ReadiesLog old ready × IsUpkept ready new)
