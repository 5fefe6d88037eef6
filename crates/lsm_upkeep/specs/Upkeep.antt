-- How a store is kept up: jobs are taken and finished, one after another, and a log with room is opened.
use Rattle.std.specs.Prelude.{◌≡◌, ◌<◌, ◌⊎◌, ◌&&◌, ◌||◌, not, ℕ, zero, suc, Bool, true, false, is_some, ltb, None}
use Rattle.lsm_levels.specs.Moving.{table_count}
use Rattle.lsm_policy.specs.Room.{taken_blocks}
use Rattle.lsm_store.specs.Backing.{StoreView}
use Rattle.lsm_machine.specs.Calls.{Reply, Rotate, LogRoom, Number}
use Rattle.lsm_store.specs.Serving.{Serves}
use Rattle.lsm_store.specs.Stats.{blocks_in_no_table}
use Rattle.lsm_upkeep.specs.Finishing.{Taken, IsFinished, IsUndone}
use Rattle.lsm_upkeep.specs.Steps.{IsUpkept}

-- ---- jobs, one after another

-- n jobs were finished, each the one that came next
abbrev pub AreDone : ℕ → StoreView → StoreView → Type 0
AreDone zero old new = new ≡ old
AreDone (suc n) old new = (mid : StoreView) × AreDone n old mid × Taken IsFinished None mid new

-- the jobs that came next were finished, until one was not, or `most`
pub record FinishesJobs (most : ℕ) (old new : StoreView) : Type 0 where
  pub count : ℕ
  pub last : StoreView
  pub finished : AreDone count old last
  pub ends : ((count ≡ most) × (new ≡ last)) ⊎ ((count < most) × IsUndone None last new)

-- ---- the log

-- where the open log has no room, or none is open, the store was rotated, which may have been refused
abbrev pub IsRotatedAt : Reply → StoreView → StoreView → Type 0
IsRotatedAt (Number zero) old new = (reply : Reply) × Serves old Rotate reply new
IsRotatedAt room old new = new ≡ old

pub record OpensLog (old new : StoreView) : Type 0 where
  pub room : Reply
  pub asked : Serves old LogRoom room old
  pub rotated : IsRotatedAt room old new

-- ---- the calls

-- a store was settled: the jobs that come next were finished, 64 at most, and a log was opened
abbrev pub Settles : StoreView → StoreView → Type 0
Settles old new = (mid : StoreView) × FinishesJobs 64 old mid × OpensLog mid new

-- whether room is scarce in a store that runs: less than half of the blocks is free, or there are more tables than `most_tables`
abbrev pub is_scarce : ℕ → StoreView → Bool
is_scarce most_tables s = ltb (blocks_in_no_table s.work) (taken_blocks s.work.levels) || ltb most_tables (table_count s.work.levels)

-- there was upkeep, but only where room was scarce
abbrev pub IsEasedIf : Bool → StoreView → StoreView → Type 0
IsEasedIf true old new = IsUpkept old new
IsEasedIf false old new = new ≡ old

abbrev pub IsEased : ℕ → StoreView → StoreView → Type 0
IsEased most_tables old new = IsEasedIf (not (is_some old.state.stopped) && is_scarce most_tables old) old new

-- A store was kept up: it was settled, and eased where room was scarce then.
abbrev pub KeepsUp : ℕ → StoreView → StoreView → Type 0
KeepsUp most_tables old new = (settled : StoreView) × Settles old settled × IsEased most_tables settled new
