-- How a job is taken and finished.
use Rattle.std.specs.Prelude.{◌≡◌, ◌≤◌, ◌⊎◌, ℕ, zero, suc, List, Option, Some, None}
use Rattle.lsm_codec.specs.Keys.{Bytes}
use Rattle.lsm_device.specs.declared.refusal.Refusal.{Refusal}
use Rattle.lsm_store.specs.Backing.{StoreView}
use Rattle.lsm_levels.specs.declared.choosing.Choice.{Choice}
use Rattle.lsm_machine.specs.Calls.{Reply, Number, Done, Given, Refused}
use Rattle.lsm_machine.specs.Work.{Work, Take, Read, Write, Install, Drop}
use Rattle.lsm_store.specs.Merging.{IsMerged, RefusesMerge}
use Rattle.lsm_store.specs.Working.{Works}

-- a piece of work was refused
abbrev pub IsRefused : Work → StoreView → StoreView → Type 0
IsRefused piece old new = (e : Refusal) × Works old piece (Refused e) new

-- ---- pieces that are done until no block is left

-- n times a piece of work left some blocks
abbrev pub LeavesBlocksEachTime : Work → ℕ → StoreView → StoreView → Type 0
LeavesBlocksEachTime piece zero old new = new ≡ old
LeavesBlocksEachTime piece (suc n) old new = (mid : StoreView) × LeavesBlocksEachTime piece n old mid × (left : ℕ) × Works mid piece (Number (suc left)) new

-- A piece of work was done again and again, as long as it left some blocks, and the last time it left `left`.
pub record HasLeft (piece : Work) (left : ℕ) (old new : StoreView) : Type 0 where
  pub count : ℕ
  pub last : StoreView
  pub some : LeavesBlocksEachTime piece count old last
  pub told : Works last piece (Number left) new

-- it was done until none was left
abbrev pub GoesThrough : Work → StoreView → StoreView → Type 0
GoesThrough piece old new = HasLeft piece 0 old new

-- it was refused, the first time or a later one
abbrev pub IsStopped : Work → StoreView → StoreView → Type 0
IsStopped piece old new = (count : ℕ) × (last : StoreView) × LeavesBlocksEachTime piece count old last × IsRefused piece last new

-- it left as many blocks as the time before, or more
abbrev pub LeavesNoFewer : Work → StoreView → StoreView → Type 0
LeavesNoFewer piece old new = (mid : StoreView) × (before now : ℕ) × HasLeft piece (suc before) old mid × Works mid piece (Number now) new × (suc before ≤ now)

-- it didn't get through
abbrev pub DoesNotGoThrough : Work → StoreView → StoreView → Type 0
DoesNotGoThrough piece old new = IsStopped piece old new ⊎ LeavesNoFewer piece old new

-- ---- one job

-- what a job merges was read: a flush has it at once
abbrev pub IsReadWhole : ℕ → Option ℕ → StoreView → StoreView → Type 0
IsReadWhole job None old new = new ≡ old
IsReadWhole job (Some level) old new = GoesThrough (Read job) old new

-- that was not read to the end
abbrev pub IsUnread : ℕ → Option ℕ → StoreView → StoreView → Type 0
IsUnread job None old new = ⊥
IsUnread job (Some level) old new = DoesNotGoThrough (Read job) old new

-- a result of the job was made and answered so, wherever it is divided
abbrev pub IsOffered : ℕ → Reply → StoreView → StoreView → Type 0
IsOffered job reply old new = (divisions : List Bytes) × IsMerged job divisions reply old new

-- no result of it was accepted
abbrev pub IsUnmerged : ℕ → StoreView → StoreView → Type 0
IsUnmerged job old new = (divisions : List Bytes) × (refusal : Refusal) × RefusesMerge job divisions refusal old new

-- A job was read, its result was accepted, its outputs were written, and they were installed.
pub record IsFinished (job : ℕ) (level : Option ℕ) (old new : StoreView) : Type 0 where
  pub whole : StoreView
  pub merged : StoreView
  pub written : StoreView
  pub reads : IsReadWhole job level old whole
  pub merges : IsOffered job Done whole merged
  pub writes : GoesThrough (Write job) merged written
  pub installs : Works written (Install job) Done new

-- a job that was read was not finished: at the merge, at the writing or at the install
abbrev pub IsUnfinished : ℕ → StoreView → StoreView → Type 0
IsUnfinished job old new = IsUnmerged job old new
    ⊎ ((merged : StoreView) × IsOffered job Done old merged
    × (DoesNotGoThrough (Write job) merged new ⊎ ((written : StoreView) × GoesThrough (Write job) merged written × IsRefused (Install job) written new)))

-- a job was done as far as it went: the piece whose turn it was didn't go on
abbrev pub IsStuck : ℕ → Option ℕ → StoreView → StoreView → Type 0
IsStuck job level old new = IsUnread job level old new ⊎ ((whole : StoreView) × IsReadWhole job level old whole × IsUnfinished job whole new)

-- ---- the job that is asked for

-- It was taken, and so it went on: the job of a choice, or where none is made the one that comes next.
pub record Taken (GoesTo : ℕ → Option ℕ → StoreView → StoreView → Type 0) (asked : Option Choice) (old new : StoreView) : Type 0 where
  pub job : ℕ
  pub level : Option ℕ
  pub begun : StoreView
  pub taken : Works old (Take asked) (Given (Some (job, level))) begun
  pub goes : GoesTo job level begun new

-- it was stuck and given up
pub record IsGivenUp (job : ℕ) (level : Option ℕ) (old new : StoreView) : Type 0 where
  pub late : StoreView
  pub reply : Reply
  pub stuck : IsStuck job level old late
  pub dropped : Works late (Drop job) reply new

-- none was given, or the taking was refused, or the job was given up
abbrev pub IsUndone : Option Choice → StoreView → StoreView → Type 0
IsUndone asked old new = Works old (Take asked) (Given None) new ⊎ (IsRefused (Take asked) old new ⊎ Taken IsGivenUp asked old new)
