-- What a storm leaves, and what is counted of it.
use Rattle.std.specs.Prelude.{◌≡◌, ◌⊎◌, ℕ, ◌+◌, ◌&&◌, Bool, true, false, not, List, [], ◌∷◌, length, if◌then◌else◌}
use Rattle.std.specs.FinMap as finite
use Rattle.lsm_device.specs.declared.refusal.Refusal.{Refusal}
use Rattle.lsm_device.specs.declared.refusal.Refusal.TheVariants.{NoMemory, Io, Stopped, BadLimit}
use Rattle.lsm_root.specs.CrashState.{formatted as empty_store}
use Rattle.lsm_lives.specs.Leading.{HasNewCache}
use Rattle.lsm_store.specs.Backing.{StoreView, IsBacked}
use Rattle.lsm_machine.specs.Calls.{Commit, CommitIf}
use Rattle.lsm_machine.specs.Crash.{reopened}
use Rattle.lsm_machine.specs.Machine.{Step, Called}
use Rattle.lsm_machine.specs.RecoveryPoints.{batch_count, present_map}
use Rattle.lsm_trail.specs.Begins.{Begin}
use Rattle.lsm_trail.specs.Entries.{is_number, told_in}
use Rattle.lsm_trail.specs.History.{Event, TrailView, is_call}
use Rattle.lsm_trail.specs.Knowledge.{Known}
use Rattle.lsm_shared.specs.Sessions.{IsEnded}
use Rattle.lsm_storm.specs.declared.counts.Counts.{Counts}

-- ---- what is counted

abbrev pub is_commit : Step → Bool
is_commit (Called (Commit batch)) = true
is_commit (Called (CommitIf guards batch)) = true
is_commit other = false

-- whether an entry is a commit that was answered with a number
abbrev pub is_accepted : Event → Bool
is_accepted e = is_commit e.step && is_number (told_in e.reply e.result)

-- how many entries are such commits
abbrev pub accepted_in : List Event → ℕ
accepted_in [] = 0
accepted_in (e ∷ log) = (if is_accepted e then 1 else 0) + accepted_in log

-- whether an entry is a piece of work
abbrev pub is_piece : Event → Bool
is_piece e = not (is_call e.step)

-- how many entries are pieces of work
abbrev pub pieces_in : List Event → ℕ
pieces_in [] = 0
pieces_in (e ∷ log) = (if is_piece e then 1 else 0) + pieces_in log

-- the keys of the present map of a store
abbrev pub keys_in : StoreView → ℕ
keys_in store = length (finite.entries (present_map store.state.points))

-- ---- what is refused

-- the refusals of a session on a fresh store, on a device that fails only where there is no memory for a write
abbrev pub IsSessionRefusal : Refusal → Type 0
IsSessionRefusal NoMemory = Unit {0}
IsSessionRefusal Io = Unit {0}
IsSessionRefusal Stopped = Unit {0}
IsSessionRefusal other = ⊥

-- those of a storm, which counts rows page by page, up to a limit
abbrev pub IsStormRefusal : Refusal → Type 0
IsStormRefusal e = (e ≡ BadLimit) ⊎ IsSessionRefusal e

-- ---- what is left

-- A store was just formatted and opened, in log regions of 2,048 sectors, and its cache is new. Its device backs it.
pub record IsFresh (store : StoreView) : Type 0 where
  pub state : store.state ≡ reopened 2048 empty_store
  pub backed : IsBacked store
  pub cache : HasNewCache store

-- A session begins with such a store, `threads` clients and workers, and 65,536 places in its trail.
pub record IsFreshBegin (threads : ℕ) (b : Begin) : Type 0 where
  pub fresh : IsFresh b.store
  pub clients : b.clients ≡ threads
  pub limit : b.limit ≡ 65536

-- A session with this begin has ended.
pub record HasEnded (b : Begin) (store : StoreView) (trail : TrailView) : Type 0 where
  pub clients : List Known
  pub ended : IsEnded b clients store trail

-- A session that began with a fresh store has ended.
pub record HasEndedFresh (threads : ℕ) (store : StoreView) (trail : TrailView) : Type 0 where
  pub begin : Begin
  pub fresh : IsFreshBegin threads begin
  pub ended : HasEnded begin store trail

-- `threads` clients and workers shared a fresh store in a session that has ended: these are the commits in its trail that
-- returned a number, as many as the batches of the store, the keys of its map, and the pieces of work in the trail.
pub record HasStormed (threads : ℕ) (counts : Counts) : Type 0 where
  pub store : StoreView
  pub trail : TrailView
  pub ended : HasEndedFresh threads store trail
  pub commits : counts.commits ≡ accepted_in trail.log
  pub batches : counts.batches ≡ batch_count store.state.points
  pub rows : counts.rows ≡ keys_in store
  pub pieces : counts.pieces ≡ pieces_in trail.log
