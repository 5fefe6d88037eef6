-- What a commit does that finds room.
use Rattle.std.specs.Prelude.{ℕ, ◌≤◌, ◌≡◌, ◌≢◌, ◌⊎◌, ◌||◌, Bool, true, false, is_some, nat_lt, length, sum_by, List, [], Option, Some, None}
use Rattle.std.specs.List.{list_any}
use Rattle.lsm_codec.specs.Guards.{Condition}
use Rattle.lsm_codec.specs.Map.{Operation}
use Rattle.lsm_device.specs.declared.refusal.Refusal.TheVariants.{LogFull, NoSpace}
use Rattle.lsm_extent.specs.Area.{free_count}
use Rattle.lsm_levels.specs.Moving.{table_count}
use Rattle.lsm_mem.specs.EntryOrder.{with_batch}
use Rattle.lsm_mem.specs.Sizes.{bytes_of, up_to_64_bits}
use Rattle.lsm_mem.specs.declared.size.MemSize.{MemSize}
use Rattle.lsm_policy.specs.Room.{taken_blocks}
use Rattle.lsm_room.specs.Crowding.{IsCrowded, blocks_for}
use Rattle.lsm_room.specs.Flushes.{LeaveFree}
use Rattle.lsm_store.specs.Backing.{StoreView}
use Rattle.lsm_machine.specs.Calls.{Call, Reply, Commit, CommitIf, Number, Refused}
use Rattle.lsm_store.specs.Serving.{Serves, reply_in}
use Rattle.lsm_machine.specs.State.{State}
use Rattle.lsm_machine.specs.Work.{WorkView}
use Rattle.lsm_upkeep.specs.Flushing.{BeginsLogAmid, IsMadeReady}
use Rattle.lsm_upkeep.specs.Steps.{IsUpkept}

-- the call that commits a batch, where guards are given under them
abbrev pub commit_of : Option (List Condition) → List Operation → Call
commit_of None batch = Commit batch
commit_of (Some guards) batch = CommitIf guards batch

-- the store served a call, and this is told of its reply
abbrev pub IsServed : Call → StoreView → Reply → StoreView → Type 0
IsServed call old told new = Serves old call (reply_in call new.state told) new

-- whether a batch puts a value
abbrev pub has_puts : List Operation → Bool
has_puts batch = list_any (λ operation. is_some operation.value) batch

-- whether a snapshot is live
abbrev pub is_live : State → Bool
is_live s = nat_lt 0 (length s.snapshots)

-- whether a batch may be refused for want of room in tables: it puts a value, or a snapshot keeps what it deletes
abbrev pub wants_room : List Operation → State → Bool
wants_room batch s = has_puts batch || is_live s

-- what is told in place of a reply: NoSpace for LogFull
abbrev pub without_log_full : Reply → Reply
without_log_full (Refused LogFull) = Refused NoSpace
without_log_full other = other

-- Few blocks are free besides the tables for this number more, or the tables are many.
abbrev pub IsCrowdedIn : WorkView → ℕ → Type 0
IsCrowdedIn w blocks = IsCrowded (taken_blocks w.levels) (free_count w.area) (table_count w.levels) blocks

-- if the memtable is empty and none waits for its flush, a store is crowded for a batch
abbrev pub LacksRoom : List Operation → StoreView → Type 0
LacksRoom batch s = s.work.memory ≡ [] → s.work.sealed ≡ [] → IsCrowdedIn s.work (blocks_for (sum_by bytes_of batch) (length batch))

-- A size covers no more than another one.
pub record IsWithin (size most : MemSize) : Type 0 where
  pub entries : up_to_64_bits size.entries ≤ most.entries
  pub bytes : up_to_64_bits size.bytes ≤ most.bytes
  pub largest : size.largest ≤ most.largest

-- Flushes of what waits for one and of memory with a batch leave a hundred blocks free.
abbrev pub FlushesFit : List Operation → StoreView → Type 0
FlushesFit batch s = (number : ℕ) → LeaveFree 100 (free_count s.work.area) (is_live s.state) s.work.sealed (with_batch number batch s.work.memory)

-- so it is in a store that runs
abbrev pub HasRoom : List Operation → StoreView → Type 0
HasRoom batch s = is_some s.state.stopped ≡ false → FlushesFit batch s

-- and if a batch puts a value or a snapshot is live
abbrev pub HasRoomFor : List Operation → StoreView → Type 0
HasRoomFor batch s = is_some s.state.stopped ≡ false → wants_room batch s.state ≡ true → FlushesFit batch s

-- A batch that wants room found none: what was in memory was flushed, and a log begun, or that was tried at least, and then the store was
-- crowded.
pub record FindsNoRoom (batch : List Operation) (old kept : StoreView) : Type 0 where
  pub wants : wants_room batch kept.state ≡ true
  pub begins : BeginsLogAmid old kept
  pub lacks : LacksRoom batch kept

-- how a commit ended: the store served it, or it was refused since it found no room in tables
abbrev pub EndsWith : Option (List Condition) → List Operation → StoreView → StoreView → Reply → StoreView → Type 0
EndsWith guards batch old kept told new = ((reply : Reply) × IsServed (commit_of guards batch) kept reply new × (told ≡ without_log_full reply))
    ⊎ ((told ≡ Refused NoSpace) × FindsNoRoom batch old kept × (new ≡ kept))

-- The store was made ready for a commit, which is upkeep, and served it then; or there was no room for its batch, and that is told. What is
-- committed has room.
pub record Writes (guards : Option (List Condition)) (batch : List Operation) (old : StoreView) (told : Reply) (new : StoreView) : Type 0 where
  pub kept : StoreView
  pub upkeep : IsUpkept old kept
  pub ready : IsMadeReady old kept
  pub ends : EndsWith guards batch old kept told new
  -- that the log is full is never told
  pub room : told ≢ Refused LogFull
  pub fits : (n : ℕ) → told ≡ Number n → HasRoomFor batch kept
