-- Writes that are gathered in memory, and committed later as one batch.
use Rattle.std.specs.Prelude.{◌≡◌, ◌⊎◌, ℕ, List, [], ◌∷◌, ◌++◌, Option, Some, None, Bool, true, false, Result, Ok, Err, if◌then◌else◌}
use Rattle.std.specs.FinMap as finite
use Rattle.lsm_codec.specs.Keys.{Bytes}
use Rattle.lsm_codec.specs.Map.{Map, Operation, apply}
use Rattle.lsm_codec.specs.Versions.{is_same_key}
use Rattle.lsm_device.specs.declared.refusal.Refusal.{Refusal}
use Rattle.lsm_device.specs.declared.refusal.Refusal.TheVariants.{NoMemory, BatchTooBig}
use Rattle.lsm_machine.specs.Calls.{Reply, Number, Sync, Refused}
use Rattle.lsm_machine.specs.RecoveryPoints.{batch_count, present_map}
use Rattle.lsm_store.specs.Backing.{StoreView}
use Rattle.lsm_store.specs.Serving.{Serves}
use Rattle.lsm_upkeep.specs.Writing.{Writes}

-- a store, and the operations that wait for their commit
pub record Buffered : Type 0 where
  pub store : StoreView
  pub waiting : List Operation

-- the operations of a batch, where there is one
abbrev pub operations_of : Option (List Operation) → List Operation
operations_of (Some operations) = operations
operations_of None = []

-- ---- writes

-- An operation waits now: after those that did; or these were committed, and it waits alone.
abbrev pub Buffers : Operation → Buffered → Buffered → Type 0
Buffers operation old new = ((new.store ≡ old.store) × (new.waiting ≡ old.waiting ++ operation ∷ []))
    ⊎ ((number : ℕ) × Writes None old.waiting old.store (Number number) new.store × (new.waiting ≡ operation ∷ []))

-- It doesn't wait. It is refused so itself, or memory is wanting, and nothing was done; or so was the commit of those that wait, which wait
-- still.
abbrev pub IsNotBuffered : Option Refusal → Refusal → Buffered → Buffered → Type 0
IsNotBuffered refusal e old new = (((refusal ≡ Some e) ⊎ (e ≡ NoMemory)) × (new ≡ old))
    ⊎ ((refusal ≡ None) × Writes None old.waiting old.store (Refused e) new.store × (new.waiting ≡ old.waiting))

-- what waits after a commit: after a refusal what waited before
abbrev pub left_waiting : Reply → List Operation → List Operation
left_waiting (Refused e) waiting = waiting
left_waiting told waiting = []

-- What waits was committed, and this was told; or nothing waits, and the number of the last batch was told.
abbrev pub Commits : Buffered → Reply → Buffered → Type 0
Commits old told new = ((old.waiting ≡ []) × (told ≡ Number (batch_count old.store.state.points)) × (new ≡ old))
    ⊎ (Writes None old.waiting old.store told new.store × (new.waiting ≡ left_waiting told old.waiting))

-- What waits was committed, and then the store was synced; or the commit was refused.
abbrev pub Syncs : Buffered → Reply → Buffered → Type 0
Syncs old told new = ((e : Refusal) × (told ≡ Refused e) × Commits old (Refused e) new)
    ⊎ ((number : ℕ) × (mid : Buffered) × Commits old (Number number) mid × Serves mid.store Sync told new.store × (new.waiting ≡ mid.waiting))

-- ---- reads

-- of some operations and one before them the last on a key
abbrev pub later_on : Bytes → Option Operation → List Operation → Option Operation
later_on key found [] = found
later_on key found (operation ∷ rest) = later_on key (if is_same_key key operation.key then Some operation else found) rest

-- the last of some operations on a key
abbrev pub last_on : Bytes → List Operation → Option Operation
last_on key operations = later_on key None operations

-- the value that an operation leaves under its key, and without one this
abbrev pub value_of : Option Bytes → Option Operation → Option Bytes
value_of before (Some operation) = operation.value
value_of before None = before

-- ---- one map

-- the map with what waits
abbrev pub buffered_map : Buffered → Map
buffered_map b = apply (present_map b.store.state.points) b.waiting

-- A write changes this map by its operation, a commit doesn't change it, be it refused or not, and a read gives what it has.
pub record BufferLaw : Type 0 where
  pub written : (operation : Operation) (old new : Buffered) → Buffers operation old new → buffered_map new ≡ apply (buffered_map old) (operation ∷ [])
  pub not_written : (refusal : Option Refusal) (e : Refusal) (old new : Buffered) → IsNotBuffered refusal e old new → buffered_map new ≡ buffered_map old
  pub committed : (number : ℕ) (old new : Buffered) → Commits old (Number number) new → buffered_map new ≡ buffered_map old
  pub refused : (e : Refusal) (old new : Buffered) → Commits old (Refused e) new → buffered_map new ≡ buffered_map old
  pub read : (b : Buffered) (key : Bytes) → finite.get (buffered_map b) key ≡ value_of (finite.get (present_map b.store.state.points) key) (last_on key b.waiting)

-- ---- a batch that gathers

-- whether an operation was added: want of room in the batch is no refusal
abbrev pub taken : Result (Unit {0}) Refusal → Result Bool Refusal
taken (Ok done) = Ok true
taken (Err BatchTooBig) = Ok false
taken (Err e) = Err e

-- An operation comes after the others now, or nothing has changed; it is refused for what it is, or for want of memory.
abbrev pub Takes : Option Refusal → Operation → List Operation → Result Bool Refusal → List Operation → Type 0
Takes refusal operation old (Ok true) new = new ≡ old ++ operation ∷ []
Takes refusal operation old (Ok false) new = new ≡ old
Takes refusal operation old (Err e) new = ((refusal ≡ Some e) ⊎ (e ≡ NoMemory)) × (new ≡ old)
