-- With what a session begins, and its base: a snapshot that it pins from its begin to its end.
use Rattle.std.specs.Prelude.{◌≡◌, ℕ, None}
use Rattle.lsm_store.specs.Backing.{StoreView}
use Rattle.lsm_machine.specs.Calls.{Snapshot}
use Rattle.lsm_machine.specs.Effects.{after}
use Rattle.lsm_machine.specs.Machine.{Machine}
use Rattle.lsm_machine.specs.Refusals.{refusal}
use Rattle.lsm_machine.specs.State.{State, snapshot_of}

-- With what a session begins: the store, the most entries of its history, and the number of clients.
pub record Begin : Type 0 where
  pub store : StoreView
  pub limit : ℕ
  pub clients : ℕ

-- the number of the base
abbrev pub base_of : Begin → ℕ
base_of b = b.store.state.next_snapshot

-- the state in which the history begins: the base is pinned
abbrev pub first_state : Begin → State
first_state b = after b.store.state Snapshot

-- the machine in it
abbrev pub first_machine : Begin → Machine
first_machine b = record { state = first_state b; work = b.store.work }

-- The base can be pinned: the store doesn't refuse it, and its number is no live snapshot's.
pub record CanPin (b : Begin) : Type 0 where
  pub taken : refusal b.store.state Snapshot ≡ None
  pub fresh : snapshot_of b.store.state (base_of b) ≡ None
