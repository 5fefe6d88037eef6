-- Sessions: the value that the lock guards, what a hold of the lock does, how a session begins and how it ends.
use Rattle.std.specs.Prelude.{◌≡◌, ℕ, ◌<◌, ◌≤◌, nat_lt, ◌||◌, ◌==◌, Bool, is_some, IsNone, if◌then◌else◌, List, [], ◌∷◌, ◌++◌, length, Option, Some}
use mathlib.Core.List.{IsPrefix}
use Rattle.atomic_table.specs.declared.shared.Seat.{Seat}
use Rattle.lsm_device.specs.declared.refusal.Refusal.{Refusal}
use Rattle.lsm_device.specs.declared.refusal.Refusal.TheVariants.{NoMemory, Stopped, TrailFull, NotYours, BadLimit, TooManyClients}
use Rattle.lsm_device.specs.Medium.{Medium}
use Rattle.lsm_store.specs.Backing.{StoreView, machine_of, IsBacked}
use Rattle.lsm_machine.specs.Calls.{Call, Reply}
use Rattle.lsm_machine.specs.Calls.{Snapshot, Release, Refused, Value, Rows, as_told}
use Rattle.lsm_machine.specs.Effects.{after}
use Rattle.lsm_machine.specs.Machine.{Step}
use Rattle.lsm_machine.specs.Refusals.{refusals, first_refusal}
use Rattle.lsm_machine.specs.Run.{Allows, Admits}
use Rattle.lsm_store.specs.Serving.{Serves}
use Rattle.lsm_machine.specs.State.{State}
use Rattle.lsm_store.specs.Working.{ServesStep}
use Rattle.lsm_lives.specs.Asked.{Told, Replied}
use Rattle.lsm_lives.specs.Replaying.{faults_told}
use Rattle.lsm_trail.specs.Begins.{Begin, base_of, first_machine, CanPin}
use Rattle.lsm_trail.specs.History.{Event, event, called, replies_of, inputs_of, calls_in, IsLegal, machine_after, state_after, entries_by, TrailView}
use Rattle.lsm_trail.specs.Knowledge.{SessionId, Known, View, known, keeper_of, IsKeeperPass}
use Rattle.lsm_shared.specs.Clients.{AgreesWith, entries_made}

-- ---- a begin

-- the refusals of a begin in their order, each with its condition; the last are those of a snapshot, the base
abbrev pub begin_refusals : State → ℕ → ℕ → List (Bool × Refusal)
begin_refusals s clients limit =
    (is_some s.stopped, Stopped)
    ∷ (clients == 0 || nat_lt 64 clients, TooManyClients)
    ∷ (limit == 0 || nat_lt 65536 limit, BadLimit)
    ∷ refusals s Snapshot

-- the refusal of a begin that its arguments decide, if they do
abbrev pub begin_refusal : State → ℕ → ℕ → Option Refusal
begin_refusal s clients limit = first_refusal (begin_refusals s clients limit)

-- with what a session begins
abbrev pub begin_with : StoreView → ℕ → ℕ → Begin
begin_with store clients limit = record { store = store; limit = limit; clients = clients }

-- The base is pinned: this is its number, and the store is the machine in which the history begins, which the device backs
-- where it did at the begin. The device was not used.
pub record IsPinned (b : Begin) (base : ℕ) (store : StoreView) : Type 0 where
  pub could : CanPin b
  pub number : base ≡ base_of b
  pub machine : machine_of store ≡ first_machine b
  pub backed : IsBacked b.store → IsBacked store
  pub unused : store.device ≡ b.store.device

-- ---- the value that the lock guards

-- What contracts see of the value that the lock guards: the store, and the history.
pub record SessionView : Type 0 where
  pub store : StoreView
  pub log : List Event

-- What holds of the history that it keeps: the trail is one legal history from the begin, the lock's pass has just that history,
-- so that the words tell its numbers, `calls` of its entries are calls, and `builds` are builds that were lent an input.
pub record IsHistory (id : SessionId) (trail : TrailView) (keeper : Seat Event View) (calls builds : ℕ) : Type 0 where
  pub pass : IsKeeperPass id trail.log keeper
  pub dealt : (keeper_of keeper).dealt ≡ id.begin.clients
  pub legal : IsLegal id.begin trail.log
  pub limit : trail.limit ≡ id.begin.limit
  pub room : length trail.log ≤ trail.limit
  pub small : trail.limit ≤ 65536
  pub calls_are : calls ≡ calls_in trail.log
  pub builds_are : builds ≡ length (inputs_of trail.log)

-- A device after replies of its store: it had a fault for each of them that tells of one, and no other, and its size and what lasts
-- are as before.
pub record IsDeviceAfter (before : Medium) (replies : List Reply) (after : Medium) : Type 0 where
  pub faults : after.calls.faults ≡ faults_told replies before.calls.faults
  pub same_size : after.size ≡ before.size
  pub same_lasting : after.lasting ≡ before.lasting

-- What holds of it whenever the lock is free: it knows the number of the base, the history is legal, and the store is the
-- machine after it, which the device backs where it did at the begin. The device had just the faults that the history tells.
pub record IsSession (id : SessionId) (base : ℕ) (store : StoreView) (log : List Event) : Type 0 where
  pub number : base ≡ base_of id.begin
  pub legal : IsLegal id.begin log
  pub machine : machine_of store ≡ machine_after id.begin log
  pub backed : IsBacked id.begin.store → IsBacked store
  pub device : IsDeviceAfter id.begin.store.device (replies_of log) store.device
  pub room : length log ≤ id.begin.limit

-- ---- what a hold of the lock does

-- What a client knew of this history is true.
pub record Knows (b : Begin) (log : List Event) (c : Known) : Type 0 where
  pub begin : c.begin ≡ b
  pub seen : IsPrefix c.seen log
  pub own : entries_by c.number log ≡ c.mine

-- What a hold of the lock finds: one legal history, and the store is the machine after it, which the device backs where it did at
-- the begin. What the client knew of the history is true.
pub record Finds (id : SessionId) (old : SessionView) (c : Known) : Type 0 where
  pub legal : IsLegal id.begin old.log
  pub machine : machine_of old.store ≡ machine_after id.begin old.log
  pub backed : IsBacked id.begin.store → IsBacked old.store
  pub room : length old.log ≤ id.begin.limit
  pub knows : Knows id.begin old.log c

-- So it is, and the client has seen all of the history.
pub record HasSeen (id : SessionId) (old : SessionView) (c : Known) : Type 0 where
  pub finds : Finds id old c
  pub all : c.seen ≡ old.log

-- A hold of the lock made these entries of the client: the history is longer by just them, the store is the machine after it,
-- and the client has seen it.
pub record Enters (id : SessionId) (old : SessionView) (c : Known) (entries : List Event) (new : SessionView) (d : Known) : Type 0 where
  pub finds : Finds id old c
  pub log : new.log ≡ old.log ++ entries
  pub legal : IsLegal id.begin new.log
  pub machine : machine_of new.store ≡ machine_after id.begin new.log
  pub backed : IsBacked id.begin.store → IsBacked new.store
  pub room : length new.log ≤ id.begin.limit
  pub own : entries_by c.number new.log ≡ c.mine ++ entries
  pub client : d ≡ known id.begin c.number new.log (c.mine ++ entries)

-- It made one entry: the store served its step, and is the machine after it.
pub record EntersOne (id : SessionId) (old : SessionView) (c : Known) (e : Event) (new : SessionView) (d : Known) : Type 0 where
  pub enters : Enters id old c (e ∷ []) new d
  pub serves : ServesStep old.store e.step e.reply new.store
  pub machine : e.machine ≡ machine_of new.store

-- It made one entry, of this step, and told its reply.
pub record EntersStep (id : SessionId) (old : SessionView) (c : Known) (step : Step) (result : ℕ) (answer : Told) (new : SessionView) (d : Known) : Type 0 where
  pub reply : Reply
  pub told : answer ≡ Replied reply
  pub one : EntersOne id old c (event c.number step reply result (machine_of new.store)) new d

-- One hold of the lock made this call of the client, which was told this of its reply.
pub record IsMade (id : SessionId) (old : SessionView) (c : Known) (call : Call) (answer : Told) (new : SessionView) (d : Known) : Type 0 where
  pub reply : Reply
  pub told : answer ≡ Replied (as_told reply)
  pub one : EntersOne id old c (called c.number call reply (machine_of new.store)) new d

-- a reply for which memory was short: the store's, or a value or a page of which there is no second copy
abbrev pub IsLost : Reply → Type 0
IsLost (Refused NoMemory) = Unit {0}
IsLost (Value (Some value)) = Unit {0}
IsLost (Rows page) = Unit {0}
IsLost other = ⊥

-- One hold of the lock made no entry: the trail is full. All is as it was, but that the client has seen the history.
pub record IsFull (id : SessionId) (old : SessionView) (c : Known) (new : SessionView) (d : Known) : Type 0 where
  pub enters : Enters id old c [] new d
  pub full : length old.log ≡ id.begin.limit
  pub same : new ≡ old

-- One hold of the lock made no call: it was to release the base, and the trail has a place for another entry. All is as it
-- was, but that the client has seen the history.
pub record IsReserved (id : SessionId) (old : SessionView) (c : Known) (call : Call) (new : SessionView) (d : Known) : Type 0 where
  pub enters : Enters id old c [] new d
  pub room : length old.log < id.begin.limit
  pub releases : call ≡ Release (base_of id.begin)
  pub same : new ≡ old

-- One hold of the lock found no memory, in the store or for a second copy of its reply. The history and the machine are as
-- they were, and the client has seen the history.
pub record FindsNoMemory (id : SessionId) (old : SessionView) (c : Known) (call : Call) (new : SessionView) (d : Known) : Type 0 where
  pub enters : Enters id old c [] new d
  pub room : length old.log < id.begin.limit
  pub admitted : Admits old.store.state call (Refused NoMemory)
  pub allowed : IsBacked id.begin.store → Allows old.store.state call (Refused NoMemory)
  pub reply : Reply
  pub lost : IsLost reply
  pub serves : Serves old.store call reply new.store

abbrev pub IsRefused : SessionId → SessionView → Known → Call → Refusal → SessionView → Known → Type 0
IsRefused id old c call TrailFull new d = IsFull id old c new d
IsRefused id old c call NotYours new d = IsReserved id old c call new d
IsRefused id old c call NoMemory new d = FindsNoMemory id old c call new d
IsRefused id old c call other new d = ⊥

-- ---- an end

-- a state with this snapshot released; a stopped store keeps it
abbrev pub released : ℕ → State → State
released number s = if is_some s.stopped then s else after s (Release number)

-- the state of the store when a session has ended with this history: the base is released
abbrev pub ended_state : Begin → List Event → State
ended_state b log = released (base_of b) (state_after b log)

-- A session has ended: the trail is a legal history from its begin, which begins with what each client had seen and has just
-- the entries that it made, with the places that it began with, and the store is in the state after it with the base released,
-- with the work after it while it runs, which the device backs where it did at the begin. The device had a fault for each reply
-- of the trail that tells of one, and no other.
pub record IsEnded (b : Begin) (clients : List Known) (store : StoreView) (trail : TrailView) : Type 0 where
  pub legal : IsLegal b trail.log
  pub state : store.state ≡ ended_state b trail.log
  pub work : IsNone store.state.stopped → store.work ≡ (machine_after b trail.log).work
  pub backed : IsBacked b.store → IsBacked store
  pub device : IsDeviceAfter b.store.device (replies_of trail.log) store.device
  pub told : AgreesWith trail.log clients
  pub count : length trail.log ≡ entries_made clients
  pub strangers : (client : ℕ) → b.clients ≤ client → entries_by client trail.log ≡ []
  pub room : length trail.log ≤ b.limit
  pub limit : trail.limit ≡ b.limit
