-- What two clients do with a shared store, and a third one that works on its jobs, and what is found of it.
use Rattle.std.specs.Prelude.{◌≡◌, ℕ, ◌≤◌, List, [], ◌∷◌, ◌++◌, Some}
use Rattle.std.specs.FinMap as finite
use Rattle.lsm_codec.specs.Guards.{Condition}
use Rattle.lsm_codec.specs.Keys.{Bytes}
use Rattle.lsm_codec.specs.Map.{Map, Operation}
use Rattle.lsm_device.specs.Medium.{disk}
use Rattle.lsm_device.specs.Outcomes.{Leaves}
use Rattle.lsm_root.specs.CrashState.{CrashState}
use Rattle.lsm_open.specs.Image.{StandFor}
use Rattle.lsm_store.specs.Backing.{StoreView}
use Rattle.lsm_machine.specs.Calls.{Call, Reply}
use Rattle.lsm_machine.specs.Calls.{Commit, CommitIf, Sync, Number, Refused, Unread}
use Rattle.lsm_machine.specs.Machine.{Machine}
use Rattle.lsm_lives.specs.Asked.{Told, Replied}
use Rattle.lsm_trail.specs.Begins.{Begin}
use Rattle.lsm_trail.specs.History.{Event, called, entries_by, calls_in, TrailView}
use Rattle.lsm_trail.specs.Knowledge.{Known}
use Rattle.lsm_shared.specs.Sessions.{IsEnded}

-- a batch that puts one value
abbrev pub one_put : Bytes → Bytes → List Operation
one_put key value = record { key = key; value = Some value } ∷ []

-- what was told is no refusal
abbrev pub IsAnswer : Told → Type 0
IsAnswer (Replied (Refused e)) = ⊥
IsAnswer (Replied Unread) = ⊥
IsAnswer other = Unit {0}

-- one more call of the client was answered
pub record Makes (old : Known) (call : Call) (new : Known) : Type 0 where
  pub number : new.number ≡ old.number
  pub reply : Reply
  pub answered : IsAnswer (Replied reply)
  pub machine : Machine
  pub mine : new.mine ≡ old.mine ++ called old.number call reply machine ∷ []

-- these are the entries of a client that committed a batch and synced, and both were answered
pub record IsStored (client : ℕ) (batch : List Operation) (calls : List Event) : Type 0 where
  pub committed : Reply
  pub synced : Reply
  pub answered : IsAnswer (Replied committed) × IsAnswer (Replied synced)
  pub machines : Machine × Machine
  pub are : calls ≡ called client (Commit batch) committed machines.0 ∷ called client Sync synced machines.1 ∷ []

-- a client has committed a batch and synced, and made no other entry
abbrev pub HasStored : Known → List Operation → Known → Type 0
HasStored old batch new = (new.number ≡ old.number) × IsStored old.number batch new.mine

-- what was told is the number of a batch
abbrev pub IsNumbered : Told → Type 0
IsNumbered (Replied (Number n)) = Unit {0}
IsNumbered other = ⊥

-- the last entry of a client is a batch under guards, which was added
pub record HasRaised (me : Known) : Type 0 where
  pub before : List Event
  pub guards : List Condition
  pub batch : List Operation
  pub number : ℕ
  pub machine : Machine
  pub mine : me.mine ≡ before ++ called me.number (CommitIf guards batch) (Number number) machine ∷ []

-- A session has ended, and the trail has just these calls: each of two clients committed its batch and synced, and both were
-- answered, and whoever else there was made none.
pub record IsShared (b : Begin) (first second : List Operation) (store : StoreView) (trail : TrailView) : Type 0 where
  pub clients : List Known
  pub ended : IsEnded b clients store trail
  pub first_stored : IsStored 0 first (entries_by 0 trail.log)
  pub second_stored : IsStored 1 second (entries_by 1 trail.log)
  pub others : (number : ℕ) → 2 ≤ number → calls_in (entries_by number trail.log) ≡ 0

-- both values stand under their keys
abbrev pub HasBoth : (Bytes × Bytes) → (Bytes × Bytes) → Map → Type 0
HasBoth first second m = (finite.get m first.0 ≡ Some first.1) × (finite.get m second.0 ≡ Some second.1)

-- sectors stand for a map that has both values
abbrev pub StandsForBoth : (Bytes × Bytes) → (Bytes × Bytes) → List (List ℕ) → Type 0
StandsForBoth first second sectors = (left : CrashState) × HasBoth first second left.map × StandFor 128 left sectors

-- whatever a crash leaves of this store has both values
abbrev pub OutlastCrashes : (Bytes × Bytes) → (Bytes × Bytes) → StoreView → Type 0
OutlastCrashes first second store = Leaves (StandsForBoth first second) (disk store.device)
