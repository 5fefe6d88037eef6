-- Lives of a `Db` on a device in memory.
use Rattle.std.specs.Prelude.{◌≡◌, ◌≤◌, ◌+◌, ◌++◌, ℕ, Bool, List, [], ◌∷◌, map, Option, Some, None, vec_len, vec_capacity}
use Rattle.std.specs.declared.vec.Vec.{Vec}
use Rattle.std.specs.Global.{Global}
use Rattle.lsm_device.specs.Medium.{Medium, KeepsFuse, disk, crashed, zeroed}
use Rattle.lsm_device.specs.Outcomes.{Leaves}
use Rattle.lsm_device.specs.declared.refusal.Refusal.TheVariants.{Stopped}
use Rattle.lsm_root.specs.CrashState.{formatted}
use Rattle.lsm_open.specs.Image.{StandFor}
use Rattle.lsm_store.specs.Backing.{StoreView}
use Rattle.lsm_machine.specs.Calls.{Call, Reply}
use Rattle.lsm_machine.specs.Calls.{Commit, CommitIf, Rotate, Number, Done, Refused}
use Rattle.lsm_machine.specs.RecoveryPoints.{batch_count}
use Rattle.lsm_store.specs.Serving.{Serves}
use Rattle.lsm_upkeep.specs.Steps.{IsUpkept}
use Rattle.lsm_upkeep.specs.Writing.{Writes}
use Rattle.lsm_lives.specs.Leading.{BeginsOn, FailsOn, with_fuse}
use Rattle.lsm_lives.specs.declared.calls.Reply.{Reply as GivenReply}
use Rattle.corwaphi_lives.specs.Calls.{calls_of}
use Rattle.corwaphi_lives.specs.declared.calls.DbLife.{DbLife}

-- what a life is asked to be
pub record LifeView : Type 0 where
  pub fuse : Option ℕ
  pub calls : List (Option Call)
  pub mask : List Bool

abbrev pub life_of : DbLife → LifeView
life_of life = record { fuse = life.fuse; calls = calls_of life; mask = life.mask.items }

-- What one call does, and what is told of it. A compact is upkeep, and a write is one after upkeep; any other is the store's. A `Db` is not
-- asked to rotate.
abbrev pub Does : StoreView → Option Call → Reply → StoreView → Type 0
Does old None told new = IsUpkept old new × (told ≡ Done)
Does old (Some (Commit batch)) told new = Writes None batch old told new
Does old (Some (CommitIf guards batch)) told new = Writes (Some guards) batch old told new
Does old (Some Rotate) told new = ⊥
Does old (Some call) told new = Serves old call told new

-- so do calls one after another
abbrev pub DoesEach : StoreView → List (Option Call) → List Reply → StoreView → Type 0
DoesEach old [] [] new = new ≡ old
DoesEach old (call ∷ calls) (told ∷ rest) new = (mid : StoreView) × Does old call told mid × DoesEach mid calls rest new
DoesEach old calls told new = ⊥

-- After what was told comes more, that of these calls.
pub record AddsReplies (old : StoreView) (calls : List (Option Call)) (before after : List Reply) (new : StoreView) : Type 0 where
  pub more : List Reply
  pub added : after ≡ before ++ more
  pub does : DoesEach old calls more new

-- An opening of the device answered a store, which then was readied by upkeep.
abbrev pub BeginsDb : Medium → StoreView → Type 0
BeginsDb before ready = (opened : StoreView) × BeginsOn before opened × IsUpkept opened ready

-- A life until its crash. The store was opened and readied, and made the calls; or its opening was refused, and then no call touched the
-- device.
abbrev pub IsLed : Medium → List (Option Call) → List Reply → Medium → Type 0
IsLed before calls (Number n ∷ told) after = (ready : StoreView) × BeginsDb before ready × (n ≡ batch_count ready.state.points)
    × (end : StoreView) × DoesEach ready calls told end × (after ≡ end.device)
IsLed before calls (Refused e ∷ told) after = FailsOn before e after × (told ≡ map (λ _. Refused Stopped) calls)
IsLed before calls told after = ⊥

-- A life on a device: its fuse is set, it is led, and the device crashes by its mask. With a fuse of n at most n of its writes and syncs
-- answered Ok, those of upkeep among them.
pub record LeadsTo (life : LifeView) (before : Medium) (told : List Reply) (after : Medium) : Type 0 where
  pub end : Medium
  pub led : IsLed (with_fuse life.fuse before) life.calls told end
  pub fuse : KeepsFuse life.fuse end.calls
  pub crash : after ≡ crashed life.mask end

-- Lives one after another, each on the device as the crash before it left it.
abbrev pub AreLed : List LifeView → Medium → List (List Reply) → Medium → Type 0
AreLed [] before [] after = after ≡ before
AreLed (life ∷ lives) before (told ∷ rest) after = (mid : Medium) × LeadsTo life before told mid × AreLed lives mid rest after
AreLed lives before told after = ⊥

-- They were led on a device in memory of `sectors` sectors, which then was left so. At first every crash of it left what a format leaves,
-- and no fuse and no failing call was set.
pub record AreLedOn (sectors log_sectors : ℕ) (lives : List LifeView) (told : List (List Reply)) (after : Medium) : Type 0 where
  pub device : Medium
  pub size : device.size ≡ sectors
  pub lasting : device.lasting ≡ (zeroed sectors).lasting
  pub leaves : Leaves (StandFor log_sectors formatted) (disk device)
  pub led : AreLed lives device told after

-- there is a place for each reply of each life, and none is taken
abbrev pub HavePlaces : List DbLife → List (Vec (GivenReply Global) Global) → Type 0
HavePlaces [] [] = Unit {0}
HavePlaces (life ∷ lives) (place ∷ places) = (place.items ≡ []) × (vec_len life.calls + 1 ≤ vec_capacity place) × HavePlaces lives places
HavePlaces lives places = ⊥
