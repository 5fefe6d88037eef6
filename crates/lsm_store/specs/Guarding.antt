-- What it comes to that guards are asked.
use Rattle.std.specs.Prelude.{◌≡◌, ◌⊎◌, ◌<◌, ℕ, suc, ◌+◌, Bool, true, false, List, [], ◌∷◌, length, Option, Some, None, Result, Ok, Err, MatchResult}
use Rattle.lsm_codec.specs.Guards.{Condition}
use Rattle.lsm_codec.specs.Map.{Map, Operation}
use Rattle.lsm_codec.specs.Versions.{Version}
use Rattle.lsm_device.specs.declared.refusal.Refusal.{Refusal}
use Rattle.lsm_device.specs.declared.refusal.Refusal.TheVariants.{Io, BadTable, GuardFailed}
use Rattle.lsm_levels.specs.Asking.{Source}
use Rattle.lsm_levels.specs.Levels.{places}
use Rattle.lsm_levels.specs.Lookups.{IsTest}
use Rattle.lsm_levels.specs.Tables.{Table}
use Rattle.lsm_store.specs.Backing.{StoreView, data_start}
use Rattle.lsm_machine.specs.Calls.{Commit, Number, reply_of}
use Rattle.lsm_store.specs.Reading.{source_of}
use Rattle.lsm_machine.specs.RecoveryPoints.{batch_count}
use Rattle.lsm_machine.specs.Refusals.{first_refusal, guard_refusals}
use Rattle.lsm_store.specs.Serving.{Serves}

-- after a guard of this place that was tested so, asking goes on, or ends with a refusal
abbrev pub GoesOnBy : Result Bool Refusal → ℕ → Option Refusal → Source → Source → Type 0 → Type 0
GoesOnBy (Ok true) place refusal mid new goes_on = goes_on
GoesOnBy (Ok false) place refusal mid new goes_on = (refusal ≡ Some (GuardFailed place)) × (new ≡ mid)
GoesOnBy (Err e) place refusal mid new goes_on = (refusal ≡ Some e) × (new ≡ mid)

-- Guards are asked in their order, the first of which has this place, each by a test at a count of batches, none after one that
-- is false or whose test fails.
abbrev pub AsksGuards : List Version → List Version → List (List Table) → ℕ → ℕ → ℕ → List Condition → Option Refusal → Source → Source → Type 0
AsksGuards memory sealed runs area n place [] refusal old new = (refusal ≡ None) × (new ≡ old)
AsksGuards memory sealed runs area n place (guard ∷ rest) refusal old new =
    (met : Result Bool Refusal) × (mid : Source) × IsTest memory sealed runs area guard n met old mid × GoesOnBy met place refusal mid new (AsksGuards memory sealed runs area n (suc place) rest refusal mid new)

-- They are answered as the map meets them, unless a read faults.
abbrev pub AnswersGuards : ℕ → Map → List Condition → Result (Unit {0}) Refusal → Type 0
AnswersGuards place m guards result = MatchResult result
    (λ _. first_refusal (guard_refusals place m guards) ≡ None)
    (λ e. (e ≡ Io) ⊎ (first_refusal (guard_refusals place m guards) ≡ Some e))

-- with which refusals asking `count` guards may end, the first of which has this place
abbrev pub MayEndGuards : ℕ → ℕ → Refusal → Type 0
MayEndGuards place count e = (e ≡ Io) ⊎ ((e ≡ BadTable) ⊎ ((n : ℕ) × (n < count) × (e ≡ GuardFailed (place + n))))

-- a store, once a read has left its cache and its device so
abbrev pub with_source : StoreView → Source → StoreView
with_source s source = record s { device = source.medium; cache = source.cache }

-- A commit under guards asks them at the present count of batches. Where that ends with a refusal, it is refused so, and nothing
-- else changed; else it is a commit of the batch.
pub record AsksThenCommits (old : StoreView) (guards : List Condition) (batch : List Operation) (result : Result ℕ Refusal) (new : StoreView) : Type 0 where
  pub ends : Option Refusal
  pub mid : Source
  pub asks : AsksGuards old.work.memory old.work.sealed (places old.work.levels) (data_start old) (batch_count old.state.points) 0 guards ends (source_of old) mid
  pub refused : (e : Refusal) → ends ≡ Some e → (result ≡ Err e) × (new ≡ with_source old mid)
  pub commits : ends ≡ None → Serves (with_source old mid) (Commit batch) (reply_of Number result) new
