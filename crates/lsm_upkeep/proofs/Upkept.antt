-- Upkeep, as steps.
use Rattle.std.proofs.Common.{◌≡◌, ℕ, zero, suc, Bool, true, false, Option, Result, Ok, Err, MatchResult, List, refl, subst}
use Rattle.lsm_codec.specs.Keys.{Bytes}
use Rattle.lsm_device.specs.declared.refusal.Refusal.{Refusal}
use Rattle.lsm_levels.specs.declared.choosing.Choice.{Choice}
use Rattle.lsm_store.specs.Backing.{StoreView}
use Rattle.lsm_machine.specs.Calls.{Reply, Number, Done, Rotate}
use Rattle.lsm_machine.specs.Machine.{Step, Called, Worked}
use Rattle.lsm_store.specs.Serving.{Serves}
use Rattle.lsm_machine.specs.Work.{Work}
use Rattle.lsm_store.specs.Merging.{IsMerged, RefusesMerge}
use Rattle.lsm_store.specs.Working.{Works, ServesStep}
use Rattle.lsm_upkeep.specs.Keeping.{KeepsMap}
use Rattle.lsm_upkeep.specs.Finishing.{IsFinished, IsUndone, Taken}
use Rattle.lsm_upkeep.specs.Steps.{IsUpkeepStep, IsUpkept, UpkeepSteps}
use Rattle.lsm_upkeep.specs.Upkeep.{IsEasedIf, IsRotatedAt, OpensLog, Settles}
use Rattle.lsm_upkeep.proofs.Jobs.{Goes, jobs, offered, taken, undone, unmerged}
use Rattle.lsm_upkeep.proofs.KeptMaps.{onward, rotate_keeps, stays as stays_same, works_keep}

-- steps after steps
joined : (m n : ℕ) (old mid new : StoreView) → UpkeepSteps m old mid → UpkeepSteps n mid new → (k : ℕ) × UpkeepSteps k old new
joined zero n old mid new e more = (n, subst (λ (s : StoreView). UpkeepSteps n s new) e more)
joined (suc m) n old mid new (next, step, reply, is, serves, first) more =
    let r = joined m n next mid new first more in
    (suc r.0, (next, step, reply, is, serves, r.1))

pub then : (old mid new : StoreView) → IsUpkept old mid → IsUpkept mid new → IsUpkept old new
then old mid new first second =
    let r = joined first.count second.count old mid new first.steps second.steps in
    record { count = r.0; steps = r.1; keeps = onward old mid new first.keeps second.keeps }

pub stays : (old new : StoreView) → new ≡ old → IsUpkept old new
stays old new e = record { count = zero; steps = e; keeps = stays_same old new e }

pub one : (old new : StoreView) (step : Step) (reply : Reply) → IsUpkeepStep step reply → ServesStep old step reply new → KeepsMap old new → IsUpkept old new
one old new step reply is serves keeps = record { count = suc zero; steps = (new, step, reply, is, serves, refl); keeps = keeps }

pub works : (old new : StoreView) (piece : Work) (reply : Reply) → Works old piece reply new → IsUpkept old new
works old new piece reply w = one old new (Worked piece) reply tt w (works_keep old new piece reply w)

pub upkept_goes : Goes IsUpkept
upkept_goes = record { stays = stays; onward = then; works = works }

pub rotates : (old new : StoreView) (reply : Reply) → Serves old Rotate reply new → IsUpkept old new
rotates old new reply serves = one old new (Called Rotate) reply tt serves (rotate_keeps old new reply serves)

-- ---- jobs

pub one_more : (asked : Option Choice) (old new : StoreView) → Taken IsFinished asked old new → IsUpkept old new
one_more asked old new t = taken IsUpkept upkept_goes asked old new t

pub one_less : (asked : Option Choice) (old new : StoreView) → IsUndone asked old new → IsUpkept old new
one_less asked old new u = undone IsUpkept upkept_goes asked old new u

-- a result of a job was built and accepted, or not
pub merged : {T : Type 0} (job : ℕ) (divisions : List Bytes) (old new : StoreView) (r : Result T Refusal)
    → MatchResult r (λ _. IsMerged job divisions Done old new) (λ refusal. RefusesMerge job divisions refusal old new) → IsUpkept old new
merged job divisions old new (Ok x) is = offered IsUpkept upkept_goes job Done old new (divisions, is)
merged job divisions old new (Err e) is = unmerged IsUpkept upkept_goes job old new (divisions, e, is)

-- one that was asked for, finished or not
pub asked_for : (asked : Option Choice) (done : Bool) (old new : StoreView) → (done ≡ true → Taken IsFinished asked old new) → (done ≡ false → IsUndone asked old new) → IsUpkept old new
asked_for asked true old new finished failed = one_more asked old new (finished refl)
asked_for asked false old new finished failed = one_less asked old new (failed refl)

-- ---- a store that is settled and kept up

pub opens : (old new : StoreView) → OpensLog old new → IsUpkept old new
opens old new o = by o.room o.rotated
  where
    by : (room : Reply) → IsRotatedAt room old new → IsUpkept old new
    by (Number zero) (reply, serves) = rotates old new reply serves
    by other e = stays old new e

pub settles : (old new : StoreView) → Settles old new → IsUpkept old new
settles old new (mid, finished, o) = then old mid new (jobs IsUpkept upkept_goes 64 old mid finished) (opens mid new o)

pub eased_if : (b : Bool) (old new : StoreView) → IsEasedIf b old new → IsUpkept old new
eased_if true old new u = u
eased_if false old new e = stays old new e
