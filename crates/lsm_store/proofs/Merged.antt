-- What a merge by the store itself answers.
use Rattle.std.proofs.Common.{◌≡◌, ℕ, List, Some, inr}
use Rattle.std.specs.Prelude.{Result, Ok, Err, MatchResult}
use Rattle.lsm_codec.specs.Keys.{Bytes}
use Rattle.lsm_device.specs.declared.refusal.Refusal.{Refusal}
use Rattle.lsm_merge.specs.Divisions.{AreTablesAt}
use Rattle.lsm_merge.specs.Inputs.{MergeInput, kept_of}
use Rattle.lsm_merge.specs.Results.{MergeResult}
use Rattle.lsm_machine.specs.Calls.{Done, Handed, reply_of}
use Rattle.lsm_machine.specs.Work.{Ask, Accept}
use Rattle.lsm_store.specs.Backing.{StoreView}
use Rattle.lsm_store.specs.Merging.{IsMerged, RefusesMerge}
use Rattle.lsm_store.specs.Working.{Works}

-- what holds of an error that is returned
pub refused_holds : {X E : Type 0} (Y : Type 0) (Z : E → Type 0) (r : Result X E) (e : E) → r ≡ Err e → Z e → MatchResult r (λ _. Y) Z
refused_holds Y Z r e is z = rw is z

-- what an accept answers of the result of a merge of the input that was handed out
pub merged_answered : (job : ℕ) (divisions : List Bytes) (old new : StoreView) (input : MergeInput) (result : MergeResult) (r : Result (Unit {0}) Refusal)
    → Works old (Ask job) (Handed input) old → result.input ≡ input → result.divisions ≡ divisions → AreTablesAt divisions (kept_of input) result.images
    → Works old (Accept job (Some result)) (reply_of (λ _. Done) r) new
    → MatchResult r (λ _. IsMerged job divisions Done old new) (λ refusal. RefusesMerge job divisions refusal old new)
merged_answered job divisions old new input result (Ok done) lent own divided made works =
    record { input = input; result = result; lent = lent; own = own; divided = divided; made = made; offered = works }
merged_answered job divisions old new input result (Err e) lent own divided made works =
    inr (inr (record { input = input; result = result; lent = lent; own = own; divided = divided; made = made; offered = works }))
