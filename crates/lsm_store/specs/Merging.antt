-- What a merge of a job's input by the store itself is: pieces of work one after another.
use Rattle.std.specs.Prelude.{◌≡◌, ◌⊎◌, ℕ, List, Some}
use Rattle.lsm_codec.specs.Keys.{Bytes}
use Rattle.lsm_device.specs.declared.refusal.Refusal.{Refusal}
use Rattle.lsm_device.specs.declared.refusal.Refusal.TheVariants.{NoMemory}
use Rattle.lsm_merge.specs.Divisions.{AreTablesAt}
use Rattle.lsm_merge.specs.Inputs.{MergeInput, kept_of}
use Rattle.lsm_merge.specs.Results.{MergeResult}
use Rattle.lsm_machine.specs.Calls.{Reply, Handed, Refused}
use Rattle.lsm_machine.specs.Work.{Ask, Accept}
use Rattle.lsm_store.specs.Backing.{StoreView}
use Rattle.lsm_store.specs.Working.{Works}

-- The job's input was handed out, and the result of a merge of it, divided at these keys, was answered so.
pub record IsMerged (job : ℕ) (divisions : List Bytes) (reply : Reply) (old new : StoreView) : Type 0 where
  pub input : MergeInput
  pub result : MergeResult
  pub lent : Works old (Ask job) (Handed input) old
  pub own : result.input ≡ input
  pub divided : result.divisions ≡ divisions
  pub made : AreTablesAt divisions (kept_of input) result.images
  pub offered : Works old (Accept job (Some result)) reply new

-- why no result was accepted: the input was not handed out, or no memory was there to merge it, or the result was refused
abbrev pub RefusesMerge : ℕ → List Bytes → Refusal → StoreView → StoreView → Type 0
RefusesMerge job divisions refusal old new = Works old (Ask job) (Refused refusal) new
    ⊎ (((input : MergeInput) × Works old (Ask job) (Handed input) new × (refusal ≡ NoMemory)) ⊎ IsMerged job divisions (Refused refusal) old new)
