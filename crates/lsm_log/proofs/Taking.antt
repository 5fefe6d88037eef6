-- What is read after one sector more.
use Rattle.std.proofs.Common.{◌≡◌, ℕ, ◌+◌, ◌++◌, Bool, true, false, List, [], ◌∷◌, Some, sym, ◌∙◌, ap}
use Rattle.lsm_codec.specs.BatchText.{batch_of}
use Rattle.lsm_codec.specs.LogSectors.{Part, part_of}
use Rattle.lsm_codec.specs.Map.{Operation}
use Rattle.lsm_log.specs.declared.read_batches.ReadBatches.{ReadBatches}
use Rattle.lsm_log.specs.ReadSoFar.{HasEnded, HasTaken}
use Rattle.lsm_log.specs.Replay.{map_while, is_awaited, texts_from, awaited_from}
use Rattle.lsm_log.proofs.Gathering.{ends_no_batch, taken_batch}

-- the last part of a batch was taken
pub taken_last : {A : Type 0} (old mid new : ReadBatches A) (sector : List ℕ) (p : Part) → part_of sector ≡ Some p → is_awaited old.epoch old.number old.part old.parts p ≡ true → p.part + 1 ≡ p.parts
    → mid.text.items ≡ old.text.items ++ p.payload → mid.batches.items ≡ old.batches.items → mid.epoch ≡ old.epoch → mid.number ≡ old.number → (ended : Bool) → HasEnded ended mid new → HasTaken ended sector old new
taken_last old mid new sector p found next last text batches epoch number true is = λ rest.
    let some : batch_of (old.text.items ++ p.payload) ≡ Some is.batch = ap batch_of (sym text) ∙ is.is in
    let pushed : new.batches.items ≡ old.batches.items ++ is.batch ∷ [] = is.batches ∙ ap (λ (l : List (List Operation)). l ++ is.batch ∷ []) batches in
    let both = taken_batch old.epoch old.number old.part old.parts old.text.items sector rest p found next last is.batch some new.text.items old.batches.items new.batches.items is.text pushed in
    let e : new.epoch ≡ old.epoch = is.epoch ∙ epoch in
    let n : new.number ≡ old.number + 1 = is.number ∙ ap (λ (k : ℕ). k + 1) number in
    let part : new.part ≡ 0 = is.part in
    let parts : new.parts ≡ 0 = is.parts in (
      (λ i. new.batches.items ++ map_while batch_of (texts_from (e i) (n i) (part i) (parts i) new.text.items (map_while part_of rest))) ∙ both.0,
      both.1 ∙ sym (λ i. 1 + awaited_from (e i) (n i) (part i) (parts i) new.text.items (map_while part_of rest)),
    )
taken_last old mid new sector p found next last text batches epoch number false is = λ rest.
    is.1 ∙ batches ∙ ends_no_batch old.epoch old.number old.part old.parts old.text.items sector rest p found next last old.batches.items (ap batch_of (sym text) ∙ is.0)
