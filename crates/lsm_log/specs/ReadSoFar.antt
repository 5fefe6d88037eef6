-- How far a replay has come.
use Rattle.std.specs.Prelude.{◌≡◌, ℕ, ◌+◌, Bool, true, false, List, [], ◌∷◌, ◌++◌, length, Some, None}
use Rattle.lsm_log.specs.declared.read_batches.ReadBatches.{ReadBatches}
use Rattle.lsm_codec.specs.Map.{Operation}
use Rattle.lsm_codec.specs.LogSectors.{part_of}
use Rattle.lsm_codec.specs.BatchText.{batch_of}
use Rattle.lsm_log.specs.Replay.{map_while, texts_from, awaited_from}

-- the batches read, and those that are read from the sectors to come
abbrev pub batches_with : {A : Type 0} → ReadBatches A → List (List ℕ) → List (List Operation)
batches_with g rest = g.batches.items ++ map_while batch_of (texts_from g.epoch g.number g.part g.parts g.text.items (map_while part_of rest))

-- how many of the sectors to come are awaited
abbrev pub awaited_in : {A : Type 0} → ReadBatches A → List (List ℕ) → ℕ
awaited_in g rest = awaited_from g.epoch g.number g.part g.parts g.text.items (map_while part_of rest)

-- one batch more is read, that of the text, and the first part of the next one is awaited
pub record IsOneMore {A : Type 0} (old new : ReadBatches A) : Type 0 where
  pub batch : List Operation
  pub is : batch_of old.text.items ≡ Some batch
  pub batches : new.batches.items ≡ old.batches.items ++ batch ∷ []
  pub epoch : new.epoch ≡ old.epoch
  pub number : new.number ≡ old.number + 1
  pub part : new.part ≡ 0
  pub parts : new.parts ≡ 0
  pub text : new.text.items ≡ []

-- All parts of a batch are read. Whether their text spells a batch: if so, it is one batch more.
abbrev pub HasEnded : {A : Type 0} → Bool → ReadBatches A → ReadBatches A → Type 0
HasEnded true old new = IsOneMore old new
HasEnded false old new = (batch_of old.text.items ≡ None) × (new.batches.items ≡ old.batches.items)

-- Whether the sector was the awaited one. If so, it is read; if not, the replay ends before it, whatever follows.
abbrev pub HasTaken : {A : Type 0} → Bool → List ℕ → ReadBatches A → ReadBatches A → Type 0
HasTaken true sector old new = (rest : List (List ℕ)) → (batches_with new rest ≡ batches_with old (sector ∷ rest)) × (awaited_in old (sector ∷ rest) ≡ 1 + awaited_in new rest)
HasTaken false sector old new = (rest : List (List ℕ)) → new.batches.items ≡ batches_with old (sector ∷ rest)

-- Whether sectors one after the other were all awaited. If so, they are read; if not, the replay ends before one of them, whatever
-- follows.
abbrev pub HaveTaken : {A : Type 0} → Bool → List (List ℕ) → ReadBatches A → ReadBatches A → Type 0
HaveTaken true sectors old new = (rest : List (List ℕ)) → (batches_with new rest ≡ batches_with old (sectors ++ rest)) × (awaited_in old (sectors ++ rest) ≡ length sectors + awaited_in new rest)
HaveTaken false sectors old new = (rest : List (List ℕ)) → new.batches.items ≡ batches_with old (sectors ++ rest)
