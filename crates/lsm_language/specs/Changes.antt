-- The operations of a line, and the batch that they form.
use Rattle.std.specs.Prelude.{◌≡◌, ◌⊎◌, ℕ, List, [], ◌∷◌, ◌++◌, Option, Some, None, option_map, Result, MatchResult}
use Rattle.lsm_device.specs.declared.refusal.Refusal.{Refusal}
use Rattle.lsm_device.specs.declared.refusal.Refusal.TheVariants.{NoMemory}
use Rattle.lsm_codec.specs.Keys.{Bytes}
use Rattle.lsm_language.specs.declared.keyed.Keyed.{Keyed}
use Rattle.lsm_codec.specs.Map.{Operation}
use Rattle.lsm_language.specs.Keyed.{keyed_of, keyed_said, pair_said}
use Rattle.lsm_language.specs.Words.{read_all, after}
use Rattle.lsm_codec.specs.Answers.{or_then, key_refusal, value_refusal, put_refusal, delete_refusal}

-- as an operation
abbrev pub operation_by : Bytes × Option Bytes → Operation
operation_by keyed = record { key = keyed.0; value = keyed.1 }

abbrev pub operation_of : Keyed → Operation
operation_of keyed = operation_by (keyed_of keyed)

-- a key and a value put
abbrev pub put_said : List ℕ × List ℕ → Option Operation
put_said pair = option_map operation_by (pair_said pair)

-- `+KEY=VALUE` puts, `-KEY` deletes
abbrev pub change_said : List ℕ → Option Operation
change_said word = option_map operation_by (keyed_said (after 43 word) (after 45 word))

-- all of them
abbrev pub changes_said : List (List ℕ) → Option (List Operation)
changes_said words = read_all change_said [] words

-- why a batch doesn't take one operation more
abbrev pub change_refusal : List Operation → Bytes → Option Bytes → Option Refusal
change_refusal batch key (Some value) = put_refusal batch key value
change_refusal batch key None = delete_refusal batch key

-- why there is no such operation
abbrev pub value_part_refusal : Option Bytes → Option Refusal
value_part_refusal (Some value) = value_refusal value
value_part_refusal None = None

abbrev pub first_refusal : Operation → Option Refusal
first_refusal operation = or_then (key_refusal operation.key) (value_part_refusal operation.value)

-- why a batch doesn't take the operations, one after the other
abbrev pub changes_refusal : List Operation → List Operation → Option Refusal
changes_refusal batch [] = None
changes_refusal batch (change ∷ changes) = or_then (change_refusal batch change.key change.value) (changes_refusal (batch ++ change ∷ []) changes)

-- why the operations form no batch: the first of them alone, then the others with those before them
abbrev pub batch_refusal : List Operation → Option Refusal
batch_refusal [] = None
batch_refusal (change ∷ changes) = or_then (first_refusal change) (changes_refusal (change ∷ []) changes)

-- they form a batch only where that is nothing, and an Err is that, or NoMemory
abbrev pub Forms : List Operation → Result (List Operation) Refusal → Type 0
Forms changes result = MatchResult result (λ batch. (batch_refusal changes ≡ None) × (batch ≡ changes))
    (λ e. (batch_refusal changes ≡ Some e) ⊎ (e ≡ NoMemory))
