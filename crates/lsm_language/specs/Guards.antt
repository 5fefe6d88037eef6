-- The guards of a line, and whether they can be formed.
use Rattle.std.specs.Prelude.{ℕ, List, [], ◌∷◌, Option, None, option_map}
use Rattle.lsm_device.specs.declared.refusal.Refusal.{Refusal}
use Rattle.lsm_codec.specs.Answers.{or_then, key_refusal}
use Rattle.lsm_codec.specs.Guards.{Condition}
use Rattle.lsm_codec.specs.Keys.{Bytes}
use Rattle.lsm_language.specs.declared.keyed.Keyed.{Keyed}
use Rattle.lsm_language.specs.Changes.{value_part_refusal}
use Rattle.lsm_language.specs.Keyed.{keyed_of, keyed_said}
use Rattle.lsm_language.specs.Words.{after}

-- as a condition on the map
abbrev pub condition_by : Bytes × Option Bytes → Condition
condition_by keyed = record { key = keyed.0; value = keyed.1 }

abbrev pub condition_of : Keyed → Condition
condition_of keyed = condition_by (keyed_of keyed)

-- `?KEY=VALUE` asks for the value of a key, and `!KEY` that it has none
abbrev pub guard_said : List ℕ → Option Condition
guard_said word = option_map condition_by (keyed_said (after 63 word) (after 33 word))

-- why there is no such guard
abbrev pub guard_refusal : Condition → Option Refusal
guard_refusal guard = or_then (key_refusal guard.key) (value_part_refusal guard.value)

-- of several the first that there is not
abbrev pub guards_refusal : List Condition → Option Refusal
guards_refusal [] = None
guards_refusal (guard ∷ guards) = or_then (guard_refusal guard) (guards_refusal guards)
