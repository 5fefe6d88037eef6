-- What follows the mark of a word: a key alone, or a key with a value.
use Rattle.std.specs.Prelude.{ℕ, List, Option, Some, None, option_map, option_and_then}
use Rattle.lsm_codec.specs.Keys.{Bytes}
use Rattle.lsm_codec.specs.Words.{bytes_said}
use Rattle.lsm_language.specs.declared.keyed.Keyed.{Keyed}
use Rattle.lsm_language.specs.Words.{pair_in}

-- KEY=VALUE
abbrev pub pair_said : List ℕ × List ℕ → Option (Bytes × Option Bytes)
pair_said pair = option_and_then (λ key. option_map (λ value. (key, Some value)) (bytes_said pair.1)) (bytes_said pair.0)

-- KEY
abbrev pub key_said : List ℕ → Option (Bytes × Option Bytes)
key_said word = option_map (λ key. (key, None)) (bytes_said word)

-- a pair where its mark is there, and else a key after its own
abbrev pub keyed_said : Option (List ℕ) → Option (List ℕ) → Option (Bytes × Option Bytes)
keyed_said (Some pair) key = option_and_then pair_said (pair_in pair)
keyed_said None (Some key) = key_said key
keyed_said None None = None

-- as bytes
abbrev pub keyed_of : Keyed → Bytes × Option Bytes
keyed_of keyed = (keyed.key.items, option_map (λ v. v.items) keyed.value)
