-- Conditions on a map: what guards compare.
use Rattle.std.specs.Prelude.{Bool, true, false, Option, Some, None}
use Rattle.std.specs.FinMap as finite
use Rattle.lsm_codec.specs.Keys.{Bytes}
use Rattle.lsm_codec.specs.Map.{Map}
use Rattle.lsm_codec.specs.Versions.{is_same_key}

-- that a key has this value, or with no value has none
pub record Condition : Type 0 where
  pub key : Bytes
  pub value : Option Bytes

-- whether two values are the same, or both are absent
abbrev pub is_same_value : Option Bytes → Option Bytes → Bool
is_same_value None None = true
is_same_value (Some a) (Some b) = is_same_key a b
is_same_value None (Some b) = false
is_same_value (Some a) None = false

-- whether a map meets a condition
abbrev pub is_met : Map → Condition → Bool
is_met m condition = is_same_value (finite.get m condition.key) condition.value
