-- The keys that begin with a prefix.
use Rattle.std.specs.Prelude.{◌≡◌, ◌+◌, ◌<◌, ◌==◌, ◌&&◌, Bool, true, false, not, nat_lt, ℕ, [], ◌∷◌, Option, Some, None, if◌then◌else◌}
use Rattle.std.specs.List.{AllByRecursion}
use Rattle.std.specs.Ordering.{is_lt}
use Rattle.lsm_codec.specs.Keys.{Bytes, byte_order}

-- whether a key begins with some bytes
abbrev pub begins_with : Bytes → Bytes → Bool
begins_with [] key = true
begins_with (byte ∷ prefix) [] = false
begins_with (byte ∷ prefix) (first ∷ key) = (byte == first) && begins_with prefix key

-- a byte before the end after the rest, or raised by one where that has none
abbrev pub behind_byte : ℕ → Option Bytes → Option Bytes
behind_byte byte (Some end) = Some (byte ∷ end)
behind_byte byte None = if nat_lt byte 255 then Some ((byte + 1) ∷ []) else None

-- the bytes with the last one that is not 255 raised by one, without those after it
abbrev pub behind_prefix : Bytes → Option Bytes
behind_prefix [] = None
behind_prefix (byte ∷ prefix) = behind_byte byte (behind_prefix prefix)

-- whether a key is before the end of a range, where it has one
abbrev pub is_before : Bytes → Option Bytes → Bool
is_before key (Some end) = is_lt (byte_order key end)
is_before key None = true

-- A key begins with a prefix just where it is in the range from the prefix to the end of its keys.
abbrev pub PrefixLaw : Type 0
PrefixLaw = (prefix key : Bytes) → AllByRecursion (λ byte. byte < 256) key
    → begins_with prefix key ≡ (not (is_lt (byte_order key prefix)) && is_before key (behind_prefix prefix))
