-- Ranges of keys.
use Rattle.std.specs.Prelude.{Bool, true, ◌&&◌, List, filter, Option, Some, None, option_map}
use Rattle.std.specs.Ordering.{is_lt, is_le}
use denote.Ref.{Bor}
use Rattle.lsm_codec.specs.Keys.{Bytes, byte_order}
use Rattle.lsm_codec.specs.Versions.{Version}

-- the key that a reference shows, where there is one
abbrev pub shown_key : Option (Bor Bytes) → Option Bytes
shown_key = option_map (λ key. key.now)

-- whether a key isn't before the beginning of a range, where it has one
abbrev pub is_from : Option Bytes → Bytes → Bool
is_from None key = true
is_from (Some from) key = is_le (byte_order from key)

-- whether a key is before the end of a range, where it has one
abbrev pub is_until : Option Bytes → Bytes → Bool
is_until None key = true
is_until (Some to) key = is_lt (byte_order key to)

-- whether a key is in a range: its beginning is, its end isn't
abbrev pub is_within : Option Bytes → Option Bytes → Bytes → Bool
is_within from to key = is_from from key && is_until to key

-- the versions with keys in a range
abbrev pub within : Option Bytes → Option Bytes → List Version → List Version
within from to versions = filter (λ v. is_within from to v.key) versions
