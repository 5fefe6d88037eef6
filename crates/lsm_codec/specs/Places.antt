-- Versions in one block of memory.
use Rattle.std.specs.Prelude.{ℕ, ◌+◌, ◌≤◌, [], length, take, drop, option_map, Option, Some, None}
use Rattle.lsm_codec.specs.declared.place.Place.{Place}
use Rattle.lsm_codec.specs.Keys.{Bytes}
use Rattle.lsm_codec.specs.Versions.{Version, IsEntry}

-- the bytes of a value of this length, none where there is no value
abbrev pub value_room : Option ℕ → ℕ
value_room None = 0
value_room (Some n) = n

-- the bytes of a value, none where there is no value
abbrev pub value_bytes : Option Bytes → Bytes
value_bytes None = []
value_bytes (Some value) = value

-- the version at a place in bytes: its key, and right after it its value, where it has one
abbrev pub version_at : Bytes → Place → Version
version_at bytes place = record { key = take place.key_len (drop place.at bytes); number = place.number; value = option_map (λ n. take n (drop (place.at + place.key_len) bytes)) place.value_len }

-- a place at which these bytes have the version of an entry
pub record IsPlaceIn (bytes : Bytes) (place : Place) : Type 0 where
  pub inside : place.at + (place.key_len + value_room place.value_len) ≤ length bytes
  pub entry : IsEntry (version_at bytes place)
