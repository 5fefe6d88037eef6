-- Where entries are in a data block.
use Rattle.std.specs.Prelude.{ℕ, ◌+◌, ◌≤◌, List, length, take, drop, option_map, Option, IfSome}
use Rattle.lsm_codec.specs.Versions.{Version}

-- where the key and the value of an entry begin in a block, and how many bytes they have; where the key was deleted, no value has any
pub record Span : Type 0 where
  pub key_offset : ℕ
  pub key_len : ℕ
  pub number : ℕ
  pub value_offset : ℕ
  pub value_len : Option ℕ

-- the span of an entry whose text begins at a byte
abbrev pub span_at : ℕ → Version → Span
span_at offset v = record { key_offset = offset + 1; key_len = length v.key; number = v.number; value_offset = offset + 12 + length v.key; value_len = option_map length v.value }

-- the entry at this place in a block
abbrev pub spanned : Span → List ℕ → Version
spanned s block = record { key = take s.key_len (drop s.key_offset block); number = s.number; value = option_map (λ n. take n (drop s.value_offset block)) s.value_len }

-- key and value are within a block
pub record IsWithinBlock (s : Span) : Type 0 where
  pub key : s.key_offset + s.key_len ≤ 4096
  pub value : IfSome s.value_len (λ n. s.value_offset + n ≤ 4096)
