-- The text of entries and data blocks, and how they are read.
use Rattle.std.specs.Prelude.{ℕ, zero, suc, ◌+◌, ◌≤◌, ◌^◌, ◌==◌, ◌&&◌, nat_le, Bool, List, [], ◌∷◌, ◌++◌, length, option_map, sum_by, Option, Some, None, Result, Ok, Err, if◌then◌else◌}
use Rattle.std.specs.List.{AllByRecursion, flat_map, list_all}
use Rattle.byteorder.specs.Endian.{big_bytes}
use Rattle.lsm_device.specs.declared.refusal.Refusal.{Refusal}
use Rattle.lsm_device.specs.declared.refusal.Refusal.TheVariants.{BadTable}
use Rattle.lsm_codec.specs.Keys.{Bytes}
use Rattle.lsm_codec.specs.Spelling.{filled, is_within, if_spelled}
use Rattle.lsm_codec.specs.Reading.{◌>>=◌, number_at, both, made, kept}
use Rattle.lsm_codec.specs.BatchText.{key_text, value_text, key_at, value_at, is_key}
use Rattle.lsm_codec.specs.Versions.{Version, IsEntry, value_length}

-- 1 and the value, or 2 and the length 0
abbrev pub outcome_text : Option Bytes → List ℕ
outcome_text (Some value) = big_bytes 1 1 ++ value_text value
outcome_text None = big_bytes 1 2 ++ big_bytes 2 0

-- the text of an entry: key, number, and the value or that there is none
abbrev pub entry_text : Version → List ℕ
entry_text v = key_text v.key ++ (big_bytes 8 v.number ++ outcome_text v.value)

-- the bytes that an entry takes
abbrev pub entry_size : Version → ℕ
entry_size v = 12 + length v.key + value_length v.value

-- the text of a data block: the count, and the entries in order
abbrev pub block_text : List Version → List ℕ
block_text entries = big_bytes 2 (length entries) ++ flat_map entry_text entries

-- the bytes that the text of a data block takes
abbrev pub block_size : List Version → ℕ
block_size entries = 2 + sum_by entry_size entries

-- the block that spells entries
unfoldable pub data_block : List Version → List ℕ
data_block entries = filled 4096 (block_text entries)

-- the limits of a data block: an entry at least, and they fit
pub record IsDataBlock (entries : List Version) : Type 0 where
  pub some : 1 ≤ length entries
  pub versions : AllByRecursion IsEntry entries
  pub fits : block_size entries ≤ 4096

-- the same limits, as tests: of an entry
abbrev pub is_entry : Version → Bool
is_entry v = is_key v.key && (is_within 1 (2 ^ 63) v.number && nat_le (value_length v.value) 2048)

-- and of a data block
abbrev pub is_data_block : List Version → Bool
is_data_block entries = nat_le 1 (length entries) && (list_all is_entry entries && nat_le (block_size entries) 4096)

-- ---- reading

-- the length 0, that no value follows
abbrev pub absent_length_at : List ℕ → Option (ℕ × List ℕ)
absent_length_at = kept (λ n. n == 0) (number_at 2)

-- a value, or that there is none
unfoldable pub outcome_at : List ℕ → Option (Option Bytes × List ℕ)
outcome_at bytes = do
  kind ← number_at 1 bytes
  if kind.0 == 1 then made Some value_at kind.1 else if kind.0 == 2 then made (λ n. None) absent_length_at kind.1 else None

-- a number that a batch can have
abbrev pub batch_number_at : List ℕ → Option (ℕ × List ℕ)
batch_number_at = kept (is_within 1 (2 ^ 63)) (number_at 8)

-- the entry at the front of the bytes
unfoldable pub entry_at : List ℕ → Option (Version × List ℕ)
entry_at = made (λ p. record { key = p.0; number = p.1.0; value = p.1.1 }) (both key_at (both batch_number_at outcome_at))

-- whether each byte is zero
abbrev pub are_zeros : List ℕ → Bool
are_zeros bytes = list_all (λ b. b == 0) bytes

-- n entries and then zeros; at the first bytes that are neither comes BadTable, which ends the list
unfoldable pub entries_from : ℕ → List ℕ → List (Result Version Refusal)
entries_from zero bytes = if are_zeros bytes then [] else Err BadTable ∷ []
entries_from (suc n) bytes = elim (entry_at bytes) as (λ _. List (Result Version Refusal)) [ None ↦ Err BadTable ∷ [] | Some x ↦ Ok x.0 ∷ entries_from n x.1 ]

-- the entries of a block, in order; at the first invalid bytes comes BadTable, which ends the list
unfoldable pub entries_in : List ℕ → List (Result Version Refusal)
entries_in bytes = elim (number_at 2 bytes) as (λ _. List (Result Version Refusal)) [ None ↦ Err BadTable ∷ [] | Some x ↦ if x.0 == 0 then Err BadTable ∷ [] else entries_from x.0 x.1 ]

-- the values, if there is no refusal among them
abbrev pub all_ok : {X : Type 0} → List (Result X Refusal) → Option (List X)
all_ok [] = Some []
all_ok (Ok x ∷ rest) = option_map (λ xs. x ∷ xs) (all_ok rest)
all_ok (Err e ∷ rest) = None

-- the entries that a block spells, if it spells some
unfoldable pub block_of : List ℕ → Option (List Version)
block_of bytes = if_spelled is_data_block data_block bytes (all_ok (entries_in bytes))
