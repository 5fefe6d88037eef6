-- Versions of keys, and their order.
use Rattle.std.specs.Prelude.{◌≡◌, ℕ, ◌≤◌, ◌^◌, Bool, ◌&&◌, nat_lt, nat_le, List, [], ◌∷◌, length, sum_by, Option, Some, None, if◌then◌else◌}
use Rattle.std.specs.declared.cmp.Ordering.{Ordering}
use Rattle.std.specs.declared.cmp.Ordering.TheVariants.{Less}
use Rattle.std.specs.Ordering.{is_eq, nat_cmp, ordering_then}
use Rattle.lsm_codec.specs.Keys.{Bytes, IsKey, byte_order}
use Rattle.lsm_codec.specs.Pairs.{Pairwise}

-- what the batch of this number made of a key: a value, or none where it deleted the key
pub record Version : Type 0 where
  pub key : Bytes
  pub number : ℕ
  pub value : Option Bytes

-- whether two keys are the same
abbrev pub is_same_key : Bytes → Bytes → Bool
is_same_key a b = is_eq (byte_order a b)

-- the order of entries: by key, and then the newer first
abbrev pub entry_order : Version → Version → Ordering
entry_order a b = ordering_then (byte_order a.key b.key) (nat_cmp b.number a.number)

-- versions in the order of entries, no key and number twice
abbrev pub AreOrdered : List Version → Type 0
AreOrdered versions = Pairwise (λ v w. entry_order v w ≡ Less) versions

-- whether it is a version of a key, numbered at most n
abbrev pub is_version_of : Bytes → ℕ → Version → Bool
is_version_of key n v = is_same_key key v.key && nat_le v.number n

-- the newer of two versions; of two with one number the first
abbrev pub newer_of : Version → Option Version → Version
newer_of v None = v
newer_of v (Some w) = if nat_lt v.number w.number then w else v

-- the newest version of a key that is numbered at most n
abbrev pub newest : Bytes → ℕ → List Version → Option Version
newest key n [] = None
newest key n (v ∷ rest) = if is_version_of key n v then Some (newer_of v (newest key n rest)) else newest key n rest

-- 1 where the batch deleted the key
abbrev pub one_if_none : Option Bytes → ℕ
one_if_none None = 1
one_if_none (Some value) = 0

-- how many of these versions are deletes
abbrev pub deletes_in : List Version → ℕ
deletes_in versions = sum_by (λ v. one_if_none v.value) versions

-- the bytes of a value, none where the key was deleted
abbrev pub value_length : Option Bytes → ℕ
value_length None = 0
value_length (Some value) = length value

-- the limits of a version in a table
pub record IsEntry (v : Version) : Type 0 where
  pub key : IsKey v.key
  pub number_low : 1 ≤ v.number
  pub number_high : v.number ≤ 2 ^ 63
  pub value : value_length v.value ≤ 2048
