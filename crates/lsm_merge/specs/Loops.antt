-- Definitions for the loops of a merge.
use Rattle.std.specs.Prelude.{◌≡◌, ℕ, zero, suc, ◌+◌, ◌≤◌, Bool, false, cond, not, ◌&&◌, leb, ltb, is_none, List, [], ◌∷◌, map, length, drop, slice_index_or, Option, Some, None}
use denote.Ref.{Bor}
use Rattle.lsm_codec.specs.Keys.{Bytes}
use Rattle.lsm_codec.specs.Versions.{Version, is_same_key, AreOrdered}
use Rattle.lsm_merge.specs.Keeping.{all_placed, in_order, keep}

-- the versions that references show
abbrev pub shown : List (Bor Version) → List Version
shown entries = map (λ entry. entry.now) entries

-- v is the first of the versions of both lists, and takes `from_left` and `from_right` of them
pub record TakesFirst (left right : List (Bor Version)) (v : Version) (from_left from_right : ℕ) : Type 0 where
  pub splits : all_placed (shown left) (shown right) ≡ v ∷ all_placed (shown (drop from_left left)) (shown (drop from_right right))
  pub left_ordered : AreOrdered (shown (drop from_left left))
  pub right_ordered : AreOrdered (shown (drop from_right right))
  pub left_within : from_left ≤ length left
  pub right_within : from_right ≤ length right
  pub takes : 1 ≤ from_left + from_right

-- these are kept of any versions that are those in order
pub record KeepsOf (cuts : List ℕ) (bottom : Bool) (ordered kept : List Version) : Type 0 where
  pub of : (versions : List Version) → ordered ≡ in_order versions → kept ≡ keep cuts bottom versions

-- whether a version of this number is the newest at a cut, where the next newer version of its key has that number
abbrev pub shows_at : ℕ → ℕ → Option ℕ → Bool
shows_at n number None = leb number n
shows_at n number (Some above) = leb number n && ltb n above

-- the number of the version just before, where it is of the same key
abbrev pub number_before : Version → Option Version → Option ℕ
number_before v None = None
number_before v (Some w) = cond (is_same_key v.key w.key) (Some w.number) None

-- the version before a place
abbrev pub previous : List Version → ℕ → Version → Option Version
previous versions zero d = None
previous versions (suc k) d = Some (slice_index_or versions k d)

-- whether the first of these versions is of a key
abbrev pub starts_with_key : Bytes → List Version → Bool
starts_with_key key [] = false
starts_with_key key (v ∷ rest) = is_same_key v.key key

-- versions in order with one more first, but for a delete that no version of its key follows
abbrev pub settled_onto : Version → List Version → List Version
settled_onto v rest = cond (is_none v.value && not (starts_with_key v.key rest)) rest (v ∷ rest)
