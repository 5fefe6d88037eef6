-- Sources of versions, read together in the order of entries.
use Rattle.std.specs.Prelude.{◌≡◌, ◌⊎◌, ℕ, Bool, true, false, List, [], ◌∷◌, ◌++◌, map, set, slice_get, Option, Some, None, option_and_then}
use Rattle.std.specs.List.{AllByRecursion}
use Rattle.std.specs.Ordering.{is_lt, nat_cmp, ordering_then}
use Rattle.lsm_codec.specs.Keys.{Bytes, byte_order}
use Rattle.lsm_codec.specs.Versions.{Version, AreOrdered}
use Rattle.lsm_mem.specs.Versions.{map_of}
use Rattle.lsm_mem.specs.Ranges.{newest_each, from_key}
use Rattle.lsm_mem.specs.Paging.{page_of}
use Rattle.lsm_mem.specs.Gathering.{gathering, page_with, IsFirst}
use Rattle.lsm_mem.specs.Versions.{joined}
use Rattle.lsm_levels.specs.Orders.{IsVersionOrder}

-- A source gives the versions of a place from a key on: all of them, or of each key the newest that is numbered at most n.
abbrev pub IsLeftOf : ℕ → Bytes → List Version → List Version → Type 0
IsLeftOf n from source place = (source ≡ from_key from place) ⊎ (source ≡ from_key from (newest_each n place))

-- so does each source of its place
abbrev pub AreLeftOf : ℕ → Bytes → List (List Version) → List (List Version) → Type 0
AreLeftOf n from [] [] = Unit {0}
AreLeftOf n from [] (place ∷ places) = ⊥
AreLeftOf n from (source ∷ sources) [] = ⊥
AreLeftOf n from (source ∷ sources) (place ∷ places) = IsLeftOf n from source place × AreLeftOf n from sources places

-- Lists of versions, the newer first, are in order: each is in that of entries, and of one key the newer has the greater
-- numbers.
pub record AreInOrder (sources : List (List Version)) : Type 0 where
  pub entries : AllByRecursion AreOrdered sources
  pub versions : IsVersionOrder sources

-- the version that comes next of each source, where one is left
abbrev pub heads_of : List (List Version) → List (Option Version)
heads_of sources = map (λ source. slice_get source 0) sources

-- of the source at a place
abbrev pub head_at : List (Option Version) → ℕ → Option Version
head_at heads i = option_and_then (λ head. head) (slice_get heads i)

-- whether a source's version comes before another's: by key, and of one key that of the newer source
abbrev pub is_sooner : Option Version → ℕ → Option Version → ℕ → Bool
is_sooner (Some v) i (Some w) j = is_lt (ordering_then (byte_order v.key w.key) (nat_cmp i j))
is_sooner (Some v) i None j = false
is_sooner None i other j = false

-- whether the source at a place comes before that at another
abbrev pub comes_before : List (Option Version) → ℕ → ℕ → Bool
comes_before heads i j = is_sooner (head_at heads i) i (head_at heads j) j

-- the source at a place comes before each other that has a version left
pub record IsNext (heads : List (Option Version)) (i : ℕ) : Type 0 where
  pub before : (j : ℕ) (w : Version) → head_at heads j ≡ Some w → (j ≡ i) ⊎ (comes_before heads i j ≡ true)

-- The first version of the source at a place is the first of all in the order of entries, and without it all stay in order.
pub record Splits (sources : List (List Version)) (i : ℕ) (v : Version) (rest : List Version) : Type 0 where
  pub newer : List Version
  pub older : List Version
  pub whole : joined sources ≡ newer ++ v ∷ older
  pub left : joined (set sources i rest) ≡ newer ++ older
  pub first : IsFirst v (newer ++ older)
  pub in_order : AreInOrder (set sources i rest)

-- Of sources in order, the first version of the one that comes next is the first of all.
abbrev pub NextLaw : Type 0
NextLaw = (sources : List (List Version)) (i : ℕ) (v : Version) (rest : List Version) → AreInOrder sources → slice_get sources i ≡ Some (v ∷ rest) → IsNext (heads_of sources) i → Splits sources i v rest

-- Sources of places in order are in order, and the page that they come to is that of the places' map.
abbrev pub PageLaw : Type 0
PageLaw = (n limit : ℕ) (from : Bytes) (to : Option Bytes) (places sources : List (List Version)) → AreInOrder places → AreLeftOf n from sources places
    → AreInOrder sources × (page_with (gathering n to limit) (joined sources) ≡ page_of (map_of (joined places) n) from to limit)
