-- How a merge is cut into parts.
use Rattle.std.specs.Prelude.{◌≡◌, ℕ, zero, suc, ◌-◌, ◌*◌, ◌/◌, Bool, true, cond, ◌&&◌, ltb, ◌==◌, List, [], ◌∷◌, ◌++◌, length, map, slice_get, slice_index_or, reverse, Option, None}
use Rattle.std.specs.Ordering.{is_lt}
use Rattle.lsm_codec.specs.Keys.{Bytes, byte_order}
use Rattle.lsm_codec.specs.Versions.{Version}
use Rattle.lsm_merge.specs.Inputs.{MergeInput}
use Rattle.lsm_merge.specs.Ranges.{within}

-- the longest of runs, of equally long ones the first
abbrev pub longest : List (List Version) → List Version
longest [] = []
longest (run ∷ runs) = cond (ltb (length run) (length (longest runs))) (longest runs) run

-- the key of the entry of a run with which a part begins
abbrev pub border : List Version → ℕ → ℕ → Bytes
border run parts i = slice_index_or (map (λ v. v.key) run) (i * length run / parts) []

-- whether a key is above the first of these
abbrev pub is_above_first : Bytes → List Bytes → Bool
is_above_first key [] = true
is_above_first key (first ∷ rest) = is_lt (byte_order first key)

-- with one border more, where it is above the last, so that equal borders are given once
abbrev pub with_border : List Bytes → Bytes → List Bytes
with_border borders key = cond (is_above_first key (reverse borders)) (borders ++ key ∷ []) borders

-- the borders 1 to n
abbrev pub first_borders : List Version → ℕ → ℕ → List Bytes
first_borders run parts zero = []
first_borders run parts (suc n) = with_border (first_borders run parts n) (border run parts (suc n))

-- where an input is cut into `parts` parts
abbrev pub borders_of : MergeInput → ℕ → List Bytes
borders_of input parts = cond (length (longest input.runs) == 0) [] (first_borders (longest input.runs) parts (parts - 1))

-- whether a key is before the first of these
abbrev pub is_before_first : Bytes → List Bytes → Bool
is_before_first key [] = true
is_before_first key (next ∷ rest) = is_lt (byte_order key next)

-- whether each key is before the next
abbrev pub are_ascending : List Bytes → Bool
are_ascending [] = true
are_ascending (key ∷ rest) = is_before_first key rest && are_ascending rest

-- keys in ascending order
pub record Ascending (keys : List Bytes) : Type 0 where
  pub tested : are_ascending keys ≡ true

-- where the part of this number begins, counted from 0
abbrev pub start_of : List Bytes → ℕ → Option Bytes
start_of borders zero = None
start_of borders (suc i) = slice_get borders i

-- where it ends
abbrev pub end_of : List Bytes → ℕ → Option Bytes
end_of borders i = slice_get borders i

-- the versions of that part
abbrev pub part_of : List Bytes → List Version → ℕ → List Version
part_of borders versions i = within (start_of borders i) (end_of borders i) versions
