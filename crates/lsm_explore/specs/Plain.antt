-- Plain maps: rows in the order of keys.
use Rattle.std.specs.Prelude.{◌≡◌, ℕ, suc, List, [], ◌∷◌, ◌++◌, map, take, drop, Option, None, Some, if◌then◌else◌}
use Rattle.std.specs.Ordering.{is_eq, is_gt}
use Rattle.std.specs.FinMap as finite
use Rattle.lsm_codec.specs.Keys.{Bytes, byte_order}
use Rattle.lsm_codec.specs.Map.{Map}
use Rattle.lsm_mem.specs.Rows.{shown_row}
use Rattle.lsm_mem.specs.declared.rows.RowRef.{RowRef}

abbrev pub rows_of : List RowRef → List (Bytes × Bytes)
rows_of rows = map shown_row rows

-- the rows are those of the map, in the order of keys
abbrev pub AreRows : List RowRef → Map → Type 0
AreRows rows m = rows_of rows ≡ finite.entries m

-- how many of the first rows have keys before this one
abbrev pub place_in : Bytes → List (Bytes × Bytes) → ℕ
place_in key [] = 0
place_in key (row ∷ rows) = if is_gt (byte_order key row.0) then suc (place_in key rows) else 0

-- the rows without the first, where it has this key
abbrev pub behind : Bytes → List (Bytes × Bytes) → List (Bytes × Bytes)
behind key [] = []
behind key (row ∷ rows) = if is_eq (byte_order key row.0) then rows else row ∷ rows

abbrev pub row_of : Bytes → Option Bytes → List (Bytes × Bytes)
row_of key None = []
row_of key (Some value) = (key, value) ∷ []

-- the rows with another value under a key, or without it
abbrev pub with_row : List (Bytes × Bytes) → Bytes → Option Bytes → List (Bytes × Bytes)
with_row rows key value = take (place_in key rows) rows ++ (row_of key value ++ behind key (drop (place_in key rows) rows))
