-- A page that is gathered from versions, which come in the order of entries.
use Rattle.std.specs.Prelude.{◌≡◌, ℕ, ◌-◌, Bool, true, ◌&&◌, List, [], ◌∷◌, ◌++◌, length, slice_get, filter, Option, Some, None, option_map}
use Rattle.std.specs.List.{AllByRecursion}
use Rattle.std.specs.Ordering.{is_lt}
use Rattle.std.specs.declared.cmp.Ordering.TheVariants.{Less}
use Rattle.std.specs.FinMap as finite
use Rattle.lsm_codec.specs.Keys.{Bytes, byte_order}
use Rattle.lsm_codec.specs.Versions.{Version, entry_order}
use Rattle.lsm_mem.specs.Versions.{map_of}
use Rattle.lsm_mem.specs.Paging.{Page, is_before, first_page}

-- A page that is being gathered: the count, the end of the range and the limit that were asked for; the last key of which it
-- is decided whether it has a row; the rows; and the key of the first row that is left out, once it came.
pub record Gathering : Type 0 where
  pub at : ℕ
  pub to : Option Bytes
  pub limit : ℕ
  pub decided : Option Bytes
  pub rows : List (Bytes × Bytes)
  pub next : Option Bytes

-- no row yet
abbrev pub gathering : ℕ → Option Bytes → ℕ → Gathering
gathering at to limit = record { at = at; to = to; limit = limit; decided = None; rows = []; next = None }

-- whether a key is after the one that was decided last
abbrev pub is_behind : Option Bytes → Bytes → Bool
is_behind (Some decided) key = is_lt (byte_order decided key)
is_behind None key = true

-- the pairs still to come where these versions are left: those of their map after the last decided key and before the end
abbrev pub pairs_to_come : Gathering → List Version → List (Bytes × Bytes)
pairs_to_come g left = filter (λ pair. is_behind g.decided pair.0 && is_before g.to pair.0) (finite.entries (map_of left g.at))

-- the final page where these versions are left
abbrev pub page_with : Gathering → List Version → Page
page_with g left = first_page g.limit (g.rows ++ pairs_to_come g left)

-- the page where no more version is taken
abbrev pub page_so_far : Gathering → Page
page_so_far g = record { rows = g.rows; next = g.next }

-- it comes before these in the order of entries
abbrev pub IsFirst : Version → List Version → Type 0
IsFirst v others = AllByRecursion (λ w. entry_order v w ≡ Less) others

-- the key of the last row
abbrev pub last_key : List (Bytes × Bytes) → Option Bytes
last_key rows = option_map (λ row. row.0) (slice_get rows (length rows - 1))

-- with the key decided, and no row for it
abbrev pub with_deleted : Bytes → Gathering → Gathering
with_deleted key g = record { at = g.at; to = g.to; limit = g.limit; decided = Some key; rows = g.rows; next = g.next }

-- with a row more
abbrev pub with_row : Bytes → Bytes → Gathering → Gathering
with_row key value g = record { at = g.at; to = g.to; limit = g.limit; decided = Some key; rows = g.rows ++ (key, value) ∷ []; next = g.next }

-- with the key of the first row that is left out
abbrev pub with_next : Bytes → Gathering → Gathering
with_next key g = record { at = g.at; to = g.to; limit = g.limit; decided = g.decided; rows = g.rows; next = Some key }
