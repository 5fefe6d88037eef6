-- Pages as bytes.
use Rattle.std.specs.Prelude.{◌≡◌, ◌⊎◌, ◌<◌, ◌≤◌, ◌+◌, ◌++◌, ◌||◌, ℕ, Bool, true, List, [], length, take, Option, Some, None, is_some, false, nat_le}
use Rattle.std.specs.List.{flat_map, list_any}
use Rattle.core.specs.Int.{w16, to_le_bytes}
use Rattle.lsm_codec.specs.Keys.{Bytes}
use Rattle.lsm_mem.specs.Paging.{Page}
use Rattle.corwaphi_c.specs.declared.answers.PageTold.{PageTold}

-- a row: the lengths of its key and its value, each in two bytes, the lower one first, the key, and the value
abbrev pub row_text : Bytes × Bytes → List ℕ
row_text row = to_le_bytes w16 (length row.0) ++ to_le_bytes w16 (length row.1) ++ row.0 ++ row.1

-- the next key as a row with an empty value, where there is one
abbrev pub next_text : Option Bytes → List ℕ
next_text (Some key) = row_text (key, [])
next_text None = []

-- the rows, and after them the next key
abbrev pub page_text : Page → List ℕ
page_text page = flat_map row_text page.rows ++ next_text page.next

-- whether a length of a row doesn't fit two bytes
abbrev pub is_wide : Bytes × Bytes → Bool
is_wide row = nat_le 65536 (length row.0) || nat_le 65536 (length row.1)

abbrev pub is_wide_next : Option Bytes → Bool
is_wide_next (Some key) = is_wide (key, [])
is_wide_next None = false

-- whether one of a page's rows is so, or its next key
abbrev pub has_wide : Page → Bool
has_wide page = list_any is_wide page.rows || is_wide_next page.next

-- The text of a page stands at the front of the room, the whole of it, and this is told of it; or the call returns 33: the room is too
-- short for it, or a row too wide.
abbrev pub IsPage : Page → ℕ → List ℕ → PageTold → Type 0
IsPage page answer room told =
    ((answer ≡ 0) × (take (length (page_text page)) room ≡ page_text page)
    × (told ≡ record { length = length (page_text page); rows = length page.rows; has_next = is_some page.next }))
    ⊎ ((answer ≡ 33) × ((length room < length (page_text page)) ⊎ (has_wide page ≡ true)))

-- Bytes were put at a place of a room, and the place after them is told; or not all of them, since the room ends before, or this is true of
-- them.
abbrev pub ArePut : ℕ → List ℕ → Bool → List ℕ → Option ℕ → List ℕ → Type 0
ArePut at bytes wide old told new = (length new ≡ length old)
    × (((told ≡ Some (at + length bytes)) × ((at ≤ length old → at + length bytes ≤ length old) × (take (at + length bytes) new ≡ take at old ++ bytes)))
    ⊎ ((told ≡ None) × ((length old < at + length bytes) ⊎ (wide ≡ true))))
