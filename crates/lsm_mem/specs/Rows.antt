-- Rows in one text.
use Rattle.std.specs.Prelude.{◌+◌, ◌≤◌, length, take, drop}
use Rattle.lsm_codec.specs.Keys.{Bytes}
use Rattle.lsm_mem.specs.declared.rows.RowPlace.{RowPlace}
use Rattle.lsm_mem.specs.declared.rows.RowRef.{RowRef}

-- the pair of a key and its value at a place
abbrev pub row_at : Bytes → RowPlace → Bytes × Bytes
row_at text p = (take p.key_len (drop p.at text), take p.value_len (drop (p.at + p.key_len) text))

-- the place is one of the text
abbrev pub IsWithin : Bytes → RowPlace → Type 0
IsWithin text p = p.at + p.key_len + p.value_len ≤ length text

-- the pair that a reference shows
abbrev pub shown_row : RowRef → Bytes × Bytes
shown_row r = (r.key.now, r.value.now)
