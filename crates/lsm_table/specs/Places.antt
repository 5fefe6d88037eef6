-- In which block of a table a version is found.
use Rattle.std.specs.Prelude.{ℕ, suc, ◌+◌, ◌<◌, Bool, cond, ◌||◌, ◌==◌, List, [], ◌∷◌, length, Option, Some, None, slice_index_or}
use Rattle.std.specs.List.{AllByRecursion}
use Rattle.std.specs.Ordering.{nat_cmp, is_lt, is_gt, ordering_then}
use Rattle.lsm_codec.specs.Keys.{Bytes, byte_order}
use Rattle.lsm_codec.specs.Versions.{Version, IsEntry, AreOrdered}
use Rattle.lsm_codec.specs.Indexes.{Edge}
use Rattle.lsm_table.specs.Division.{TableBlocks, entries_of}

-- whether an edge comes before a key's version numbered `at`
abbrev pub stands_before : Bytes → ℕ → Edge → Bool
stands_before key at e = is_lt (ordering_then (byte_order e.key key) (nat_cmp at e.number))

-- the first of these blocks, numbered from n on, whose edge doesn't come before it
unfoldable pub place_from : ℕ → Bytes → ℕ → List Edge → Option ℕ
place_from n key at [] = None
place_from n key at (e ∷ edges) = cond (stands_before key at e) (place_from (n + 1) key at edges) (Some n)

-- in a table with this first key and these edges, the one block that can hold the newest version of a key that is
-- numbered at most `at`; no version has the number 0
abbrev pub place_of : Bytes → List Edge → Bytes → ℕ → Option ℕ
place_of first edges key at = cond (at == 0 || is_gt (byte_order first key)) None (place_from 0 key at edges)

-- a table whose entries are in order, within their limits
pub record IsSorted (table : TableBlocks) : Type 0 where
  pub ordered : AreOrdered (entries_of table)
  pub versions : AllByRecursion IsEntry (entries_of table)
  pub nonempty : AllByRecursion (λ block. 0 < length block) table

-- the entries of the block at a place, none where there is no place
abbrev pub at_place : TableBlocks → Option ℕ → List Version
at_place table None = []
at_place table (Some n) = slice_index_or table n []

-- whether the block of an edge ends before a key
abbrev pub ends_before : Bytes → Edge → Bool
ends_before key e = is_lt (byte_order e.key key)

-- how many blocks end before a key, one after the other from the first on
abbrev pub blocks_before : Bytes → List Edge → ℕ
blocks_before key [] = 0
blocks_before key (e ∷ edges) = cond (ends_before key e) (suc (blocks_before key edges)) 0
