-- Filling blocks, one entry after the other.
use Rattle.std.specs.Prelude.{◌≡◌, ℕ, ◌+◌, cond, leb, List, [], ◌∷◌, ◌++◌, take, drop}
use Rattle.std.specs.List.{AllByRecursion}
use Rattle.lsm_table.specs.declared.layout.Layout.{Layout}
use Rattle.lsm_codec.specs.Versions.{Version, IsEntry}
use Rattle.lsm_codec.specs.Entries.{entry_size}
use Rattle.lsm_table.specs.Division.{Block, TableBlocks, blocks}
use Rattle.lsm_table.specs.Counting.{with_entry}

-- the blocks that are full, and the one that is begun
pub record Filled : Type 0 where
  pub full : TableBlocks
  pub begun : Block
  pub layout : Layout

-- no entry yet
abbrev pub none_filled : Filled
none_filled = record { full = []; begun = []; layout = record { blocks = 1; used = 2 } }

-- with an entry more
abbrev pub with_next : Filled → Version → Filled
with_next s v = record {
  full = cond (leb (s.layout.used + entry_size v) 4096) s.full (s.full ++ s.begun ∷ []);
  begun = cond (leb (s.layout.used + entry_size v) 4096) (s.begun ++ v ∷ []) (v ∷ []);
  layout = with_entry s.layout (entry_size v);
}

-- all blocks
abbrev pub blocks_in : Filled → TableBlocks
blocks_in s = s.full ++ s.begun ∷ []

-- These are the blocks of the first n entries, and those are left.
pub record AreNextBlocks (made : TableBlocks) (n : ℕ) (entries left : List Version) : Type 0 where
  pub are : made ≡ blocks (take n entries)
  pub versions : AllByRecursion IsEntry (take n entries)
  pub rest : left ≡ drop n entries
