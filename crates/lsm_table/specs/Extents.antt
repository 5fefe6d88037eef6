-- The blocks of a table's extent.
use Rattle.std.specs.Prelude.{◌≡◌, ℕ, zero, suc, ◌+◌, List, [], ◌∷◌, ◌++◌, length, map, take, drop}
use Rattle.lsm_codec.specs.Keys.{Bytes}
use Rattle.lsm_codec.specs.Entries.{data_block}
use Rattle.lsm_codec.specs.Indexes.{index_length, index_count, index_blocks}
use Rattle.lsm_codec.specs.Footers.{footer_block}
use Rattle.lsm_codec.specs.Versions.{deletes_in}
use Rattle.lsm_filter.specs.Bits.{filter_of}
use Rattle.lsm_table.specs.Division.{TableBlocks, IsTable, entries_of}
use Rattle.lsm_table.specs.BlockEdges.{edges_of}
use Rattle.lsm_table.specs.Outlines.{outline_in, summary_in}

-- what an image keeps besides its blocks
pub record IsImageOf (table : TableBlocks) (entries deletes : ℕ) (filter index : List ℕ) (index_len : ℕ) : Type 0 where
  pub is : IsTable table
  pub all : entries ≡ length (entries_of table)
  pub counted : deletes ≡ deletes_in (entries_of table)
  pub keys : filter ≡ filter_of (map (λ v. v.key) (entries_of table))
  pub edges : index ≡ index_blocks (edges_of table)
  pub len : index_len ≡ index_length (edges_of table)

-- the first n blocks of bytes
abbrev pub in_pieces : ℕ → List ℕ → List (List ℕ)
in_pieces zero bytes = []
in_pieces (suc n) bytes = take 4096 bytes ∷ in_pieces n (drop 4096 bytes)

-- the keys of a table's entries
abbrev pub keys_of : TableBlocks → List Bytes
keys_of table = map (λ v. v.key) (entries_of table)

-- the blocks of the index
abbrev pub index_in_blocks : TableBlocks → List (List ℕ)
index_in_blocks table = in_pieces (index_count (edges_of table)) (index_blocks (edges_of table))

-- the footer under a number
abbrev pub footer_in : ℕ → TableBlocks → List ℕ
footer_in number table = footer_block (summary_in (outline_in number [] table))

-- how many blocks a table's extent takes
abbrev pub extent_size : TableBlocks → ℕ
extent_size table = length table + index_count (edges_of table) + 2

-- the blocks of a table's extent, in order: data blocks, filter, index and footer
abbrev pub extent_in_blocks : ℕ → List ℕ → TableBlocks → List (List ℕ)
extent_in_blocks number filter table = map data_block table ++ (filter ∷ (index_in_blocks table ++ footer_in number table ∷ []))
