-- Tables as the levels see them, and runs of tables.
use Rattle.std.specs.Prelude.{◌≡◌, ℕ, ◌+◌, Bool, true, ◌&&◌, List, [], ◌∷◌, ◌++◌, length, filter, Option, Some, None, Result, Ok, Err, if◌then◌else◌}
use Rattle.std.specs.List.{AllByRecursion}
use Rattle.std.specs.Ordering.{is_le, is_lt}
use Rattle.lsm_codec.specs.Keys.{Bytes, byte_order}
use Rattle.lsm_codec.specs.Versions.{Version, deletes_in}
use Rattle.lsm_codec.specs.Indexes.{index_count}
use Rattle.lsm_codec.specs.declared.table_record.TableRecord.{TableRecord}
use Rattle.lsm_table.specs.BlockEdges.{last_key}
use Rattle.lsm_filter.specs.Bits.{filter_of}
use Rattle.lsm_table.specs.Division.{TableBlocks, entries_of}
use Rattle.lsm_table.specs.Outlines.{Outline, outline_in}
use Rattle.lsm_table.specs.Extents.{keys_of}

-- A table as the levels see it.
pub record Table : Type 0 where
  pub number : ℕ
  -- the least and the greatest key
  pub first : Bytes
  pub last : Bytes
  -- the first block of its extent, and how many blocks it has in all
  pub start : ℕ
  pub blocks : ℕ
  -- how many of its entries are deletes, as its manifest's record tells
  pub deletes : ℕ
  -- what footer, index and filter tell
  pub outline : Outline
  pub versions : List Version

-- the table of an outline whose extent begins at this block, with this number of deletes and these versions
abbrev pub table_at : Outline → ℕ → ℕ → List Version → Table
table_at o start deletes versions = record {
  number = o.number;
  first = o.first;
  last = last_key o.edges;
  start = start;
  blocks = length o.edges + index_count o.edges + 2;
  deletes = deletes;
  outline = o;
  versions = versions;
}

-- the table of an image under this number
abbrev pub table_of : ℕ → ℕ → TableBlocks → Table
table_of number start image = table_at (outline_in number (filter_of (keys_of image)) image) start (deletes_in (entries_of image)) (entries_of image)

-- the outline of a table that was opened, if it was
abbrev pub outline_opened : {E : Type 0} → Result Table E → Result Outline E
outline_opened (Ok t) = Ok t.outline
outline_opened (Err e) = Err e

-- the manifest's record of a table in this level and run
abbrev pub record_of : ℕ → ℕ → Table → TableRecord
record_of level run t = record {
  number = t.number;
  level = level;
  run = run;
  first_block = t.start;
  data_blocks = length t.outline.edges;
  index_blocks = index_count t.outline.edges;
  entries = t.outline.entries;
  deletes = Some t.deletes;
}

-- a range of keys, both ends inside
pub record KeyRange : Type 0 where
  pub first : Bytes
  pub last : Bytes

abbrev pub range_of : Table → KeyRange
range_of t = record { first = t.first; last = t.last }

abbrev pub at_most : Bytes → Bytes → Bool
at_most a b = is_le (byte_order a b)

abbrev pub is_below : Bytes → Bytes → Bool
is_below a b = is_lt (byte_order a b)

abbrev pub least : Bytes → Bytes → Bytes
least a b = if at_most a b then a else b

abbrev pub greatest : Bytes → Bytes → Bytes
greatest a b = if at_most a b then b else a

-- the hull of a table's range and another's
abbrev pub spanned : Table → Option KeyRange → KeyRange
spanned t None = range_of t
spanned t (Some range) = record { first = least t.first range.first; last = greatest t.last range.last }

-- the hull of tables: from the least first key to the greatest last key
abbrev pub hull : List Table → Option KeyRange
hull [] = None
hull (t ∷ rest) = Some (spanned t (hull rest))

abbrev pub meets : KeyRange → Table → Bool
meets range t = at_most range.first t.last && at_most t.first range.last

-- the tables that meet a range
abbrev pub meeting : Option KeyRange → List Table → List Table
meeting None tables = []
meeting (Some range) tables = filter (meets range) tables

-- tables with these in the place of those that meet the range
abbrev pub put_at : KeyRange → List Table → List Table → List Table
put_at range new tables = filter (λ t. is_below t.last range.first) tables ++ (new ++ filter (λ t. is_below range.last t.first) tables)

-- A run: no table's range is empty, and the tables lie apart, in the order of keys.
abbrev pub IsRun : List Table → Type 0
IsRun [] = Unit {0}
IsRun (t ∷ rest) = (at_most t.first t.last ≡ true) × AllByRecursion (λ u. is_below t.last u.first ≡ true) rest × IsRun rest

-- whether a table ends before the first of these begins
abbrev pub is_before_first : Table → List Table → Bool
is_before_first t [] = true
is_before_first t (u ∷ rest) = is_below t.last u.first

-- whether tables are a run
abbrev pub is_run : List Table → Bool
is_run [] = true
is_run (t ∷ rest) = at_most t.first t.last && (is_before_first t rest && is_run rest)

-- the versions of tables, in their order
abbrev pub versions_of : List Table → List Version
versions_of [] = []
versions_of (t ∷ rest) = t.versions ++ versions_of rest
