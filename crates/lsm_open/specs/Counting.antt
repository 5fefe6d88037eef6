-- How many of the tables' entries are deletes: as the records of a manifest tell, or else as data blocks hold.
use Rattle.std.specs.Prelude.{◌≡◌, ℕ, ◌+◌, ◌==◌, List, [], ◌∷◌, length, sum_by, Option, Some, None, option_map, if◌then◌else◌}
use Rattle.lsm_codec.specs.Manifests.{Contents}
use Rattle.lsm_codec.specs.Reading.{◌>>=◌}
use Rattle.lsm_codec.specs.Versions.{Version, deletes_in}
use Rattle.lsm_codec.specs.declared.table_record.TableRecord.{TableRecord}
use Rattle.lsm_open.specs.declared.counting.Count.{Count}
use Rattle.lsm_open.specs.Tables.{blocks_at}
use Rattle.lsm_root.specs.Roots.{Root, Stands, root_of}
use Rattle.lsm_table.specs.Division.{TableBlocks, entries_of}
use Rattle.lsm_table.specs.Stored.{table_in}

-- a count with these entries more
abbrev pub counted_more : Count → List Version → Count
counted_more count entries = record { entries = count.entries + length entries; deletes = count.deletes + deletes_in entries }

-- the deletes of a table, where it has as many entries as its record says
abbrev pub deletes_counted : ℕ → Option TableBlocks → Option ℕ
deletes_counted entries None = None
deletes_counted entries (Some table) = if length (entries_of table) == entries then Some (deletes_in (entries_of table)) else None

-- what is told comes before what is counted
abbrev pub told_or : Option ℕ → Option ℕ → Option ℕ
told_or (Some deletes) counted = Some deletes
told_or None counted = counted

-- the deletes of a record's table: those that the record tells, or else those that its data blocks hold, if they spell as
-- many entries as it says
abbrev pub deletes_of : ℕ → List (List ℕ) → TableRecord → Option ℕ
deletes_of log_sectors sectors t = told_or t.deletes (deletes_counted t.entries (table_in t.data_blocks (blocks_at log_sectors sectors t)))

-- a record with this number of deletes
abbrev pub with_deletes : TableRecord → ℕ → TableRecord
with_deletes t deletes = record t { deletes = Some deletes }

-- a record that tells the deletes of its table, where they are known
abbrev pub counted_record : ℕ → List (List ℕ) → TableRecord → Option TableRecord
counted_record log_sectors sectors t = option_map (with_deletes t) (deletes_of log_sectors sectors t)

-- so it is with records one after the other, where each is counted
abbrev pub counted_records : ℕ → List (List ℕ) → List TableRecord → Option (List TableRecord)
counted_records log_sectors sectors [] = Some []
counted_records log_sectors sectors (t ∷ rest) = counted_record log_sectors sectors t >>= λ u. counted_records log_sectors sectors rest >>= λ us. Some (u ∷ us)

-- what a record says except for the deletes
abbrev pub without_deletes : TableRecord → TableRecord
without_deletes t = record t { deletes = None }

abbrev pub with_tables : Contents → List TableRecord → Contents
with_tables m tables = record m { tables = tables }

-- What version 2 of the format says of a manifest: the same, and of each table the deletes. In version 2 it is the manifest
-- itself; of version 1 it is none where data blocks don't encode as many entries as a record says.
abbrev pub counted : ℕ → List (List ℕ) → Contents → Option Contents
counted log_sectors sectors m = option_map (with_tables m) (counted_records log_sectors sectors m.tables)

-- The manifest that stands in sectors is this one, once each of its tables is counted.
pub record IsCountedRoot (log_sectors : ℕ) (m : Contents) (sectors : List (List ℕ)) : Type 0 where
  pub stood : Contents
  pub root : root_of sectors ≡ Stands log_sectors stood
  pub counted_is : counted log_sectors sectors stood ≡ Some m

-- the data blocks that a count reads of a table: none where its record tells the deletes
abbrev pub uncounted_blocks : TableRecord → ℕ
uncounted_blocks t = elim t.deletes as (λ _. ℕ) [ Some deletes ↦ 0 | None ↦ t.data_blocks ]

abbrev pub all_uncounted : List TableRecord → ℕ
all_uncounted tables = sum_by uncounted_blocks tables

-- and by the root of the device: none where no manifest stands
abbrev pub uncounted_by : Root → ℕ
uncounted_by (Stands log_sectors m) = all_uncounted m.tables
uncounted_by other = 0

-- all data blocks of these tables
abbrev pub all_data : List TableRecord → ℕ
all_data tables = sum_by (λ t. t.data_blocks) tables
