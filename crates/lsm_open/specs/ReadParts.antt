-- What an opening has read before it writes.
use Rattle.std.specs.Prelude.{◌≡◌, ◌≢◌, ◌↔◌, ℕ, ◌+◌, ◌*◌, Bool, false, IsTrue, List, [], length, Option, Some, None}
use Rattle.std.specs.List.{AllByRecursion}
use Rattle.lsm_codec.specs.Geometry.{data_blocks_of}
use Rattle.lsm_codec.specs.Manifests.{Contents, IsManifest}
use Rattle.lsm_codec.specs.Versions.{Version, IsEntry, AreOrdered}
use Rattle.lsm_codec.specs.declared.log_record.LogRecord.{LogRecord}
use Rattle.lsm_codec.specs.declared.table_record.TableRecord.{TableRecord}
use Rattle.lsm_device.specs.Calls.{AtMost, faults_after}
use Rattle.lsm_device.specs.Medium.{Medium}
use Rattle.lsm_extent.specs.Area.{Area}
use Rattle.lsm_levels.specs.Held.{AreRuns}
use Rattle.lsm_levels.specs.Levels.{Levels, places}
use Rattle.lsm_levels.specs.Stored.{AreWithin, AreNumberedBelow}
use Rattle.lsm_mem.specs.EntryOrder.{with_batches}
use Rattle.lsm_mem.specs.Versions.{NumberedBelow, sealed_versions}
use Rattle.lsm_open.specs.Counting.{IsCountedRoot, all_uncounted, all_data}
use Rattle.lsm_root.specs.CrashState.{last_number}
use Rattle.lsm_open.specs.Image.{count_in}
use Rattle.lsm_open.specs.LogRegions.{all_batches}
use Rattle.lsm_open.specs.Reopening.{kept_records, HasCome}
use Rattle.lsm_open.specs.Tables.{first_data, AreTables}
use Rattle.lsm_open.specs.ToldTables.{told_levels, blocks_beside_data, AreOutlined, HaveNamed, Held, AreThose}
use Rattle.lsm_root.specs.Installed.{IsNext}
use Rattle.lsm_root.specs.Layout.{IsGeometry, LieInside}
use Rattle.lsm_root.specs.Roots.{Root, Stands, superblock_in}

-- how many sectors an opening reads at most of a store with these tables, where it reads this number of data blocks: its root,
-- footer, index and filter of each table, these blocks, and the log regions
abbrev pub sectors_read : ℕ → ℕ → List TableRecord → ℕ
sectors_read blocks log_sectors tables = 66 + 8 * (blocks_beside_data tables + blocks) + 3 * log_sectors

-- and by the root of the device: the data blocks are those of tables whose records tell no deletes, which are all in version 1 of
-- the format and none in version 2; nothing after the root is read where no manifest stands
abbrev pub sectors_read_by : Root → ℕ
sectors_read_by (Stands log_sectors m) = sectors_read (all_uncounted m.tables) log_sectors m.tables
sectors_read_by other = 66

-- and of any device, by the tables that the next manifest names
abbrev pub sectors_read_most : ℕ → List TableRecord → ℕ
sectors_read_most log_sectors tables = sectors_read (all_data tables) log_sectors tables

-- What holds of the parts that were read, whatever the device held: the manifest is within the limits and there is a next
-- generation, its regions were replayed to the end, memory is sealed where a region is kept, and levels and extents are
-- those of the tables that it names.
pub record AreRead (size log_sectors : ℕ) (m : Contents) (closed : List LogRecord) (count : ℕ) (sealed : Option (List Version)) (levels : Levels) (extents : Area) : Type 0 where
  pub geometry : IsGeometry size log_sectors
  pub fits : IsManifest m
  pub inside : LieInside size log_sectors m.tables
  pub has_next : m.generation ≢ last_number
  pub come : HasCome m count closed []
  pub sealed_if : (sealed ≡ None) ↔ (length closed ≡ 0)
  pub numbered : NumberedBelow (count + 1) (sealed_versions sealed)
  pub entries : AllByRecursion IsEntry (sealed_versions sealed)
  pub ordered : AreOrdered (sealed_versions sealed)
  pub runs : AreRuns levels
  pub named : HaveNamed m levels
  pub within : AreWithin size (first_data log_sectors) (places levels)
  pub outlined : AreOutlined (places levels)
  pub numbers : AreNumberedBelow m.next_table (places levels)
  pub held : Held (data_blocks_of size log_sectors) m.tables extents

-- What they say of the sectors that they were read from: the manifest is the one that stands there, with each table counted.
pub record AreToldBy (size log_sectors : ℕ) (sectors : List (List ℕ)) (m : Contents) (closed : List LogRecord) (count : ℕ) (sealed : Option (List Version)) (levels : Levels) : Type 0 where
  pub root : IsCountedRoot log_sectors m sectors
  pub next : IsNext size log_sectors (m.generation + 1) (superblock_in sectors)
  pub kept : closed ≡ kept_records log_sectors sectors m.logs
  pub counts : count ≡ count_in log_sectors sectors m
  pub remembers : sealed_versions sealed ≡ with_batches m.base (all_batches log_sectors sectors m.logs) []
  pub told : told_levels log_sectors sectors m ≡ Some levels
  pub stored : AreTables log_sectors m.base m.tables sectors → AreThose log_sectors m.base sectors m.tables levels

-- At most `reads` sectors were read, and nothing else was done to a device: `ok` is false just where a call faulted, which
-- was the last one.
pub record ReadsAtMost (reads : ℕ) (ok : Bool) (old new : Medium) : Type 0 where
  pub calls : AtMost reads 0 0 old.calls new.calls
  pub faults : new.calls.faults ≡ faults_after ok old.calls.faults
  pub stops : ok ≡ false → IsTrue new.calls.last_faulted
  pub unchanged : IsTrue old.lasting.tells → new.history ≡ old.history
  pub same_size : new.size ≡ old.size
  pub same_lasting : new.lasting ≡ old.lasting
