-- The manifest's records of tables: their limits, and their text.
use Rattle.std.specs.Prelude.{◌≡◌, ◌≢◌, ◌⊎◌, ℕ, zero, suc, ◌+◌, ◌≤◌, ◌<◌, ◌^◌, ◌==◌, ◌&&◌, ◌||◌, not, nat_le, nat_lt, Bool, true, false, List, [], length, ◌++◌, Option, Some, None, IfSome, is_some, if◌then◌else◌}
use Rattle.std.specs.List.{HoldsAt, list_any}
use Rattle.byteorder.specs.Endian.{big_bytes}
use Rattle.lsm_codec.specs.Spelling.{is_within}
use Rattle.lsm_codec.specs.Reading.{number_at, both, made}
use Rattle.lsm_codec.specs.declared.superblock.FormatVersion.{FormatVersion}
use Rattle.lsm_codec.specs.declared.superblock.FormatVersion.TheVariants.{One, Two}
use Rattle.lsm_codec.specs.declared.table_record.TableRecord.{TableRecord}

-- the blocks of a table's extent: data blocks, filter, index blocks and footer
abbrev pub extent_blocks : TableRecord → ℕ
extent_blocks t = t.data_blocks + t.index_blocks + 2

-- the block after a table's extent
abbrev pub extent_end : TableRecord → ℕ
extent_end t = t.first_block + extent_blocks t

-- how many runs a level has: level 0 has `runs`, every other level one
abbrev pub runs_in : ℕ → ℕ → ℕ
runs_in runs level = if level == 0 then runs else 1

-- how many blocks and entries a table has, and how many of the entries are deletes, where that is recorded
pub record HasSizes (t : TableRecord) : Type 0 where
  pub data_low : 1 ≤ t.data_blocks
  pub data_high : t.data_blocks ≤ 64
  pub index_low : 1 ≤ t.index_blocks
  pub index_high : t.index_blocks ≤ 5
  pub entries_low : 1 ≤ t.entries
  pub entries_high : t.entries ≤ 3200
  pub deletes : IfSome t.deletes (λ deletes. deletes ≤ t.entries)

-- the limits of a table record, where the next table has this number and level 0 has `runs` runs
pub record IsTableRecord (next runs : ℕ) (t : TableRecord) : Type 0 where
  pub number : t.number < next
  pub level : t.level ≤ 4
  pub run : t.run < runs_in runs t.level
  pub sizes : HasSizes t
  pub inside : extent_end t ≤ 2 ^ 32

-- whether records say how many deletes there are: in version 2 each does, in version 1 none
abbrev pub tells_deletes : FormatVersion → Bool
tells_deletes One = false
tells_deletes Two = true

-- a record is one of this version
abbrev pub IsOfVersion : FormatVersion → TableRecord → Type 0
IsOfVersion version t = is_some t.deletes ≡ tells_deletes version

-- records are ordered by level, then run
abbrev pub InOrder : TableRecord → TableRecord → Type 0
InOrder a b = (a.level < b.level) ⊎ ((a.level ≡ b.level) × (a.run ≤ b.run))

-- two extents have no block in common
abbrev pub AreApart : TableRecord → TableRecord → Type 0
AreApart a b = (extent_end a ≤ b.first_block) ⊎ (extent_end b ≤ a.first_block)

-- of two table records, the earlier and the later: other numbers, in order, extents apart
pub record TablesAgree (a b : TableRecord) : Type 0 where
  pub numbers : a.number ≢ b.number
  pub order : InOrder a b
  pub apart : AreApart a b

-- a record is one of this run of level 0
abbrev pub IsOfRun : ℕ → TableRecord → Type 0
IsOfRun run t = (t.level ≡ 0) × (t.run ≡ run)

-- one of the records is of this run of level 0
abbrev pub HasRun : List TableRecord → ℕ → Type 0
HasRun tables run = (k : ℕ) × (k < length tables) × HoldsAt (IsOfRun run) tables k

-- every run of level 0 below the count has a record
pub record HasRuns (runs : ℕ) (tables : List TableRecord) : Type 0 where
  pub each : (run : ℕ) → run < runs → HasRun tables run

-- the same limits, as tests
abbrev pub are_at_most : ℕ → Option ℕ → Bool
are_at_most entries (Some deletes) = nat_le deletes entries
are_at_most entries None = true

abbrev pub has_sizes : TableRecord → Bool
has_sizes t = is_within 1 64 t.data_blocks && (is_within 1 5 t.index_blocks && (is_within 1 3200 t.entries && are_at_most t.entries t.deletes))

abbrev pub is_of_version : FormatVersion → TableRecord → Bool
is_of_version One t = not (is_some t.deletes)
is_of_version Two t = is_some t.deletes

abbrev pub is_table_record : ℕ → ℕ → TableRecord → Bool
is_table_record next runs t =
    (nat_lt t.number next && (nat_le t.level 4 && nat_lt t.run (runs_in runs t.level))) && (has_sizes t && nat_le (extent_end t) (2 ^ 32))

abbrev pub is_in_order : TableRecord → TableRecord → Bool
is_in_order a b = nat_lt a.level b.level || (a.level == b.level && nat_le a.run b.run)

abbrev pub is_apart : TableRecord → TableRecord → Bool
is_apart a b = nat_le (extent_end a) b.first_block || nat_le (extent_end b) a.first_block

abbrev pub is_agreeing_table : TableRecord → TableRecord → Bool
is_agreeing_table a b = not (a.number == b.number) && (is_in_order a b && is_apart a b)

abbrev pub is_of_run : ℕ → TableRecord → Bool
is_of_run run t = t.level == 0 && t.run == run

abbrev pub has_run : List TableRecord → ℕ → Bool
has_run tables run = list_any (is_of_run run) tables

abbrev pub has_runs : ℕ → List TableRecord → Bool
has_runs zero tables = true
has_runs (suc n) tables = has_run tables n && has_runs n tables

-- ---- text

-- two bytes, or none where the record doesn't say how many
abbrev pub deletes_text : Option ℕ → List ℕ
deletes_text None = []
deletes_text (Some deletes) = big_bytes 2 deletes

-- the numbers that a record has in each version: 18 bytes
abbrev pub numbers_text : TableRecord → List ℕ
numbers_text t = big_bytes 8 t.number ++ (big_bytes 1 t.level ++ (big_bytes 1 t.run ++ (big_bytes 4 t.first_block ++ (big_bytes 1 t.data_blocks ++ (big_bytes 1 t.index_blocks ++ big_bytes 2 t.entries)))))

-- the text of a table record: 18 bytes, or 20 with the deletes
abbrev pub table_record : TableRecord → List ℕ
table_record t = numbers_text t ++ deletes_text t.deletes

-- the numbers at the front of bytes
unfoldable pub numbers_at : List ℕ → Option ((ℕ × (ℕ × (ℕ × (ℕ × (ℕ × (ℕ × ℕ)))))) × List ℕ)
numbers_at = both (number_at 8) (both (number_at 1) (both (number_at 1) (both (number_at 4) (both (number_at 1) (both (number_at 1) (number_at 2))))))

-- the deletes at the front of bytes, in this version
abbrev pub deletes_at : FormatVersion → List ℕ → Option (Option ℕ × List ℕ)
deletes_at One bytes = Some (None, bytes)
deletes_at Two bytes = made (λ deletes. Some deletes) (number_at 2) bytes

-- the table record at the front of bytes, in this version
unfoldable pub table_record_at : FormatVersion → List ℕ → Option (TableRecord × List ℕ)
table_record_at version =
    made (λ t. record { number = t.0.0; level = t.0.1.0; run = t.0.1.1.0; first_block = t.0.1.1.1.0; data_blocks = t.0.1.1.1.1.0; index_blocks = t.0.1.1.1.1.1.0; entries = t.0.1.1.1.1.1.1; deletes = t.1 })
    (both numbers_at (deletes_at version))
