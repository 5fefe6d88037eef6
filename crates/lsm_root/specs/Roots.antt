-- The root of a store: what its superblocks and the manifest that they name say.
use Rattle.std.specs.Prelude.{◌≡◌, ℕ, ◌+◌, ◌%◌, Bool, true, false, ◌&&◌, ◌==◌, nat_le, nat_lt, List, [], length, slice_index_or, Option, Some, None, if◌then◌else◌}
use Rattle.std.specs.List.{list_all}
use Rattle.std.specs.Str.{bytes_eq}
use Rattle.lsm_codec.specs.declared.superblock.FormatVersion.{FormatVersion}
use Rattle.lsm_codec.specs.declared.superblock.FormatVersion.TheVariants.{One, Two}
use Rattle.lsm_codec.specs.declared.superblock.Superblock.{Superblock}
use Rattle.lsm_codec.specs.declared.table_record.TableRecord.{TableRecord}
use Rattle.lsm_codec.specs.Geometry.{data_blocks_of}
use Rattle.lsm_codec.specs.Superblocks.{superblock_of}
use Rattle.lsm_codec.specs.Manifests.{Contents, manifest_of}
use Rattle.lsm_codec.specs.TableRecords.{extent_end}
use Rattle.lsm_codec.specs.Formats.{blank}
use Rattle.lsm_device.specs.Areas.{area}
use Rattle.lsm_root.specs.Layout.{place}
use Rattle.lsm_root.specs.Pieces.{joined}

-- what a superblock's sector says, or both of them together
pub data Reading : Type 0 where
  Blank : Reading
  Broken : Reading
  Names : Superblock → Reading

abbrev pub named : Option Superblock → Reading
named None = Broken
named (Some s) = Names s

-- zeros are blank, and every other sector spells a superblock or is broken
unfoldable pub reading_of : List ℕ → Reading
reading_of sector = if bytes_eq sector blank then Blank else named (superblock_of sector)

-- the superblock of generation g is in sector g mod 2
abbrev pub in_slot : ℕ → Reading → Reading
in_slot slot Blank = Blank
in_slot slot Broken = Broken
in_slot slot (Names s) = if s.generation % 2 == slot then Names s else Broken

-- whether a version may come after another: version 1 doesn't come after version 2
abbrev pub may_follow : FormatVersion → FormatVersion → Bool
may_follow One later = true
may_follow Two One = false
may_follow Two Two = true

-- the second follows the first: one generation more, of the same sizes, in a version that may come after
abbrev pub follows : Superblock → Superblock → Bool
follows s t = (t.generation == s.generation + 1) && ((t.sectors == s.sectors) && ((t.log_sectors == s.log_sectors) && may_follow s.version t.version))

-- the superblock that counts: a lone one, or that of the greater generation
abbrev pub newer : Reading → Reading → Reading
newer Blank b = b
newer Broken b = Broken
newer (Names s) Blank = Names s
newer (Names s) Broken = Broken
newer (Names s) (Names t) = if follows t s then Names s else (if follows s t then Names t else Broken)

-- the superblock that counts is of this version
abbrev pub IsInVersion : FormatVersion → Reading → Type 0
IsInVersion version Blank = ⊥
IsInVersion version Broken = ⊥
IsInVersion version (Names s) = s.version ≡ version

abbrev pub sector_at : List (List ℕ) → ℕ → List ℕ
sector_at image at = slice_index_or image at []

abbrev pub superblock_in : List (List ℕ) → Reading
superblock_in image = newer (in_slot 0 (reading_of (sector_at image 0))) (in_slot 1 (reading_of (sector_at image 1)))

-- the bytes of the sectors that a superblock names
abbrev pub text_in : Superblock → List (List ℕ) → List ℕ
text_in s image = joined (area (place s.generation) s.manifest_sectors image)

-- what a store is loaded from
pub data Root : Type 0 where
  -- both superblocks are blank
  Missing : Root
  -- no superblock counts
  Damaged : Root
  -- the one that counts is of a device of another size, or there is no room for two
  OtherSize : Root
  -- the sectors that it names spell no manifest, or one that it may not name
  Unreadable : Root
  -- LOG and the manifest
  Stands : (log : ℕ) (manifest : Contents) → Root

-- whether a table's extent is inside a data area of `blocks` blocks
abbrev pub lies_inside : ℕ → TableRecord → Bool
lies_inside blocks t = nat_le (extent_end t) blocks

-- whether a superblock may name a manifest: it is of the superblock's generation, and its tables are in the data area
abbrev pub may_name : Superblock → Contents → Bool
may_name s c = (c.generation == s.generation) && list_all (lies_inside (data_blocks_of s.sectors s.log_sectors)) c.tables

abbrev pub root_with : Superblock → Option Contents → Root
root_with s None = Unreadable
root_with s (Some c) = if may_name s c then Stands s.log_sectors c else Unreadable

abbrev pub root_by : Reading → List (List ℕ) → Root
root_by Blank image = Missing
root_by Broken image = Damaged
root_by (Names s) image = if s.sectors == length image then root_with s (manifest_of s.version (text_in s image)) else OtherSize

abbrev pub root_of : List (List ℕ) → Root
root_of image = if nat_lt (length image) 2 then OtherSize else root_by (superblock_in image) image
