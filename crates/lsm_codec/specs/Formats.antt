-- The laws of the formats.
use Rattle.std.specs.Prelude.{◌≡◌, ◌≤◌, ◌*◌, ℕ, List, length, replicate, Option, Some, None}
use Rattle.std.specs.List.{AllByRecursion}
use Rattle.lsm_codec.specs.Keys.{IsBytes}
use Rattle.lsm_codec.specs.Map.{Operation}
use Rattle.lsm_codec.specs.BatchText.{IsBatch, text_length, sectors_of, batch_text, batch_of}
use Rattle.lsm_codec.specs.Superblocks.{IsSuperblock, superblock_sector, superblock_of}
use Rattle.lsm_codec.specs.LogSectors.{Part, IsPart, log_sector, part_of}
use Rattle.lsm_codec.specs.Manifests.{Contents, IsManifest, IsManifestOf, sector_count, manifest_bytes, manifest_of}
use Rattle.lsm_codec.specs.Versions.{Version}
use Rattle.lsm_codec.specs.Entries.{IsDataBlock, data_block, block_of}
use Rattle.lsm_codec.specs.Indexes.{Edge, IsIndex, index_length, index_count, index_blocks, index_of}
use Rattle.lsm_codec.specs.Footers.{Summary, IsSummary, footer_block, footer_of}
use Rattle.lsm_codec.specs.declared.superblock.FormatVersion.{FormatVersion}
use Rattle.lsm_codec.specs.declared.superblock.Superblock.{Superblock}

-- A spelling is decoded to its value, what is decoded is spelled by the bytes, and a spelling determines its value.
pub record IsFormat {X : Type 0} (Fits : X → Type 0) (spelling : X → List ℕ) (value_of : List ℕ → Option X) : Type 0 where
  pub decoded : (x : X) → Fits x → value_of (spelling x) ≡ Some x
  pub spelled : (bytes : List ℕ) (x : X) → value_of bytes ≡ Some x → Fits x × (bytes ≡ spelling x)
  pub injective : (x y : X) → Fits x → Fits y → spelling x ≡ spelling y → x ≡ y

-- a sector of zeros
abbrev pub blank : List ℕ
blank = replicate 512 0

pub record SuperblockLaws : Type 0 where
  pub format : IsFormat IsSuperblock superblock_sector superblock_of
  pub size : (s : Superblock) → length (superblock_sector s) ≡ 512
  pub bytes : (s : Superblock) → IsBytes (superblock_sector s)
  pub none : superblock_of blank ≡ None

pub record PartLaws : Type 0 where
  pub format : IsFormat IsPart log_sector part_of
  pub size : (p : Part) → IsPart p → length (log_sector p) ≡ 512
  pub bytes : (p : Part) → IsBytes p.payload → IsBytes (log_sector p)
  pub none : part_of blank ≡ None

-- key and value are bytes
pub record HasBytes (operation : Operation) : Type 0 where
  pub key : IsBytes operation.key
  pub value : (value : List ℕ) → operation.value ≡ Some value → IsBytes value

pub record BatchTextLaws : Type 0 where
  pub format : IsFormat IsBatch batch_text batch_of
  pub bytes : (operations : List Operation) → AllByRecursion HasBytes operations → IsBytes (batch_text operations)
  pub size : (operations : List Operation) → IsBatch operations → 5 ≤ text_length operations
  pub sectors_low : (operations : List Operation) → IsBatch operations → 1 ≤ sectors_of operations
  pub sectors_high : (operations : List Operation) → IsBatch operations → sectors_of operations ≤ 128

pub record ManifestLaws : Type 0 where
  pub format : (version : FormatVersion) → IsFormat (IsManifestOf version) manifest_bytes (manifest_of version)
  pub size : (c : Contents) → length (manifest_bytes c) ≡ 512 * sector_count c
  pub bytes : (c : Contents) → IsBytes (manifest_bytes c)
  pub sectors_low : (c : Contents) → 1 ≤ sector_count c
  pub sectors_high : (c : Contents) → IsManifest c → sector_count c ≤ 41

pub record DataBlockLaws : Type 0 where
  pub format : IsFormat IsDataBlock data_block block_of
  pub size : (entries : List Version) → IsDataBlock entries → length (data_block entries) ≡ 4096

pub record IndexLaws : Type 0 where
  pub format : (count : ℕ) → IsFormat (IsIndex count) index_blocks (index_of count)
  pub size : (edges : List Edge) → length (index_blocks edges) ≡ 4096 * index_count edges
  pub length_low : (count : ℕ) (edges : List Edge) → IsIndex count edges → 10 * count ≤ index_length edges
  pub length_high : (count : ℕ) (edges : List Edge) → IsIndex count edges → index_length edges ≤ 264 * count

pub record FooterLaws : Type 0 where
  pub format : IsFormat IsSummary footer_block footer_of
  pub size : (f : Summary) → IsSummary f → length (footer_block f) ≡ 4096
