-- The root that is to be installed.
use Rattle.std.specs.Prelude.{◌≡◌, ℕ, List, [], unwrap_or}
use Rattle.lsm_codec.specs.declared.superblock.FormatVersion.TheVariants.{Two}
use Rattle.lsm_codec.specs.declared.superblock.Superblock.{Superblock}
use Rattle.lsm_codec.specs.Superblocks.{IsSuperblock}
use Rattle.lsm_codec.specs.Manifests.{Contents, IsManifestOf, sector_count, manifest_bytes, manifest_of}
use Rattle.lsm_root.specs.Layout.{LieInside}

-- the size of the device and LOG, in sectors, and what the manifest says
pub record Planned : Type 0 where
  pub size : ℕ
  pub log : ℕ
  pub manifest : Contents

-- what the sectors of a manifest of version 2 say; an empty manifest for other sectors
abbrev pub contents_in : List ℕ → Contents
contents_in text = unwrap_or (manifest_of Two text) (record { generation = 0; base = 0; next_table = 0; runs = 0; logs = []; tables = [] })

-- what a superblock and the sectors of its manifest plan
abbrev pub planned : Superblock → List ℕ → Planned
planned s text = record { size = s.sectors; log = s.log_sectors; manifest = contents_in text }

-- the sectors are a manifest's of version 2 that the superblock may name, and the superblock names them
pub record IsPrepared (s : Superblock) (text : List ℕ) : Type 0 where
  pub superblock : IsSuperblock s
  pub version : s.version ≡ Two
  pub manifest : IsManifestOf Two (contents_in text)
  pub inside : LieInside s.sectors s.log_sectors (contents_in text).tables
  pub spelled : text ≡ manifest_bytes (contents_in text)
  pub generation : (contents_in text).generation ≡ s.generation
  pub sectors : s.manifest_sectors ≡ sector_count (contents_in text)
