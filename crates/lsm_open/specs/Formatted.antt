-- What a format leaves, and how it answers.
use Rattle.std.specs.Prelude.{◌≡◌, ◌≢◌, ◌<◌, ℕ, [], Result, Ok, Err}
use Rattle.lsm_codec.specs.Formats.{blank}
use Rattle.lsm_codec.specs.Manifests.{Contents}
use Rattle.lsm_codec.specs.declared.superblock.FormatVersion.TheVariants.{Two}
use Rattle.lsm_device.specs.Disk.{Disk}
use Rattle.lsm_device.specs.declared.refusal.Refusal.{Refusal}
use Rattle.lsm_open.specs.Tables.{first_data}
use Rattle.lsm_root.specs.Roots.{IsInVersion, Stands, sector_at, superblock_in, root_of}

-- the manifest of an empty store
abbrev pub empty_manifest : Contents
empty_manifest = record { generation = 1; base = 0; next_table = 1; runs = 0; logs = []; tables = [] }

-- Nothing pends, the root of an empty store stands, in version 2 of the format, and before the data area all is zeros but for the sectors that it stands
-- in: 1 has its superblock, and 66 its manifest.
pub record IsFormatted (log : ℕ) (d : Disk) : Type 0 where
  pub settled : d.pending ≡ []
  pub root : root_of d.stands ≡ Stands log empty_manifest
  pub version : IsInVersion Two (superblock_in d.stands)
  pub zeros : (at : ℕ) → at < first_data log → at ≢ 1 → at ≢ 66 → sector_at d.stands at ≡ blank

-- the device that an answer hands back
abbrev pub handed_back : {D : Type 0} → Result D (Refusal × D) → D
handed_back (Ok device) = device
handed_back (Err refused) = refused.1

-- the answer alone
abbrev pub without_device : {D : Type 0} → Result D (Refusal × D) → Result (Unit {0}) Refusal
without_device (Ok device) = Ok tt
without_device (Err refused) = Err refused.0
