-- The laws of the formats.
use Rattle.std.proofs.Common.{◌≡◌, ℕ, ◌≤◌, List, None, get_or, ap, arith}
use Rattle.lsm_codec.specs.Map.{Operation}
use Rattle.lsm_codec.specs.BatchText.{IsBatch, sectors_of}
use Rattle.lsm_codec.specs.Superblocks.{superblock_sector, superblock_of}
use Rattle.lsm_codec.specs.LogSectors.{log_sector, part_of}
use Rattle.lsm_codec.specs.Manifests.{Contents, IsManifest, sector_count}
use Rattle.lsm_codec.specs.Formats.{blank, SuperblockLaws, PartLaws, BatchTextLaws, ManifestLaws, DataBlockLaws, IndexLaws, FooterLaws}
use Rattle.lsm_codec.proofs.Decoding.{no_answer}
use Rattle.lsm_codec.proofs.Bytes.{of_superblock, of_part, of_batch, of_manifest}
use Rattle.lsm_codec.proofs.SuperblockLaws.{superblock_of_exact, superblock_format, length-superblock_sector}
use Rattle.lsm_codec.proofs.LogSectorLaws.{part_of_exact, log_sector_format, length-log_sector}
use Rattle.lsm_codec.proofs.BatchLaws.{batch_format, text_length_low}
use Rattle.lsm_codec.proofs.DataBlockLaws.{block_format, length-data_block}
use Rattle.lsm_codec.proofs.IndexLaws.{index_format, length-index_blocks, index_low, index_high}
use Rattle.lsm_codec.proofs.FooterLaws.{footer_format, length-footer_block}
use Rattle.lsm_codec.proofs.ManifestLaws.{manifest_format, length-manifest_text, manifest_text_most, length-manifest_bytes}

-- a sector of zeros does not begin with the letters
superblock_of-blank : superblock_of blank ≡ None
unfolding superblock_sector
superblock_of-blank = no_answer (superblock_of_exact blank) (λ s fits e. absurd (omega (arith, ap (λ (b : List ℕ). get_or b 0 0) e)))

part_of-blank : part_of blank ≡ None
unfolding log_sector
part_of-blank = no_answer (part_of_exact blank) (λ p fits e. absurd (omega (arith, ap (λ (b : List ℕ). get_or b 0 0) e)))

sectors_of_low : (os : List Operation) → IsBatch os → 1 ≤ sectors_of os
sectors_of_low os fits = omega (arith, text_length_low os fits)

sectors_of_high : (os : List Operation) → IsBatch os → sectors_of os ≤ 128
sectors_of_high os fits = omega (arith, fits.fits)

sector_count_low : (c : Contents) → 1 ≤ sector_count c
sector_count_low c = omega (arith, length-manifest_text c)

sector_count_high : (c : Contents) → IsManifest c → sector_count c ≤ 41
sector_count_high c fits = omega (arith, manifest_text_most c, fits.numbers.logs, fits.numbers.tables)

pub superblock_laws_hold : SuperblockLaws
superblock_laws_hold = record { format = superblock_format; size = length-superblock_sector; bytes = of_superblock; none = superblock_of-blank }

pub part_laws_hold : PartLaws
part_laws_hold = record { format = log_sector_format; size = length-log_sector; bytes = of_part; none = part_of-blank }

pub batch_text_laws_hold : BatchTextLaws
batch_text_laws_hold = record { format = batch_format; bytes = of_batch; size = text_length_low; sectors_low = sectors_of_low; sectors_high = sectors_of_high }

pub manifest_laws_hold : ManifestLaws
manifest_laws_hold = record { format = manifest_format; size = length-manifest_bytes; bytes = of_manifest; sectors_low = sector_count_low; sectors_high = sector_count_high }

pub data_block_laws_hold : DataBlockLaws
data_block_laws_hold = record { format = block_format; size = length-data_block }

pub index_laws_hold : IndexLaws
index_laws_hold = record { format = index_format; size = length-index_blocks; length_low = index_low; length_high = index_high }

pub footer_laws_hold : FooterLaws
footer_laws_hold = record { format = footer_format; size = length-footer_block }
