-- Which manifests a superblock may name.
use Rattle.std.proofs.Common.{◌≡◌, ◌≤◌, ◌==◌, ℕ, List, [], Decides, sym, subst}
use Rattle.std.specs.List.{list_all}
use Rattle.std.proofs.lemmas.Bool.Decides.{Decides-and, Decides-eqb}
use Rattle.std.proofs.lemmas.List.Elements.{All-nil}
use Rattle.lsm_codec.specs.declared.superblock.Superblock.{Superblock}
use Rattle.lsm_codec.specs.declared.table_record.TableRecord.{TableRecord}
use Rattle.lsm_codec.specs.Geometry.{data_blocks_of}
use Rattle.lsm_codec.specs.Manifests.{Contents}
use Rattle.lsm_codec.specs.Superblocks.{IsSuperblock}
use Rattle.lsm_codec.specs.TableRecords.{extent_end}
use Rattle.lsm_codec.proofs.Limits.{at_most-Decides, all-Decides}
use Rattle.lsm_root.specs.Layout.{IsGeometry, LieInside}
use Rattle.lsm_root.specs.Roots.{lies_inside, may_name}

-- the sizes of a superblock are within the limits
pub has_geometry : (s : Superblock) → IsSuperblock s → IsGeometry s.sectors s.log_sectors
has_geometry s limits = record { device = record { low = limits.sectors_low; high = limits.sectors_high }; log_low = limits.log_low; log_high = limits.log_high }

inside-Decides : (size log : ℕ) (tables : List TableRecord) → Decides (list_all (lies_inside (data_blocks_of size log)) tables) (LieInside size log tables)
inside-Decides size log tables =
    all-Decides (lies_inside (data_blocks_of size log)) (λ t. extent_end t ≤ data_blocks_of size log) (λ t. at_most-Decides (extent_end t) (data_blocks_of size log)) tables

-- exactly those of its generation whose tables are in the data area
pub may_name-Decides : (s : Superblock) (c : Contents) → Decides (may_name s c) ((c.generation ≡ s.generation) × LieInside s.sectors s.log_sectors c.tables)
may_name-Decides s c =
    Decides-and (c.generation == s.generation) (list_all (lies_inside (data_blocks_of s.sectors s.log_sectors)) c.tables)
    (Decides-eqb c.generation s.generation) (inside-Decides s.sectors s.log_sectors c.tables)

-- where there is no table, none is outside the data area
pub none_elsewhere : (size log : ℕ) (tables : List TableRecord) → tables ≡ [] → LieInside size log tables
none_elsewhere size log tables none = subst (LieInside size log) (sym none) (All-nil (λ (t : TableRecord). extent_end t ≤ data_blocks_of size log))
