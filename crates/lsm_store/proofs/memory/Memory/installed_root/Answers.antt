use Rattle.std.proofs.Common.{ℕ, sym, subst}
use Rattle.lsm_codec.specs.Manifests.{Contents, IsManifestOf}
use Rattle.lsm_codec.specs.declared.superblock.FormatVersion.TheVariants.{Two}
use Rattle.lsm_open.specs.ToldTables.{records_of}
use Rattle.lsm_open.proofs.NamedRecords.{records_told}
use Rattle.lsm_root.specs.Layout.{IsGeometry, LieInside}
use Rattle.lsm_store.proofs.InstalledMemory.{next_sectors}
use Rattle.lsm_store.proofs.memory.Memory.installed_root.Goals as goal

pub installed_manifest-requires-clause-few : goal.installed_manifest-requires-clause-few
installed_manifest-requires-clause-few g c = c.requires.within.manifest.numbers.runs

pub prepare-requires-clause-geometry : goal.prepare-requires-clause-geometry
prepare-requires-clause-geometry g c = subst (λ (n : ℕ). IsGeometry c.args.sectors n) (next_sectors c.args.self.now c.args.next.now.flush) c.requires.within.geometry

pub prepare-requires-clause-valid : goal.prepare-requires-clause-valid
prepare-requires-clause-valid g c = λ low. subst (IsManifestOf Two) (sym c.in_ok-manifest.ensures) (record { fits = c.requires.within.manifest; records = records_told c.args.next.now.levels })

pub prepare-requires-clause-inside : goal.prepare-requires-clause-inside
prepare-requires-clause-inside g c = λ low.
    subst (λ (x : Contents). LieInside c.args.sectors c.args.self.now.regions.log_sectors x.tables) (sym c.in_ok-manifest.ensures)
    (subst (λ (n : ℕ). LieInside c.args.sectors n (records_of c.args.next.now.levels)) (next_sectors c.args.self.now c.args.next.now.flush) c.requires.within.inside)
