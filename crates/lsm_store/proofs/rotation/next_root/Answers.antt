use Rattle.std.proofs.Common.{◌≡◌, length, sym, ◌∙◌, subst}
use Rattle.lsm_codec.specs.Manifests.{IsManifestOf}
use Rattle.lsm_codec.specs.declared.superblock.FormatVersion.TheVariants.{Two}
use Rattle.lsm_open.specs.Layout.{layout_of}
use Rattle.lsm_open.specs.Placements.{contents_for}
use Rattle.lsm_open.specs.ToldTables.{records_of}
use Rattle.lsm_open.proofs.NamedRecords.{records_told}
use Rattle.lsm_store.proofs.rotation.next_root.Goals as goal

pub prepare-requires-clause-valid : goal.prepare-requires-clause-valid
prepare-requires-clause-valid g c =
    let told : c.deref.result.now ≡ records_of c.args.levels.now = c.deref.ensures.value ∙ c.in_ok-records.ensures in
    λ low. subst (IsManifestOf Two)
    (sym (c.in_ok-manifest.ensures ∙ (λ i. contents_for (record { logs = layout_of c.args.regions.now; runs = length (c.runs.ensures.same i); tables = told i }))))
    (record { fits = c.requires.manifest; records = records_told c.args.levels.now })
