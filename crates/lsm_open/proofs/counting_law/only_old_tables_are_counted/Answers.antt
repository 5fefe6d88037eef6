use Rattle.std.proofs.Common.{subst}
use Rattle.lsm_codec.specs.Manifests.{IsManifestOf}
use Rattle.lsm_codec.specs.declared.superblock.FormatVersion.{FormatVersion}
use Rattle.lsm_open.proofs.CountedReads.{none_uncounted, all_are_uncounted}
use Rattle.lsm_root.proofs.Standing.{its_version}
use Rattle.lsm_open.proofs.counting_law.only_old_tables_are_counted.Goals as goal

pub returns-clause-new : goal.returns-clause-new
returns-clause-new c = λ n m sectors s names root version. none_uncounted m.tables (subst (λ (v : FormatVersion). IsManifestOf v m) version (its_version sectors n m s names root)).records

pub returns-clause-old : goal.returns-clause-old
returns-clause-old c = λ n m sectors s names root version. all_are_uncounted m.tables (subst (λ (v : FormatVersion). IsManifestOf v m) version (its_version sectors n m s names root)).records
