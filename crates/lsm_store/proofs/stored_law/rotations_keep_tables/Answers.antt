use Rattle.lsm_store.proofs.InstalledTables.{rotated_maps, rotate_goes_on}
use Rattle.lsm_store.proofs.RotatedManifests.{goes_on_numbered, rotate_keeps_numbered, rotated_fits}
use Rattle.lsm_store.proofs.stored_law.rotations_keep_tables.Goals as goal

pub returns-clause-next : goal.returns-clause-next
returns-clause-next c = λ p s d o stored none used generation new. rotate_goes_on p s d stored none used generation o new

pub returns-clause-maps : goal.returns-clause-maps
returns-clause-maps c = rotated_maps

pub returns-clause-fits : goal.returns-clause-fits
returns-clause-fits c = λ p s d o n stored none used generation new low high. rotated_fits p s d stored none used generation o new n low high

pub returns-clause-numbered : goal.returns-clause-numbered
returns-clause-numbered c = goes_on_numbered

pub returns-clause-jobs : goal.returns-clause-jobs
returns-clause-jobs c = rotate_keeps_numbered
