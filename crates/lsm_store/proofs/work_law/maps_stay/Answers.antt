use Rattle.lsm_store.proofs.InstalledMaps.{install_law, rotation_law, commit_law}
use Rattle.lsm_store.proofs.work_law.maps_stay.Goals as goal

pub returns-clause-install : goal.returns-clause-install
returns-clause-install c = install_law

pub returns-clause-rotation : goal.returns-clause-rotation
returns-clause-rotation c = rotation_law

pub returns-clause-commit : goal.returns-clause-commit
returns-clause-commit c = commit_law
