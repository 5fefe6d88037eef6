use Rattle.lsm_store.proofs.InstalledTables.{installed_maps, next_ready, install_moments, install_stopped, install_stored, install_extents}
use Rattle.lsm_store.proofs.stored_law.installs_keep_tables.Goals as goal

pub returns-clause-ready : goal.returns-clause-ready
returns-clause-ready c = next_ready

pub returns-clause-moments : goal.returns-clause-moments
returns-clause-moments c = install_moments

pub returns-clause-stopped : goal.returns-clause-stopped
returns-clause-stopped c = install_stopped

pub returns-clause-stored : goal.returns-clause-stored
returns-clause-stored c = install_stored

pub returns-clause-extents : goal.returns-clause-extents
returns-clause-extents c = install_extents

pub returns-clause-maps : goal.returns-clause-maps
returns-clause-maps c = installed_maps
