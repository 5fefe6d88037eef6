use Rattle.lsm_store.specs.Backing.{machine_of}
use Rattle.lsm_trail.proofs.Shown.{no_result}
use Rattle.lsm_trail.proofs.entry.TrailEntry.of_work.Given as goal

abbrev pub ghost-by_store : goal.ghost-by_store
ghost-by_store g a = record { made = no_result; machine = machine_of a._store.now }
