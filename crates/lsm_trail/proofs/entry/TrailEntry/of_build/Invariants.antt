use Rattle.lsm_store.specs.Backing.{machine_of}
use Rattle.lsm_trail.proofs.Shown.{lent}
use Rattle.lsm_trail.proofs.entry.TrailEntry.of_build.Given as goal

abbrev pub ghost-by_input : goal.ghost-by_input
ghost-by_input g a = record { made = lent a._input.now; machine = machine_of a._store.now }
