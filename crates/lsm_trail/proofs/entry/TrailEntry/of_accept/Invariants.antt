use Rattle.lsm_store.specs.Backing.{machine_of}
use Rattle.lsm_trail.proofs.entry.TrailEntry.of_accept.Given as goal

abbrev pub ghost-by_result : goal.ghost-by_result
ghost-by_result g a = record { made = a._built.now; machine = machine_of a._store.now }
