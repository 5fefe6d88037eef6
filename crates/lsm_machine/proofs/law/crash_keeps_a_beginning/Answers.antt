use Rattle.lsm_machine.proofs.Flights.{one_in_flight}
use Rattle.lsm_machine.proofs.Promises.{promise}
use Rattle.lsm_machine.proofs.law.crash_keeps_a_beginning.Goals as goal

pub returns-clause-promise : goal.returns-clause-promise
returns-clause-promise c = promise

pub returns-clause-at_most_one : goal.returns-clause-at_most_one
returns-clause-at_most_one c = one_in_flight
