use Rattle.std.proofs.Common.{◌≡◌, drop}
use Rattle.lsm_jobs.specs.Holding.{free_from}
use Rattle.lsm_jobs.proofs.slots.free_place.Given as goal

abbrev pub invariant-loop-place : goal.invariant-loop-place
invariant-loop-place g l = free_from l.place (drop l.place l.slots) ≡ free_from 0 l.slots
