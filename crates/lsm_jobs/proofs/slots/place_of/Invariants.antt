use Rattle.std.proofs.Common.{◌≡◌, drop}
use Rattle.lsm_jobs.specs.Holding.{place_from}
use Rattle.lsm_jobs.proofs.slots.place_of.Given as goal

abbrev pub invariant-loop-place : goal.invariant-loop-place
invariant-loop-place g l = place_from l.place l.number (drop l.place l.slots) ≡ place_from 0 l.number l.slots
