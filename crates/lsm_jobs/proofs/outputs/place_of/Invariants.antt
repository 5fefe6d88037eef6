use Rattle.std.proofs.Common.{◌≡◌, drop}
use Rattle.lsm_jobs.specs.Outputs.{place_in}
use Rattle.lsm_jobs.proofs.outputs.place_of.Given as goal

abbrev pub invariant-loop-i : goal.invariant-loop-i
invariant-loop-i g l = place_in l.i l.rest (drop l.i l.images) ≡ place_in 0 l.at l.images
