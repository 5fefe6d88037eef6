use Rattle.std.proofs.Common.{◌≡◌, replicate, true}
use Rattle.lsm_explore.proofs.masks.all_kept.Given as goal

abbrev pub invariant-loop : goal.invariant-loop
invariant-loop g l = l.mask.items ≡ replicate l.counter true
