use Rattle.std.proofs.Common.{◌≡◌, map}
use Rattle.lsm_explore.specs.Masks.{each_mask}
use Rattle.lsm_explore.proofs.masks.each_mask.Given as goal

abbrev pub invariant-loop : goal.invariant-loop
invariant-loop g l = map (λ mask. mask.items) l.masks.items ≡ each_mask l.counter
