use Rattle.std.proofs.Common.{◌≡◌, ◌++◌, ◌-◌, true}
use Rattle.lsm_explore.specs.Masks.{every_second}
use Rattle.lsm_explore.proofs.masks.every_second.Given as goal

-- with the places that are left it is the whole mask
abbrev pub invariant-loop : goal.invariant-loop
invariant-loop g l = l.mask.items ++ every_second l.keep (l.pending - l.counter) ≡ every_second true l.pending
