use Rattle.std.proofs.Common.{◌≡◌, take}
use Rattle.lsm_merge.specs.Loops.{shown}
use Rattle.lsm_merge.proofs.merging.referred.Given as goal

abbrev pub invariant-loop-entry : goal.invariant-loop-entry
invariant-loop-entry g l = shown l.all.items ≡ take l.entry-index l.entries
