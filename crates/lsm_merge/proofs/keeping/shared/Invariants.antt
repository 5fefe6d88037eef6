use Rattle.std.proofs.Common.{◌≡◌, take}
use Rattle.lsm_merge.specs.Loops.{shown}
use Rattle.lsm_merge.proofs.keeping.shared.Given as goal

abbrev pub invariant-loop-entry : goal.invariant-loop-entry
invariant-loop-entry g l = l.all.items ≡ shown (take l.entry-index l.entries)
