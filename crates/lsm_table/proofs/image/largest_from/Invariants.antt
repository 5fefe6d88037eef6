use Rattle.std.proofs.Common.{◌≡◌, take}
use Rattle.lsm_table.specs.Sizes.{largest_from}
use Rattle.lsm_table.proofs.image.largest_from.Given as goal

abbrev pub invariant-loop-entry : goal.invariant-loop-entry
invariant-loop-entry g l = l.largest ≡ largest_from l.fn.so_far (take l.entry-index l.entries)
