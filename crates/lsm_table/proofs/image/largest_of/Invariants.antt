use Rattle.std.proofs.Common.{◌≡◌, map, take}
use Rattle.lsm_table.specs.Division.{entries_of}
use Rattle.lsm_table.specs.Sizes.{largest_entry}
use Rattle.lsm_table.proofs.image.largest_of.Given as goal

abbrev pub invariant-loop-block : goal.invariant-loop-block
invariant-loop-block g l = l.largest ≡ largest_entry (entries_of (map (λ b. b.items) (take l.block-index l.blocks)))
