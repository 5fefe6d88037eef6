use Rattle.std.proofs.Common.{◌≡◌, length}
use Rattle.lsm_table.specs.Items.{items_at}
use Rattle.lsm_levels.specs.Asking.{said, said_in}
use Rattle.lsm_levels.proofs.reading.find_in_block.Given as goal

abbrev pub invariant-loop-span : goal.invariant-loop-span
invariant-loop-span l = said l.key l.at (items_at l.place l.block) ≡ said_in l.key l.at l.block

abbrev pub decreases-loop-span : goal.decreases-loop-span
decreases-loop-span l = length (items_at l.place l.block)
