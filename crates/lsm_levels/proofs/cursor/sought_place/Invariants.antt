use Rattle.std.proofs.Common.{◌≡◌, length}
use Rattle.lsm_table.specs.Items.{items_at}
use Rattle.lsm_levels.specs.Cursors.{sought}
use Rattle.lsm_levels.proofs.cursor.sought_place.Given as goal

abbrev pub invariant-loop-span : goal.invariant-loop-span
invariant-loop-span l = sought l.from (items_at l.at l.block) ≡ sought l.from (items_at l.fn.place l.block)

abbrev pub decreases-loop-span : goal.decreases-loop-span
decreases-loop-span l = length (items_at l.at l.block)
