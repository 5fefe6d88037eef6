use Rattle.std.proofs.Common.{arith}
use Rattle.lsm_table.proofs.Deletes.{few_taken, taken_few}
use Rattle.lsm_table.proofs.image.deletes_in.Goals as goal

pub overflow_add-deletes : goal.overflow_add-deletes
overflow_add-deletes g c =
    omega (arith, c.loop-entry.invariant, taken_few c.args.block.now c.loop-entry.entry-index, c.one_if_delete-deletes.ensures.few, c.loop-entry-test.true, c.loop-entry.auto)

pub returns-clause-few : goal.returns-clause-few
returns-clause-few g c = omega (arith, c.loop-entry.invariant, few_taken c.args.block.now c.loop-entry.entry-index)
