use Rattle.std.proofs.Common.{◌+◌, ap, arith}
use Rattle.lsm_codec.specs.Versions.{deletes_in}
use Rattle.lsm_table.proofs.Deletes.{block_more, few_in_blocks}
use Rattle.lsm_table.proofs.image.deletes_of.Goals as goal

pub overflow_add-deletes : goal.overflow_add-deletes
overflow_add-deletes g c =
    let next = block_more (λ b. b.items) c.args.blocks.now c.loop-block.block-index c.block-item.result c.loop-block.deletes c.loop-block-test.true c.block-item.is c.loop-block.invariant in
    omega (arith, next, few_in_blocks (λ b. b.items) c.args.blocks.now (c.loop-block.block-index + 1), c.requires, c.deletes_in-deletes.ensures.count, ap deletes_in c.deref.ensures.value)

pub returns-clause-few : goal.returns-clause-few
returns-clause-few g c = omega (arith, c.loop-block.invariant, few_in_blocks (λ b. b.items) c.args.blocks.now c.loop-block.block-index)
