use Rattle.std.proofs.Common.{ap, ◌∙◌}
use Rattle.lsm_table.specs.Sizes.{largest_from}
use Rattle.lsm_table.proofs.Largest.{block_more}
use Rattle.lsm_table.proofs.image.largest_of.Goals as goal

pub loop-block-preserved : goal.loop-block-preserved
loop-block-preserved g c = block_more (λ b. b.items) c.args.blocks.now c.loop-block.block-index c.block-item.result c.loop-block.largest c.largest_from-largest.result c.loop-block-test.true c.block-item.is c.loop-block.invariant (c.largest_from-largest.ensures ∙ ap (largest_from c.loop-block.largest) c.deref.ensures.value)
