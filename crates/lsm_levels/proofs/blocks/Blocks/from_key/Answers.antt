use Rattle.lsm_levels.specs.Tables.{at_most}
use Rattle.lsm_levels.proofs.CursorBlocks.{filter_passes, first_left}
use Rattle.lsm_levels.proofs.blocks.Blocks.from_key.Goals as goal

pub passed_blocks-requires : goal.passed_blocks-requires
passed_blocks-requires g c = rw c.ending_from-tables.ensures.left (filter_passes (λ t. at_most c.args.key.now t.last) c.args.run.now)

pub invariant_of-result : goal.invariant_of-result
invariant_of-result g c = first_left c.args.area c.passed_blocks.result c.args.run.now c.ending_from-tables.result.now c.args.key.now c.ending_from-tables.ensures.left c.requires.within c.passed_blocks.ensures.inside
