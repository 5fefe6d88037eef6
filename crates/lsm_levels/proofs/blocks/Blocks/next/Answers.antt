use Rattle.lsm_levels.proofs.CursorBlocks.{ends_low, left_then, left_else, first_is, rest_then, rest_else}
use Rattle.lsm_levels.proofs.blocks.Blocks.next.Goals as goal

pub placed_block-block-requires-clause-ends : goal.placed_block-block-requires-clause-ends
placed_block-block-requires-clause-ends g c = ends_low c.self.inside.area c.self.inside.passed c.self.inside.tables.now c.in_ok-table.table.now c.in_ok-table.rest.now c.in_ok-table.ensures.cases.0 c.data_blocks-blocks.result c.table.result.now c.table.ensures.same c.data_blocks-blocks.ensures.count c.data_blocks-blocks.ensures.low c.self.invariant

pub invariant_of-self : goal.invariant_of-self
invariant_of-self g c = left_then c.self.inside.area c.self.inside.passed c.self.inside.tables.now c.in_ok-table.table.now c.in_ok-table.rest.now c.in_ok-table.ensures.cases.0 c.data_blocks-blocks.result c.table.result.now c.table.ensures.same c.data_blocks-blocks.ensures.count c.data_blocks-blocks.ensures.low c.self.invariant c.if-self-blocks.true

pub invariant_of-self-else-self-blocks : goal.invariant_of-self-else-self-blocks
invariant_of-self-else-self-blocks g c = left_else c.self.inside.area c.self.inside.passed c.self.inside.tables.now c.in_ok-table.table.now c.in_ok-table.rest.now c.in_ok-table.ensures.cases.0 c.data_blocks-blocks.result c.table.result.now c.table.ensures.same c.data_blocks-blocks.ensures.count c.data_blocks-blocks.ensures.low c.self.invariant c.if-self-blocks.false

pub returns-then-self-blocks-clause-first : goal.returns-then-self-blocks-clause-first
returns-then-self-blocks-clause-first g c = first_is c.self.inside.area c.self.inside.passed c.self.inside.tables.now c.in_ok-table.table.now c.in_ok-table.rest.now c.in_ok-table.ensures.cases.0 c.data_blocks-blocks.result c.table.result.now c.table.ensures.same c.data_blocks-blocks.ensures.count c.data_blocks-blocks.ensures.low c.self.invariant c.args.self.now c.placed_block-block.result c.self.view_is c.placed_block-block.ensures

pub returns-then-self-blocks-clause-rest : goal.returns-then-self-blocks-clause-rest
returns-then-self-blocks-clause-rest g c = rest_then c.self.inside.area c.self.inside.passed c.self.inside.tables.now c.in_ok-table.table.now c.in_ok-table.rest.now c.in_ok-table.ensures.cases.0 c.data_blocks-blocks.result c.table.result.now c.table.ensures.same c.data_blocks-blocks.ensures.count c.data_blocks-blocks.ensures.low c.self.invariant c.args.self.now c.self.view_is c.if-self-blocks.true

pub returns-else-self-blocks-clause-first : goal.returns-else-self-blocks-clause-first
returns-else-self-blocks-clause-first g c = first_is c.self.inside.area c.self.inside.passed c.self.inside.tables.now c.in_ok-table.table.now c.in_ok-table.rest.now c.in_ok-table.ensures.cases.0 c.data_blocks-blocks.result c.table.result.now c.table.ensures.same c.data_blocks-blocks.ensures.count c.data_blocks-blocks.ensures.low c.self.invariant c.args.self.now c.placed_block-block.result c.self.view_is c.placed_block-block.ensures

pub returns-else-self-blocks-clause-rest : goal.returns-else-self-blocks-clause-rest
returns-else-self-blocks-clause-rest g c = rest_else c.self.inside.area c.self.inside.passed c.self.inside.tables.now c.in_ok-table.table.now c.in_ok-table.rest.now c.in_ok-table.ensures.cases.0 c.data_blocks-blocks.result c.table.result.now c.table.ensures.same c.data_blocks-blocks.ensures.count c.data_blocks-blocks.ensures.low c.self.invariant c.args.self.now c.self.view_is
