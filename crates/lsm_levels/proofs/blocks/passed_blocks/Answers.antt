use Rattle.std.proofs.Common.{ap, ◌∙◌}
use Rattle.lsm_table.specs.Outlines.{Outline}
use Rattle.lsm_table.specs.Places.{blocks_before}
use Rattle.lsm_levels.specs.Tables.{Table}
use Rattle.lsm_levels.proofs.CursorBlocks.{passed_inside_first}
use Rattle.lsm_levels.proofs.blocks.passed_blocks.Goals as goal

pub returns-in-len1-up-clause-inside : goal.returns-in-len1-up-clause-inside
returns-in-len1-up-clause-inside g c =
    passed_inside_first c.args.key.now c.args.tables.now c.table-item.result c.blocks_before.result c.in-len1-up.len_at_least c.table-item.is c.requires
    (c.blocks_before.ensures ∙ ap (λ (o : Outline). blocks_before c.args.key.now o.edges) c.table.ensures.same)
    (ap (λ (t : Table). t.last) c.table.ensures.whole)
