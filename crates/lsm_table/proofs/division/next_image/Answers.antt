use Rattle.lsm_table.proofs.Tables.{is_table, made_count}
use Rattle.lsm_table.proofs.division.next_image.Goals as goal

pub new-requires-clause-table : goal.new-requires-clause-table
new-requires-clause-table g c = is_table _ c.args.len _ c.requires.ends c.in_ok-blocks.ensures.versions c.in_ok-blocks.ensures.are c.requires.input.ordered

pub new-requires-clause-entries : goal.new-requires-clause-entries
new-requires-clause-entries g c = made_count _ c.args.len _ c.requires.ends c.in_ok-blocks.ensures.versions c.in_ok-blocks.ensures.are c.requires.input.ordered
