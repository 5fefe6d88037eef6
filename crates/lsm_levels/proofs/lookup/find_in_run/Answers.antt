use Rattle.std.proofs.Common.{sym}
use Rattle.lsm_levels.proofs.AskedLaws.{block_within}
use Rattle.lsm_levels.proofs.lookup.find_in_run.Goals as goal

pub ask-requires : goal.ask-requires
ask-requires g c = block_within _ c.args.query.now.area c.args.query.now.key.now c.args.query.now.at c.args.run.now c.in-Some.block c.requires (sym c.in-Some.ensures)
