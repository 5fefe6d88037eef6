use Rattle.lsm_levels.proofs.Sweeping.{may_merge}
use Rattle.lsm_levels.proofs.picking.can_merge.Goals as goal

pub returns-then-not-takes_in : goal.returns-then-not-takes_in
returns-then-not-takes_in g c =
    may_merge (g.H.HeldJobs.jobs c.args.held.now) c.args.table.now c.args.rest.now c.begun_by.result.now c.number.result c.last.result.now c.takes_in.result c.are_free.result
    c.number.ensures c.takes_in.ensures c.if-not-takes_in.true c.last.ensures c.requires.behind c.begun_by.ensures c.are_free.ensures
