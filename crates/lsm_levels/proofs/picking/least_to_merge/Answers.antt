use Rattle.std.specs.Option.{option_copied}
use Rattle.lsm_levels.specs.Picks.{is_wanted}
use Rattle.lsm_levels.proofs.Sweeping.{least_step, left_ends, left_of_first, left_run}
use Rattle.lsm_levels.proofs.picking.least_to_merge.Goals as goal

pub lesser-least-requires-clause-run : goal.lesser-least-requires-clause-run
lesser-least-requires-clause-run g c = left_run c.table-item.result c.first.result.now c.loop-table.rest.now c.ending_on-rest.result.now c.first.ensures c.ending_on-rest.ensures c.loop-table.invariant.rest

pub lesser-least-requires-clause-behind : goal.lesser-least-requires-clause-behind
lesser-least-requires-clause-behind g c = left_ends c.table-item.result c.first.result.now c.loop-table.rest.now c.ending_on-rest.result.now c.first.ensures c.ending_on-rest.ensures

pub loop-table-preserved : goal.loop-table-preserved
loop-table-preserved g c = record {
  rest = left_run c.table-item.result c.first.result.now c.loop-table.rest.now c.ending_on-rest.result.now c.first.ensures c.ending_on-rest.ensures c.loop-table.invariant.rest;
  same = least_step (g.H.HeldJobs.jobs c.args.held.now) (is_wanted c.args.wanted) c.args.tables.now c.args.below.now c.loop-table.rest.now c.ending_on-rest.result.now c.loop-table.table-index c.table-item.result (option_copied c.loop-table.least)
      (option_copied c.lesser-least.result) c.requires.tables c.loop-table-test.true c.table-item.is
      (left_of_first c.table-item.result c.first.result.now c.loop-table.rest.now c.ending_on-rest.result.now c.first.ensures c.ending_on-rest.ensures) c.lesser-least.ensures c.loop-table.invariant.same;
}
