use Rattle.std.proofs.Common.{inl}
use Rattle.lsm_levels.specs.Tables.{IsRun}
use Rattle.lsm_room.proofs.Making.{enough_of, from_none, run_there}
use Rattle.lsm_room.proofs.bounds.of_neighbours.Goals as goal

pub returns-then-level-gt0 : goal.returns-then-level-gt0
returns-then-level-gt0 g c run = record {
  upper = c.with_all-above.result;
  lower = c.with_all-below.result;
  upper_sizes = from_none c.args.upper.now c.none.result c.with_all-above.result c.none.ensures.sizes c.with_all-above.ensures.raised;
  lower_sizes = from_none c.args.lower.now c.none-2.result c.with_all-below.result c.none-2.ensures.sizes c.with_all-below.ensures.raised;
  enough = enough_of c.with_all-below.result.«data» c.merged.ensures.over c.merged.ensures.alone (run_there c.args.level (IsRun c.args.upper.now) run c.if-level-gt0.true);
}

pub returns : goal.returns
returns g c run = record {
  upper = c.with_all-above.result;
  lower = c.with_all-below.result;
  upper_sizes = from_none c.args.upper.now c.none.result c.with_all-above.result c.none.ensures.sizes c.with_all-above.ensures.raised;
  lower_sizes = from_none c.args.lower.now c.none-2.result c.with_all-below.result c.none-2.ensures.sizes c.with_all-below.ensures.raised;
  enough = inl c.mixed.ensures;
}
