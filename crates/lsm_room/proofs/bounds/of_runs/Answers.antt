use Rattle.std.proofs.Common.{inl}
use Rattle.lsm_levels.specs.Levels.{all_tables}
use Rattle.lsm_room.proofs.Making.{all_one, enough_of, from_none}
use Rattle.lsm_room.proofs.bounds.of_runs.Goals as goal

pub returns-in-len1 : goal.returns-in-len1
returns-in-len1 g c = record {
  upper = c.with_runs-upper.result;
  lower = c.with_all-below.result;
  upper_sizes = from_none (all_tables c.args.runs.now) c.none.result c.with_runs-upper.result c.none.ensures.sizes c.with_runs-upper.ensures.raised;
  lower_sizes = from_none c.args.lower.now c.none-2.result c.with_all-below.result c.none-2.ensures.sizes c.with_all-below.ensures.raised;
  enough = enough_of c.with_all-below.result.«data» c.merged.ensures.over c.merged.ensures.alone (all_one c.args.runs.now c.run-item.result c.in-len1.len_at_least c.in-len1.len_below c.run-item.is c.tables-tables.ensures.run);
}

pub returns : goal.returns
returns g c = record {
  upper = c.with_runs-upper.result;
  lower = c.with_all-below.result;
  upper_sizes = from_none (all_tables c.args.runs.now) c.none.result c.with_runs-upper.result c.none.ensures.sizes c.with_runs-upper.ensures.raised;
  lower_sizes = from_none c.args.lower.now c.none-2.result c.with_all-below.result c.none-2.ensures.sizes c.with_all-below.ensures.raised;
  enough = inl c.mixed.ensures;
}
