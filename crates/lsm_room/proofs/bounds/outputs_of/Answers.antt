use Rattle.std.proofs.Common.{◌∷◌, [], ap}
use Rattle.lsm_levels.specs.Levels.{all_tables}
use Rattle.lsm_levels.specs.Picks.{job_of}
use Rattle.lsm_room.proofs.Making.{merge_makes, rewrite_makes, enough_of, from_none, of_one, upper_run, one_run}
use Rattle.lsm_room.proofs.bounds.outputs_of.Goals as goal

pub returns-in-OldestRuns : goal.returns-in-OldestRuns
returns-in-OldestRuns g c =
    merge_makes c.args.levels.now c.args.live (job_of c.args.job.now) 0 (all_tables c.in-OldestRuns.runs.now) c.in-OldestRuns.lower.now c.drops_deletes-drops.result c.of_runs.result
    (ap job_of c.in-OldestRuns.is) c.drops_deletes-drops.ensures (λ held. c.of_runs.ensures)

pub returns-in-OneTable : goal.returns-in-OneTable
returns-in-OneTable g c =
    merge_makes c.args.levels.now c.args.live (job_of c.args.job.now) c.in-OneTable.level (c.in-OneTable.upper.now ∷ []) c.in-OneTable.lower.now c.drops_deletes-drops.result c.merged.result
    (ap job_of c.in-OneTable.is) c.drops_deletes-drops.ensures
    (λ held. record {
      upper = c.with.result;
      lower = c.with_all.result;
      upper_sizes = of_one c.in-OneTable.upper.now c.none-in-OneTable.result c.with.result c.none-in-OneTable.ensures.sizes c.with.ensures.raised;
      lower_sizes = from_none c.in-OneTable.lower.now c.none-in-OneTable-2.result c.with_all.result c.none-in-OneTable-2.ensures.sizes c.with_all.ensures.raised;
      enough = enough_of c.with_all.result.«data» c.merged.ensures.over c.merged.ensures.alone (one_run c.args.levels.now c.runs-runs.ensures.runs c.in-OneTable.level c.in-OneTable.upper.now held.uppers);
    })

pub returns-in-Neighbours : goal.returns-in-Neighbours
returns-in-Neighbours g c =
    merge_makes c.args.levels.now c.args.live (job_of c.args.job.now) c.in-Neighbours.level c.in-Neighbours.upper.now c.in-Neighbours.lower.now c.drops_deletes-drops.result c.of_neighbours.result
    (ap job_of c.in-Neighbours.is) c.drops_deletes-drops.ensures
    (λ held. c.of_neighbours.ensures (upper_run c.args.levels.now c.runs-runs.ensures.runs c.in-Neighbours.level c.in-Neighbours.upper.now held.uppers))

pub returns-in-Rewrite : goal.returns-in-Rewrite
returns-in-Rewrite g c =
    rewrite_makes c.args.levels.now c.args.live (job_of c.args.job.now) c.in-Rewrite.above c.in-Rewrite.tables.now c.with_all-in-Rewrite.result c.alone.result (ap job_of c.in-Rewrite.is)
    (from_none c.in-Rewrite.tables.now c.none-in-Rewrite.result c.with_all-in-Rewrite.result c.none-in-Rewrite.ensures.sizes c.with_all-in-Rewrite.ensures.raised) c.alone.ensures
