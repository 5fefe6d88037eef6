use Rattle.lsm_jobs.proofs.GatheredRuns.{merge_taken}
use Rattle.lsm_jobs.proofs.taking.merge_of.Goals as goal

pub returns : goal.returns
returns g c =
    merge_taken c.args.number c.args.level c.args.upper.items c.args.lower.now c.tables-2.result.now c.args.cuts.items c.args.bottom c.in_ok-tables.tables c.in_ok-gathering.gathering c.in_ok-tables.ensures c.tables-2.ensures c.in_ok-gathering.ensures
