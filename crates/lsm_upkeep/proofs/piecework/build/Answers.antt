use Rattle.lsm_upkeep.proofs.Upkept.{then, merged}
use Rattle.lsm_upkeep.proofs.piecework.build.Goals as goal

pub returns : goal.returns
returns g c = then c.args.store.now c.job_merge.new.self c.end_of.new.store (merged c.args.job _ _ _ c.job_merge.result c.job_merge.ensures.works) c.end_of.ensures
