use Rattle.lsm_upkeep.proofs.Upkept.{settles}
use Rattle.lsm_upkeep.proofs.settling.settle.Goals as goal

pub returns-clause-upkept : goal.returns-clause-upkept
returns-clause-upkept g c = settles c.args.store.now c.open_log.new.store (c.finish_jobs.new.store, c.finish_jobs.ensures, c.open_log.ensures)

pub returns-clause-map : goal.returns-clause-map
returns-clause-map g c = (settles c.args.store.now c.open_log.new.store (c.finish_jobs.new.store, c.finish_jobs.ensures, c.open_log.ensures)).keeps
