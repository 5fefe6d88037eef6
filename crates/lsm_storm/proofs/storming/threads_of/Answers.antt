use Rattle.std.proofs.Common.{rules}
use Rattle.lsm_storm.proofs.Refusing.{some_crew}
use Rattle.lsm_storm.proofs.storming.threads_of.Goals as goal

pub returns-clause-within : goal.returns-clause-within
returns-clause-within c = some_crew c.args.load.clients c.args.load.commits c.args.load.workers c.from-clients.result c.from-workers.result c.args.load.within (search rules) (search rules)
