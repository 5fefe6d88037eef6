use Rattle.std.proofs.Common.{rules}
use Rattle.lsm_storm.proofs.Refusing.{some_tally}
use Rattle.lsm_storm.proofs.tallying.threads_of.Goals as goal

pub returns-clause-within : goal.returns-clause-within
returns-clause-within c = some_tally c.args.load.clients c.args.load.commits c.args.load.workers c.from.result c.args.load.within (search rules)
