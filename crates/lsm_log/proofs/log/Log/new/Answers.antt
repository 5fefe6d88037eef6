use Rattle.std.proofs.Common.{refl}
use Rattle.lsm_log.proofs.Logs.{new_open, none_read}
use Rattle.lsm_log.proofs.log.Log.new.Goals as goal

pub returns-clause-open : goal.returns-clause-open
returns-clause-open c = λ numbers d free. new_open _ numbers refl refl d free

pub returns-clause-none : goal.returns-clause-none
returns-clause-none c = λ d free. none_read c.args.start c.args.sectors c.args.epoch c.args.first d free
