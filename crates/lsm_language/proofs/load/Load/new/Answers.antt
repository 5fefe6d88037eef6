use Rattle.std.proofs.Common.{◌∙◌, sym, arith}
use Rattle.lsm_language.proofs.LoadLaws.{few_commits}
use Rattle.lsm_language.proofs.load.Load.new.Goals as goal

pub overflow_cast-result-2 : goal.overflow_cast-result-2
overflow_cast-result-2 c = omega (arith, few_commits c.args.clients c.args.commits c.args.workers (sym c.are_within.ensures ∙ c.if-not-are_within.false))
