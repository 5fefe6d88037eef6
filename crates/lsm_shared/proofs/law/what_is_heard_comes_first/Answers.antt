use Rattle.std.proofs.Common.{◌++◌, ap, sym, ◌∙◌, append_assoc}
use Rattle.lsm_trail.proofs.Lists.{prefix_trans}
use Rattle.lsm_shared.proofs.law.what_is_heard_comes_first.Goals as goal

pub returns-clause-done : goal.returns-clause-done
returns-clause-done c = λ told before after others entries p adds. (p.0 ++ others, adds.seen ∙ ap (λ l. l ++ entries) (ap (λ l. l ++ others) (sym p.1) ∙ append_assoc told p.0 others))

pub returns-clause-kept : goal.returns-clause-kept
returns-clause-kept c = λ told before after p sees. prefix_trans told before.seen after.seen p sees.seen
