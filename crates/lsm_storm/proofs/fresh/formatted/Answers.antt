use Rattle.std.proofs.Common.{refl, rules}
use Rattle.lsm_storm.proofs.Refusing.{format_refuses}
use Rattle.lsm_storm.proofs.fresh.formatted.Goals as goal

pub returns-in-Ok-clause-leaves : goal.returns-in-Ok-clause-leaves
returns-in-Ok-clause-leaves c = c.in-Ok.ensures.leaves refl

pub returns-clause-refused : goal.returns-clause-refused
returns-clause-refused c = format_refuses c.in-Err.refusal (λ is. c.in-Err.ensures.bad_geometry.0 (search rules) (search rules)) c.in-Err.ensures.refused
