use Rattle.std.proofs.Common.{refl, inl}
use Rattle.lsm_language.proofs.LineLaws.{other_said-long}
use Rattle.lsm_language.proofs.line.read_other.Goals as goal

pub returns-in_default : goal.returns-in_default
returns-in_default c = inl (refl, other_said-long c.args.name.now c.args.rest.now c.in_default.len_at_least)
