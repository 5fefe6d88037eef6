use Rattle.std.proofs.Common.{sym, subst}
use Rattle.lsm_explore.specs.Expected.{MayBeLeft}
use Rattle.lsm_explore.proofs.exploring.judge_each.Goals as goal

pub judge-requires : goal.judge-requires
judge-requires g c = let may = c.requires.may in (may.0, may.1, may.2, subst (MayBeLeft 0 may.0 may.1) (sym c.in_ok-left.ensures) (may.3 _))
