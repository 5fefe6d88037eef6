use Rattle.std.proofs.Common.{refl, sym, subst, zero-le}
use Rattle.lsm_trail.specs.History.{TrailView}
use Rattle.lsm_shared.specs.Sessions.{IsHistory}
use Rattle.lsm_shared.proofs.history.SessionHistory.new.Goals as goal

pub invariant_of-result : goal.invariant_of-result
invariant_of-result g c = subst (λ (t : TrailView). IsHistory g.B.SessionName.id t c.args.keeper 0 0) (sym c.requires.trail) record {
  pass = c.requires.keeper.0;
  dealt = c.requires.keeper.1;
  legal = c.requires.legal;
  limit = refl;
  room = zero-le;
  small = c.requires.small;
  calls_are = refl;
  builds_are = refl;
}
