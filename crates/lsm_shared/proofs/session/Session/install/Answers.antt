use Rattle.std.proofs.Common.{refl, sym, ◌∙◌}
use Rattle.lsm_store.specs.Backing.{machine_of}
use Rattle.lsm_shared.proofs.Giving.{install_gives}
use Rattle.lsm_shared.proofs.Holds.{denied_with}
use Rattle.lsm_shared.proofs.Turning.{passed_at, installed_at, put_back_at}
use Rattle.lsm_shared.proofs.session.Session.install.Goals as goal

pub returns-in_err-reply : goal.returns-in_err-reply
returns-in_err-reply g c = λ place at. denied_with _ _ _ _ _ c.from_residual.ensures.1 refl (put_back_at _ _ _ _ _ _ _ _ at c.in_err-reply.ensures)

pub returns-then-is_put_off : goal.returns-then-is_put_off
returns-then-is_put_off g c = λ place at. passed_at _ _ _ _ _ _ _ _ at (sym c.is_put_off.ensures ∙ c.if-is_put_off.true) c.in_ok-reply.ensures

pub returns : goal.returns
returns g c = λ place at. installed_at _ _ _ _ _ _ _ _ at (sym c.is_put_off.ensures ∙ c.if-is_put_off.false) c.in_ok-reply.ensures

pub work-requires-clause-gives : goal.work-requires-clause-gives
work-requires-clause-gives g c = install_gives (machine_of c.args.self.now.store) c.args.job
