use Rattle.std.proofs.Common.{refl}
use Rattle.lsm_shared.proofs.Holds.{denied_with}
use Rattle.lsm_shared.proofs.Turning.{did_at, put_back_at}
use Rattle.lsm_shared.proofs.session.Session.did.Goals as goal

pub returns-in_err-reply : goal.returns-in_err-reply
returns-in_err-reply g c = λ place at on. denied_with _ _ _ _ _ c.from_residual.ensures.1 refl (put_back_at _ _ _ _ _ _ _ _ at c.in_err-reply.ensures)

pub returns : goal.returns
returns g c = λ place at on. did_at _ _ _ _ _ _ _ _ at on c.in_ok-reply.ensures
