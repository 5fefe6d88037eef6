use Rattle.std.proofs.Common.{List, None, refl, ap, subst, inl, inr}
use Rattle.lsm_codec.specs.Map.{Operation}
use Rattle.lsm_device.specs.declared.refusal.Refusal.{Refusal}
use Rattle.lsm_machine.specs.Calls.{Number, Refused, reply_of}
use Rattle.lsm_upkeep.specs.Writing.{Writes}
use Rattle.corwaphi.proofs.operating.write_one.Goals as goal

pub returns-in-Ok : goal.returns-in-Ok
returns-in-Ok g c = inl (subst (λ (b : List Operation). Writes None b c.args.store.now (reply_of (λ n. Number n) c.write.result) c.write.new.store) c.in-Ok.ensures c.write.ensures)

pub returns-in-Err : goal.returns-in-Err
returns-in-Err g c = inr (ap (λ (r : Refusal). Refused r) c.in-Err.ensures, refl)
