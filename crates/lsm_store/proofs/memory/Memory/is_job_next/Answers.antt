use Rattle.std.proofs.Common.{true, None, Err, is_some, sym, ap, subst, Bool, ◌≡◌}
use Rattle.lsm_device.specs.declared.refusal.Refusal.{Refusal}
use Rattle.lsm_jobs.specs.Taking.{given_job}
use Rattle.lsm_store.proofs.memory.Memory.is_job_next.Goals as goal

pub returns-in-Ok : goal.returns-in-Ok
returns-in-Ok g c =
    let m = c.args.self.now in
    subst (λ (b : Bool). c.in-Ok.given ≡ is_some (given_job b None m.levels m.jobs.slots)) c.is_waiting.ensures c.in-Ok.ensures.given

pub returns-in-Err : goal.returns-in-Err
returns-in-Err g c =
    let m = c.args.self.now in
    let e = c.in-Err.ensures in
    subst (λ (b : Bool). true ≡ is_some (given_job b None m.levels m.jobs.slots)) c.is_waiting.ensures (sym {a = is_some (given_job c.is_waiting.result None m.levels m.jobs.slots)} (e.exhausted.0 (ap (λ (r : Refusal). Err r) e.refusals)).0)
