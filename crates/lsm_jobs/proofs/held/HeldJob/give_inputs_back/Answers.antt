use Rattle.std.proofs.Common.{List, sym, ap, subst, ◌∙◌}
use Rattle.lsm_levels.specs.Tables.{Table}
use Rattle.lsm_jobs.specs.Slots.{Slot}
use Rattle.lsm_jobs.specs.Placing.{AreHandedOut, all_given_back}
use Rattle.lsm_jobs.specs.Shown.{job_of}
use Rattle.lsm_jobs.proofs.GivenBack.{inputs_back}
use Rattle.lsm_jobs.proofs.held.HeldJob.give_inputs_back.Goals as goal

pub give_back-requires : goal.give_back-requires
give_back-requires g c =
    subst (λ (ts : List Table). AreHandedOut ts c.args.extents.now) (sym (inputs_back c.args.self.now.job (job_of c.self.inside.tables) c.inputs.result.now (ap (λ (s : Slot). s.job) c.self.view_is) c.inputs.ensures)) c.requires

pub returns : goal.returns
returns g c =
    c.give_back.ensures ∙ ap (λ (ts : List Table). all_given_back ts c.args.extents.now) (inputs_back c.args.self.now.job (job_of c.self.inside.tables) c.inputs.result.now (ap (λ (s : Slot). s.job) c.self.view_is) c.inputs.ensures)
