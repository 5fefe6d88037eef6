use Rattle.std.proofs.Common.{◌≡◌, ap, ◌∙◌}
use Rattle.lsm_levels.specs.Levels.{Levels}
use Rattle.lsm_levels.proofs.ChoiceLaws.{chosen_runs}
use Rattle.lsm_levels.proofs.levels.Levels.choose_runs.Goals as goal

pub returns : goal.returns
returns g c =
    let runs_are : c.deref.result.now ≡ c.args.self.now.runs = c.deref.ensures.value ∙ ap (λ (l : Levels). l.runs) c.self.view_is in
    c.run_job.ensures ∙ chosen_runs c.args.count c.args.self.now (g.H.HeldJobs.jobs c.args.held.now) c.deref.result.now c.deeper.result.now runs_are c.deeper.ensures.same c.level_1-item.result c.in-len1-up.len_at_least c.level_1-item.is
