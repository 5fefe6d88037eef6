use Rattle.std.proofs.Common.{◌≡◌, option_map, refl, ap, ◌∙◌}
use Rattle.lsm_levels.specs.Levels.{Levels}
use Rattle.lsm_levels.specs.Picks.{job_of}
use Rattle.lsm_levels.proofs.PickLaws.{first_merge, passed_first, took_first}
use Rattle.lsm_levels.proofs.levels.Levels.next_merge.Goals as goal

pub returns-in-Some : goal.returns-in-Some
returns-in-Some g c =
    let runs_are : c.deref.result.now ≡ c.args.self.now.runs = c.deref.ensures.value ∙ ap (λ (l : Levels). l.runs) c.self.view_is in
    took_first (option_map job_of c.level_0_job.result) (job_of c.in-Some.job) _ (ap (option_map job_of) c.in-Some.is)
    ∙ first_merge c.args.self.now (g.H.HeldJobs.jobs c.args.held.now) c.deref.result.now c.deeper.result.now runs_are c.deeper.ensures.same c.in-len1-up.len_at_least c.level_1-item.result c.level_1-item.is (option_map job_of c.level_0_job.result) _ _ c.level_0_job.ensures refl refl

pub returns-in-Some-rule_job : goal.returns-in-Some-rule_job
returns-in-Some-rule_job g c =
    let runs_are : c.deref.result.now ≡ c.args.self.now.runs = c.deref.ensures.value ∙ ap (λ (l : Levels). l.runs) c.self.view_is in
    took_first (option_map job_of c.rule_job.result) (job_of c.in-Some-rule_job.job) _ (ap (option_map job_of) c.in-Some-rule_job.is)
    ∙ passed_first (option_map job_of c.level_0_job.result) _ (ap (option_map job_of) c.in_default-level_0_job.is)
    ∙ first_merge c.args.self.now (g.H.HeldJobs.jobs c.args.held.now) c.deref.result.now c.deeper.result.now runs_are c.deeper.ensures.same c.in-len1-up.len_at_least c.level_1-item.result c.level_1-item.is (option_map job_of c.level_0_job.result) (option_map job_of c.rule_job.result) _ c.level_0_job.ensures c.rule_job.ensures refl

pub returns : goal.returns
returns g c =
    let runs_are : c.deref.result.now ≡ c.args.self.now.runs = c.deref.ensures.value ∙ ap (λ (l : Levels). l.runs) c.self.view_is in
    passed_first (option_map job_of c.rule_job.result) (option_map job_of c.rule_job-2.result) (ap (option_map job_of) c.in_default-rule_job.is)
    ∙ passed_first (option_map job_of c.level_0_job.result) _ (ap (option_map job_of) c.in_default-level_0_job.is)
    ∙ first_merge c.args.self.now (g.H.HeldJobs.jobs c.args.held.now) c.deref.result.now c.deeper.result.now runs_are c.deeper.ensures.same c.in-len1-up.len_at_least c.level_1-item.result c.level_1-item.is (option_map job_of c.level_0_job.result) (option_map job_of c.rule_job.result) (option_map job_of c.rule_job-2.result) c.level_0_job.ensures c.rule_job.ensures c.rule_job-2.ensures
