use Rattle.std.proofs.Common.{ℕ, List, Option, option_map, refl, ap, ◌∙◌}
use Rattle.lsm_levels.specs.Pick.{Job, or_next}
use Rattle.lsm_levels.specs.Picks.{job_of, rule_job}
use Rattle.lsm_levels.specs.Tables.{Table}
use Rattle.lsm_levels.proofs.PickLaws.{least_level, passed_first, took_first}
use Rattle.lsm_levels.proofs.levels.Levels.rule_job.Goals as goal

pub returns-in-Some : goal.returns-in-Some
returns-in-Some g c =
    let rule : List Table → List Table → ℕ → Option Job = λ tables below i. rule_job c.args.rule tables below (g.H.HeldJobs.jobs c.args.held.now) i in
    let l1 = c.level_1-item.result in
    let l2 = c.level_2-item.result in
    let l3 = c.level_3-item.result in
    let l4 = c.level_4-item.result in
    took_first (option_map job_of c.rule_job.result) (job_of c.in-Some.job) (or_next (rule l2 l3 2) (rule l3 l4 3)) (ap (option_map job_of) c.in-Some.is)
    ∙ least_level rule c.args.self.now c.deeper.result.now c.deeper.ensures.same c.in-len4.len_at_least l1 l2 l3 l4 c.level_1-item.is c.level_2-item.is c.level_3-item.is c.level_4-item.is
    (option_map job_of c.rule_job.result) (rule l2 l3 2) (rule l3 l4 3) c.rule_job.ensures refl refl

pub returns-in-Some-rule_job : goal.returns-in-Some-rule_job
returns-in-Some-rule_job g c =
    let rule : List Table → List Table → ℕ → Option Job = λ tables below i. rule_job c.args.rule tables below (g.H.HeldJobs.jobs c.args.held.now) i in
    let l1 = c.level_1-item.result in
    let l2 = c.level_2-item.result in
    let l3 = c.level_3-item.result in
    let l4 = c.level_4-item.result in
    took_first (option_map job_of c.rule_job-2.result) (job_of c.in-Some-rule_job.job) (rule l3 l4 3) (ap (option_map job_of) c.in-Some-rule_job.is)
    ∙ passed_first (option_map job_of c.rule_job.result) _ (ap (option_map job_of) c.in_default-rule_job.is)
    ∙ least_level rule c.args.self.now c.deeper.result.now c.deeper.ensures.same c.in-len4.len_at_least l1 l2 l3 l4 c.level_1-item.is c.level_2-item.is c.level_3-item.is c.level_4-item.is
    (option_map job_of c.rule_job.result) (option_map job_of c.rule_job-2.result) (rule l3 l4 3) c.rule_job.ensures c.rule_job-2.ensures refl

pub returns : goal.returns
returns g c =
    let rule : List Table → List Table → ℕ → Option Job = λ tables below i. rule_job c.args.rule tables below (g.H.HeldJobs.jobs c.args.held.now) i in
    let l1 = c.level_1-item.result in
    let l2 = c.level_2-item.result in
    let l3 = c.level_3-item.result in
    let l4 = c.level_4-item.result in
    passed_first (option_map job_of c.rule_job-2.result) (option_map job_of c.rule_job-3.result) (ap (option_map job_of) c.in_default-rule_job-2.is)
    ∙ passed_first (option_map job_of c.rule_job.result) _ (ap (option_map job_of) c.in_default-rule_job.is)
    ∙ least_level rule c.args.self.now c.deeper.result.now c.deeper.ensures.same c.in-len4.len_at_least l1 l2 l3 l4 c.level_1-item.is c.level_2-item.is c.level_3-item.is c.level_4-item.is
    (option_map job_of c.rule_job.result) (option_map job_of c.rule_job-2.result) (option_map job_of c.rule_job-3.result) c.rule_job.ensures c.rule_job-2.ensures c.rule_job-3.ensures
