use Rattle.std.proofs.Common.{ℕ, List, Option, option_map, refl, ap, ◌∙◌}
use Rattle.lsm_levels.specs.Pick.{Job, or_next}
use Rattle.lsm_levels.specs.Picks.{job_of}
use Rattle.lsm_levels.specs.Choices.{rewrite_job}
use Rattle.lsm_levels.specs.Tables.{Table}
use Rattle.lsm_levels.proofs.PickLaws.{passed_first, took_first}
use Rattle.lsm_levels.proofs.ChoiceLaws.{least_rewrite}
use Rattle.lsm_levels.proofs.levels.Levels.choose_rewrite.Goals as goal

pub returns-in-Some : goal.returns-in-Some
returns-in-Some g c =
    let rule : ℕ → List Table → Option Job = λ i tables. rewrite_job c.args.first c.args.last i tables (g.H.HeldJobs.jobs c.args.held.now) in
    let l1 = c.level_1-item.result in
    let l2 = c.level_2-item.result in
    let l3 = c.level_3-item.result in
    let l4 = c.level_4-item.result in
    took_first (option_map job_of c.rewrite_job.result) (job_of c.in-Some.job) (or_next (rule 1 l2) (or_next (rule 2 l3) (rule 3 l4))) (ap (option_map job_of) c.in-Some.is)
    ∙ least_rewrite c.args.first c.args.last c.args.self.now (g.H.HeldJobs.jobs c.args.held.now) c.deeper.result.now c.deeper.ensures.same c.in-len4.len_at_least l1 l2 l3 l4 c.level_1-item.is c.level_2-item.is c.level_3-item.is c.level_4-item.is
    (option_map job_of c.rewrite_job.result) (rule 1 l2) (rule 2 l3) (rule 3 l4) c.rewrite_job.ensures refl refl refl

pub returns-in-Some-rewrite_job : goal.returns-in-Some-rewrite_job
returns-in-Some-rewrite_job g c =
    let rule : ℕ → List Table → Option Job = λ i tables. rewrite_job c.args.first c.args.last i tables (g.H.HeldJobs.jobs c.args.held.now) in
    let l1 = c.level_1-item.result in
    let l2 = c.level_2-item.result in
    let l3 = c.level_3-item.result in
    let l4 = c.level_4-item.result in
    took_first (option_map job_of c.rewrite_job-2.result) (job_of c.in-Some-rewrite_job.job) (or_next (rule 2 l3) (rule 3 l4)) (ap (option_map job_of) c.in-Some-rewrite_job.is)
    ∙ passed_first (option_map job_of c.rewrite_job.result) _ (ap (option_map job_of) c.in_default-rewrite_job.is)
    ∙ least_rewrite c.args.first c.args.last c.args.self.now (g.H.HeldJobs.jobs c.args.held.now) c.deeper.result.now c.deeper.ensures.same c.in-len4.len_at_least l1 l2 l3 l4 c.level_1-item.is c.level_2-item.is c.level_3-item.is c.level_4-item.is
    (option_map job_of c.rewrite_job.result) (option_map job_of c.rewrite_job-2.result) (rule 2 l3) (rule 3 l4) c.rewrite_job.ensures c.rewrite_job-2.ensures refl refl

pub returns-in-Some-rewrite_job-2 : goal.returns-in-Some-rewrite_job-2
returns-in-Some-rewrite_job-2 g c =
    let rule : ℕ → List Table → Option Job = λ i tables. rewrite_job c.args.first c.args.last i tables (g.H.HeldJobs.jobs c.args.held.now) in
    let l1 = c.level_1-item.result in
    let l2 = c.level_2-item.result in
    let l3 = c.level_3-item.result in
    let l4 = c.level_4-item.result in
    took_first (option_map job_of c.rewrite_job-3.result) (job_of c.in-Some-rewrite_job-2.job) (rule 3 l4) (ap (option_map job_of) c.in-Some-rewrite_job-2.is)
    ∙ passed_first (option_map job_of c.rewrite_job-2.result) _ (ap (option_map job_of) c.in_default-rewrite_job-2.is)
    ∙ passed_first (option_map job_of c.rewrite_job.result) _ (ap (option_map job_of) c.in_default-rewrite_job.is)
    ∙ least_rewrite c.args.first c.args.last c.args.self.now (g.H.HeldJobs.jobs c.args.held.now) c.deeper.result.now c.deeper.ensures.same c.in-len4.len_at_least l1 l2 l3 l4 c.level_1-item.is c.level_2-item.is c.level_3-item.is c.level_4-item.is
    (option_map job_of c.rewrite_job.result) (option_map job_of c.rewrite_job-2.result) (option_map job_of c.rewrite_job-3.result) (rule 3 l4) c.rewrite_job.ensures c.rewrite_job-2.ensures c.rewrite_job-3.ensures refl

pub returns : goal.returns
returns g c =
    let rule : ℕ → List Table → Option Job = λ i tables. rewrite_job c.args.first c.args.last i tables (g.H.HeldJobs.jobs c.args.held.now) in
    let l1 = c.level_1-item.result in
    let l2 = c.level_2-item.result in
    let l3 = c.level_3-item.result in
    let l4 = c.level_4-item.result in
    passed_first (option_map job_of c.rewrite_job-3.result) (option_map job_of c.rewrite_job-4.result) (ap (option_map job_of) c.in_default-rewrite_job-3.is)
    ∙ passed_first (option_map job_of c.rewrite_job-2.result) _ (ap (option_map job_of) c.in_default-rewrite_job-2.is)
    ∙ passed_first (option_map job_of c.rewrite_job.result) _ (ap (option_map job_of) c.in_default-rewrite_job.is)
    ∙ least_rewrite c.args.first c.args.last c.args.self.now (g.H.HeldJobs.jobs c.args.held.now) c.deeper.result.now c.deeper.ensures.same c.in-len4.len_at_least l1 l2 l3 l4 c.level_1-item.is c.level_2-item.is c.level_3-item.is c.level_4-item.is
    (option_map job_of c.rewrite_job.result) (option_map job_of c.rewrite_job-2.result) (option_map job_of c.rewrite_job-3.result) (option_map job_of c.rewrite_job-4.result) c.rewrite_job.ensures c.rewrite_job-2.ensures c.rewrite_job-3.ensures c.rewrite_job-4.ensures
