use Rattle.std.proofs.Common.{Some, None, sym}
use Rattle.lsm_levels.specs.Picks.{job_of}
use Rattle.lsm_jobs.specs.Slots.{held_jobs}
use Rattle.lsm_jobs.proofs.Holding.{none_given, next_given}
use Rattle.lsm_jobs.proofs.KeptJobs.{asked_waits}
use Rattle.lsm_jobs.proofs.slots.Slots.next_job.Goals as goal

pub returns-in_default-clause-given : goal.returns-in_default-clause-given
returns-in_default-clause-given g c = none_given c.args.waiting c.args.asked c.args.levels.now c.deref.result.now c.self.inside.slots.items c.self.inside.next c.args.self.now c.in_default.ensures c.deref.ensures.value c.self.view_is

pub returns-in-Some-asked_job-clause-given : goal.returns-in-Some-asked_job-clause-given
returns-in-Some-asked_job-clause-given g c =
    next_given c.args.waiting c.args.asked c.args.levels.now c.deref.result.now c.self.inside.slots.items c.self.inside.next c.in-Some.place c.args.self.now (Some (job_of c.in-Some-asked_job.job)) c.in-Some.ensures c.deref.ensures.value c.self.view_is c.in-Some-asked_job.ensures

pub returns-in-Some-asked_job-clause-waits : goal.returns-in-Some-asked_job-clause-waits
returns-in-Some-asked_job-clause-waits g c = λ flush. asked_waits c.args.waiting c.args.levels.now c.args.asked (held_jobs c.args.self.now.slots) (job_of c.in-Some-asked_job.job) (sym c.in-Some-asked_job.ensures) flush

pub returns-in-None-clause-given : goal.returns-in-None-clause-given
returns-in-None-clause-given g c =
    next_given c.args.waiting c.args.asked c.args.levels.now c.deref.result.now c.self.inside.slots.items c.self.inside.next c.in-Some.place c.args.self.now None c.in-Some.ensures c.deref.ensures.value c.self.view_is c.in-None.ensures
