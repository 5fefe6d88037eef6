use Rattle.lsm_jobs.specs.Shown.{job_of}
use Rattle.lsm_jobs.proofs.ReadJobs.{slot_bad}
use Rattle.lsm_jobs.proofs.held.HeldJob.read.Goals as goal

pub returns-in-Reading-clause-bad : goal.returns-in-Reading-clause-bad
returns-in-Reading-clause-bad g c = λ t is.
    let s = c.self.inside in
    slot_bad c.args.area (g.D.Device.medium c.args.device.now) s.number (job_of s.tables) c.in-Reading.gathering c.inputs.result.now c.args.self c.inputs.ensures (rw c.in-Reading.is at c.self.invariant) (rw c.in-Reading.is at c.self.view_is) c.step-work.ensures.ordered (c.step-work.ensures.bad t is)
