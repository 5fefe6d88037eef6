use Rattle.lsm_jobs.proofs.ReadJobs.{job_reads, job_stays}
use Rattle.lsm_jobs.proofs.slots.Slots.read.Goals as goal

pub returns-in-Some-clause-reads : goal.returns-in-Some-clause-reads
returns-in-Some-clause-reads g c =
    job_reads c.args.area (g.D.Device.medium c.args.device.now) c.args.job c.in_ok-place.place c.args.self.now c.lift.new.self c.lay.new.self c.in_ok-place._held.now c.in-Some.held c.read-held.result.0 c.read-held.result.1
    c.in_ok-place.ensures.found c.in-Some.ensures.held c.lift.ensures.free c.lay.ensures c.read-held.ensures.reads

pub returns-in-Some-clause-same : goal.returns-in-Some-clause-same
returns-in-Some-clause-same g c =
    job_stays c.args.job c.in_ok-place.place c.args.self.now c.lift.new.self c.lay.new.self c.in_ok-place._held.now c.in-Some.held c.read-held.result.0 c.read-held.result.1
    c.in_ok-place.ensures.found c.in-Some.ensures.held c.lift.ensures.free c.lay.ensures c.read-held.ensures.unchanged
