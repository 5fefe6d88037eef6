use Rattle.std.proofs.Common.{[]}
use Rattle.lsm_levels.specs.Picks.{job_of}
use Rattle.lsm_room.proofs.Making.{chosen_makes}
use Rattle.lsm_room.proofs.standing.Standing.outputs.Goals as goal

pub returns-in-Some-clause-takes : goal.returns-in-Some-clause-takes
returns-in-Some-clause-takes g c =
    chosen_makes c.args.self.now.levels.now c.args.self.now.live (g.H.HeldJobs.jobs c.args.self.now.held.now) c.args.choice (job_of c.in-Some.job) [] c.outputs_of.result c.runs-runs.ensures.runs
    c.in-Some.ensures c.outputs_of.ensures
