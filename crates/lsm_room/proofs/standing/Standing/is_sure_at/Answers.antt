use Rattle.lsm_levels.specs.Picks.{job_of}
use Rattle.lsm_room.proofs.Making.{chosen_finds_room}
use Rattle.lsm_room.proofs.standing.Standing.is_sure_at.Goals as goal

pub returns-in-Some-clause-room : goal.returns-in-Some-clause-room
returns-in-Some-clause-room g c is =
    let placed = c.places_job.ensures is in
    chosen_finds_room c.args.self.now.extents.now c.args.self.now.levels.now c.args.self.now.live (g.H.HeldJobs.jobs c.args.self.now.held.now) c.args.choice (job_of c.in-Some.job) c.args.divisions.now placed.0 c.runs-runs.ensures.runs
    c.in-Some.ensures placed.3 placed.1 placed.2
