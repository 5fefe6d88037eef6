use Rattle.std.proofs.Common.{[]}
use Rattle.lsm_levels.specs.Picks.{job_of}
use Rattle.lsm_room.proofs.Making.{chosen_finds_room}
use Rattle.lsm_room.proofs.standing.Standing.is_sure.Goals as goal

pub returns-then-taken_in-most_blocks-clause-room : goal.returns-then-taken_in-most_blocks-clause-room
returns-then-taken_in-most_blocks-clause-room g c is =
    chosen_finds_room c.args.self.now.extents.now c.args.self.now.levels.now c.args.self.now.live (g.H.HeldJobs.jobs c.args.self.now.held.now) c.args.choice (job_of c.in-Some.job) [] c.outputs_of.result c.runs-runs.ensures.runs
    c.in-Some.ensures c.outputs_of.ensures (c.places.ensures.few is) (c.places.ensures.room is)
