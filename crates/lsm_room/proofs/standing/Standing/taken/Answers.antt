use Rattle.lsm_room.proofs.Rooms.{all_taken}
use Rattle.lsm_room.proofs.standing.Standing.taken.Goals as goal

pub returns : goal.returns
returns g c =
    all_taken c.args.self.now.levels.now c.runs.result.now c.deeper.result.now c.runs.ensures.same c.deeper.ensures.same
    18446744073709551615 c.blocks_of_runs.result c.blocks_of_runs-2.result c.blocks_of_runs.ensures c.blocks_of_runs-2.ensures
