use Rattle.lsm_room.proofs.Rooms.{all_counted}
use Rattle.lsm_room.proofs.standing.Standing.tables.Goals as goal

pub returns : goal.returns
returns g c =
    all_counted c.args.self.now.levels.now c.runs.result.now c.deeper.result.now c.runs.ensures.same c.deeper.ensures.same
    18446744073709551615 c.count_with.result c.count_with-2.result c.count_with.ensures c.count_with-2.ensures
