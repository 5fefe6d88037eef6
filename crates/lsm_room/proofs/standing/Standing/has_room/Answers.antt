use Rattle.std.proofs.Common.{arith}
use Rattle.lsm_room.proofs.Rooms.{of_least}
use Rattle.lsm_room.proofs.standing.Standing.has_room.Goals as goal

pub returns-in-Ok-clause-room : goal.returns-in-Ok-clause-room
returns-in-Ok-clause-room g c sure = of_least c.args.self.now.extents.now c.args.outputs.blocks c.args.outputs.largest c.in-Ok.largest (grind arith) (c.surely_places.ensures.sure sure)
