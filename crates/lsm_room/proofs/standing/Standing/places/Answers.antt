use Rattle.std.proofs.Common.{arith}
use Rattle.lsm_room.proofs.Rooms.{of_none}
use Rattle.lsm_room.proofs.standing.Standing.places.Goals as goal

pub returns-then-outputs-eq0-clause-room : goal.returns-then-outputs-eq0-clause-room
returns-then-outputs-eq0-clause-room g c e = of_none c.args.self.now.extents.now c.args.outputs.blocks c.args.outputs.largest (omega (arith, c.if-outputs-eq0.true))
