use Rattle.std.proofs.Common.{arith}
use Rattle.std.proofs.lemmas.Bool.{leb-true}
use Rattle.lsm_room.proofs.Flushed.{both_leave}
use Rattle.lsm_room.proofs.standing.Standing.leaves_flushes.Goals as goal

pub returns-clause-room : goal.returns-clause-room
returns-clause-room g c = λ fits.
    both_leave 100 _ c.args.self.now.live c.args.memory.waiting c.args.memory.after c.flush_outputs-first.result c.flush_outputs-second.result c.flush_outputs-first.ensures.takes c.flush_outputs-second.ensures.takes
    (omega (arith, c.free.ensures.count, c.free.ensures.few))
    (omega (arith, leb-true _ _ fits, c.saturating_add.ensures, c.saturating_add-2.ensures, c.for_steps.ensures.least, c.free.ensures.count, c.free.ensures.few))
