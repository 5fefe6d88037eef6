use Rattle.std.proofs.Common.{arith}
use Rattle.lsm_jobs.proofs.Noted.{written_is}
use Rattle.lsm_jobs.proofs.slots.Slots.write.Goals as goal

pub returns-clause-left : goal.returns-clause-left
returns-clause-left g c =
    written_is c.args.job c.in_ok-place.place c.left-left.result c.min-count.result c.in_ok-place.outputs.now c.args.self.now c.note_written.new.self c.in_ok-place.ensures.found c.left-left.ensures (omega (arith, c.min-count.ensures)) c.note_written.ensures
