use Rattle.std.proofs.Common.{map}
use Rattle.lsm_levels.specs.Cursors.{present}
use Rattle.lsm_levels.proofs.QueueLaws.{settled_again}
use Rattle.lsm_levels.proofs.queue.Queue.settle.Goals as goal

pub returns : goal.returns
returns g c heads i ends q on = settled_again heads (map present c.args.sources.now) i c.args.self.now c.settle_last.new.places.items (rw (← c.self.view_is) c.settle_last.ensures) ends q on
