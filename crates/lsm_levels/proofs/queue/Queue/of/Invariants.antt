use Rattle.std.proofs.Common.{map, ltb}
use Rattle.lsm_levels.specs.Cursors.{present}
use Rattle.lsm_levels.specs.Queues.{IsQueue}
use Rattle.lsm_levels.proofs.queue.Queue.of.Given as goal

abbrev pub invariant-loop-place : goal.invariant-loop-place
invariant-loop-place g l = IsQueue (map present l.sources) (λ j. ltb j l.place) l.places.items
