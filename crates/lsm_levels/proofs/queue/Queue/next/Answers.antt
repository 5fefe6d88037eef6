use Rattle.std.proofs.Common.{rules, Some, None}
use Rattle.lsm_levels.proofs.QueueLaws.{next_found, none_long}
use Rattle.lsm_levels.proofs.queue.Queue.next.Goals as goal

pub returns-in-None-clause-next : goal.returns-in-None-clause-next
returns-in-None-clause-next g c heads q = next_found heads c.args.self.now None (none_long c.args.self.now (search rules)) q

pub returns-in-Some-clause-next : goal.returns-in-Some-clause-next
returns-in-Some-clause-next g c heads q = next_found heads c.args.self.now (Some c.in-Some.place.now) (record { others = c.in-Some._others.now; is = search rules }) q
