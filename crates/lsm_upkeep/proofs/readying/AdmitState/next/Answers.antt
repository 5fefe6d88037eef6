use Rattle.std.proofs.Common.{◌∙◌}
use Rattle.lsm_upkeep.proofs.readying.AdmitState.next.Goals as goal

pub returns-in-Nothing : goal.returns-in-Nothing
returns-in-Nothing g c = record {
  refused = λ refuses. absurd (c.with_log.ensures.refused refuses);
  crowded = λ refuses. absurd (c.with_log.ensures.refused refuses);
  room = c.with_log.ensures.room;
  at_once = λ before. c.with_log.ensures.at_once (c.log_goal.ensures ∙ before);
}
