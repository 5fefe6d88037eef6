use Rattle.std.proofs.Common.{map, rules}
use Rattle.lsm_lives.specs.Calls.{told_of}
use Rattle.lsmctl.proofs.runs.replay.Goals as goal

pub returns-clause-tells : goal.returns-clause-tells
returns-clause-tells g c = record {
  replies = map told_of c.in_ok-replies.replies.items;
  makes = search rules;
  told = search rules;
}
