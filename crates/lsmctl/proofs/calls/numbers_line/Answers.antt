use Rattle.std.proofs.Common.{rules}
use Rattle.lsmctl.proofs.calls.numbers_line.Goals as goal

pub returns-clause-gives : goal.returns-clause-gives
returns-clause-gives g c = record {
  stat = c.in_ok-stat.stat;
  numbers = search rules;
  is = search rules;
}
