use Rattle.std.proofs.Common.{refl}
use Rattle.lsmctl.proofs.calls.numbers.Goals as goal

pub returns-clause-gives : goal.returns-clause-gives
returns-clause-gives g c = record {
  stat = c.in_ok-numbers_line.ensures.gives.stat;
  numbers = c.in_ok-numbers_line.ensures.gives.numbers;
  same = refl;
  told = c.in_ok-numbers_line.ensures.gives.is;
}
