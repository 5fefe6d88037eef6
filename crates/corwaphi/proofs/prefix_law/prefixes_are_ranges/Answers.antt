use Rattle.corwaphi.proofs.Prefixes.{prefix_law}
use Rattle.corwaphi.proofs.prefix_law.prefixes_are_ranges.Goals as goal

pub returns : goal.returns
returns c = prefix_law
