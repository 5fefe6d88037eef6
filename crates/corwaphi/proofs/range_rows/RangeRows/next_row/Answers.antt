use Rattle.corwaphi.specs.Advancing.{standing}
use Rattle.corwaphi.proofs.AdvancingLaws.{asks_row}
use Rattle.corwaphi.proofs.range_rows.RangeRows.next_row.Goals as goal

pub returns-clause-asks : goal.returns-clause-asks
returns-clause-asks g c = asks_row (standing c.args.self.now) (standing c.read.new.self) (standing c.take.new.self) c.take.result c.in_ok-read.ensures.reads c.take.ensures.takes
