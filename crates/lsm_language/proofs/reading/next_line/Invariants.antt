use Rattle.lsm_language.proofs.ReadingLaws.{IsReading}
use Rattle.lsm_language.proofs.reading.next_line.Given as goal

abbrev pub invariant-loop : goal.invariant-loop
invariant-loop g l = IsReading l.most (g.I.Read.remaining l.fn.input) l.line.items (g.I.Read.remaining l.input)
