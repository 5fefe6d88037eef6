use Rattle.lsm_serve.proofs.ReadingLaws.{IsReading}
use Rattle.lsm_serve.proofs.reading.next_line.Given as goal

abbrev pub invariant-loop : goal.invariant-loop
invariant-loop g l = IsReading (g.I.Read.remaining l.fn.input) l.line.items (g.I.Read.remaining l.input)
