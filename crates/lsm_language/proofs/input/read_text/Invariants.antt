use Rattle.lsm_language.proofs.TextReadingLaws.{IsTaking}
use Rattle.lsm_language.proofs.input.read_text.Given as goal

abbrev pub invariant-loop : goal.invariant-loop
invariant-loop g l = IsTaking (g.I.Read.remaining l.fn.input) l.text.items l.room (g.I.Read.remaining l.input)
