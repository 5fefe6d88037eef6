use Rattle.lsm_serve.proofs.ServingLaws.{IsHolding}
use Rattle.lsm_serve.proofs.serving.hold_answers.Given as goal

abbrev pub invariant-loop-number : goal.invariant-loop-number
invariant-loop-number g l =
    IsHolding (g.I.Read.remaining l.fn.input) (g.I.Read.remaining l.input) l.number l.fn.store l.store (g.O.Write.contents l.fn.output) (g.O.Write.contents l.output) l.held.items
