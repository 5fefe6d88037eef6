use Rattle.std.proofs.Common.{sym, ap, ◌∙◌, length, arith}
use Rattle.lsm_codec.proofs.Spelled.{none_left, next_left, never_unread}
use Rattle.lsm_codec.proofs.operations.OperationsIterator.next.Goals as goal

pub returns-then-self-eq0-clause-steps : goal.returns-then-self-eq0-clause-steps
returns-then-self-eq0-clause-steps c =
    let none = sym c.self.view_is ∙ none_left c.self.inside.left c.self.inside.text.now c.if-self-eq0.true in
    (none, none)

pub returns-in_err-operation-clause-steps : goal.returns-in_err-operation-clause-steps
returns-in_err-operation-clause-steps c =
    absurd (never_unread c.self.inside.left c.self.inside.text.now (omega (arith, c.if-self-eq0.false)) (sym c.in_err-operation.ensures.read) c.self.invariant)

pub invariant_of-self : goal.invariant_of-self
invariant_of-self c =
    (next_left c.self.inside.left c.self.inside.text.now _ (omega (arith, c.if-self-eq0.false)) (sym c.in_ok-operation.ensures.read) c.self.invariant).0

pub returns-clause-steps : goal.returns-clause-steps
returns-clause-steps c =
    sym c.self.view_is ∙ (next_left c.self.inside.left c.self.inside.text.now _ (omega (arith, c.if-self-eq0.false)) (sym c.in_ok-operation.ensures.read) c.self.invariant).1

pub returns-clause-goes : goal.returns-clause-goes
returns-clause-goes c = record {
  on = λ finite. (tt, tt, omega (arith, ap length (returns-clause-steps c)));
  keeps = tt;
  rests = λ finite. tt;
}
