use Rattle.std.proofs.Common.{◌∙◌, ◌==◌, ℕ, List, length, not, ap, inl, inr, arith}
use Rattle.lsm_language.proofs.ReadingLaws.{reading-begins, reading-end, reading-line, reading-long, reading-more, reading-same}
use Rattle.lsm_language.proofs.reading.next_line.Goals as goal

pub loop-init : goal.loop-init
loop-init g c = reading-begins _ _ c.clear.new.self.items c.clear.ensures.items

pub returns-in-Line-clause-line : goal.returns-in-Line-clause-line
returns-in-Line-clause-line g c =
    let t = rw c.in-Line.is at c.in_ok-take_piece.ensures.takes in
    reading-line _ _ _ _ c.loop.line.items c.take_piece.new.line.items t.0 c.loop.invariant t.1 t.2 t.3

pub loop-preserved : goal.loop-preserved
loop-preserved g c = elim c.in-Part.is [
  | inl e ↦ let t = rw e at c.in_ok-take_piece.ensures.takes in reading-more _ _ _ _ c.loop.line.items c.take_piece.new.line.items t.0 c.loop.invariant t.1 t.2 t.3
  | inr e ↦ reading-same _ _ _ _ c.loop.line.items c.take_piece.new.line.items c.loop.invariant (rw e at c.in_ok-take_piece.ensures.takes)
]

pub returns-then-len-most-clause-line : goal.returns-then-len-most-clause-line
returns-then-len-most-clause-line g c = reading-long _ _ _ c.loop.line.items c.loop.invariant (omega (arith, c.if-len-most.true, c.len.ensures, c.loop.line.ok.0))

pub returns-in-End-clause-line : goal.returns-in-End-clause-line
returns-in-End-clause-line g c =
    reading-end _ _ _ _ c.loop.line.items _ _ c.loop.invariant (rw c.in-End.is at c.in_ok-take_piece.ensures.takes)
    (c.is_line.ensures ∙ ap (λ (l : List ℕ). not (length l == 0)) c.deref.ensures.value)
