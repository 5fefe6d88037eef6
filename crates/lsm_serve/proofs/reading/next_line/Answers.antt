use Rattle.std.proofs.Common.{inl, inr}
use Rattle.lsm_serve.proofs.ReadingLaws.{few_kept, reading-begins, reading-end, reading-line, reading-more, reading-same}
use Rattle.lsm_serve.proofs.reading.next_line.Goals as goal

pub loop-init : goal.loop-init
loop-init g c = reading-begins _ c.clear.new.self.items c.clear.ensures.items

pub take_piece-requires : goal.take_piece-requires
take_piece-requires g c = few_kept c.loop.line.items c.loop.invariant.begun c.loop.invariant.cut

pub returns-in-Line-clause-line : goal.returns-in-Line-clause-line
returns-in-Line-clause-line g c =
    let t = rw c.in-Line.is at c.in_ok-ahead.ensures.takes in
    reading-line _ _ _ c.loop.line.items c.take_piece.new.line.items t.0 c.loop.invariant t.1 t.2 t.3

pub returns-in-End-clause-line : goal.returns-in-End-clause-line
returns-in-End-clause-line g c =
    reading-end _ _ _ c.loop.line.items _ _ _ c.loop.invariant (rw c.in-End.is at c.in_ok-ahead.ensures.takes) c.deref.ensures.value c.ended.ensures.none

pub loop-preserved : goal.loop-preserved
loop-preserved g c = elim c.in-Part.is [
  | inl e ↦ let t = rw e at c.in_ok-ahead.ensures.takes in reading-more _ _ _ c.loop.line.items c.take_piece.new.line.items t.0 c.loop.invariant t.1 t.2 t.3
  | inr e ↦ reading-same _ _ _ c.loop.line.items c.take_piece.new.line.items c.loop.invariant (rw e at c.in_ok-ahead.ensures.takes)
]
