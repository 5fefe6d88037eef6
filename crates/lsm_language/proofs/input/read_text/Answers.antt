use Rattle.lsm_language.proofs.TextReadingLaws.{taking-ends, taking-more}
use Rattle.lsm_language.proofs.input.read_text.Goals as goal

pub loop-preserved : goal.loop-preserved
loop-preserved g c = taking-more _ _ _ c.loop.text.items c.take_text.new.text.items c.loop.room c.in-Some.left c.loop.invariant (rw c.in-Some.is at c.in_ok-left.ensures.takes)

pub returns-in-None-clause-whole : goal.returns-in-None-clause-whole
returns-in-None-clause-whole g c =
    taking-ends (g.I.Read.remaining c.args.input.now) (g.I.Read.remaining c.loop.input) (g.I.Read.remaining c.take_text.new.input) c.loop.text.items c.take_text.new.text.items c.loop.room c.loop.invariant (rw c.in-None.is at c.in_ok-left.ensures.takes)
