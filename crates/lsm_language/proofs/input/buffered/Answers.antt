use Rattle.lsm_language.proofs.TextReadingLaws.{buffered-remaining}
use Rattle.lsm_language.proofs.input.buffered.Goals as goal

pub returns-in-Ok-clause-lines : goal.returns-in-Ok-clause-lines
returns-in-Ok-clause-lines g c = buffered-remaining (λ input. g.I.Read.remaining input.now) c.in-Ok.lines c.args.input c.in-Ok.ensures.inner c.in-Ok.ensures.empty c.in-Ok.ensures.capacity
