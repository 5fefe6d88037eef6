use Rattle.std.proofs.Common.{inl, refl}
use Rattle.lsm_open.proofs.replayed.Replayed.add_region.Goals as goal

pub take_in-requires-clause-first : goal.take_in-requires-clause-first
take_in-requires-clause-first g c = c.if-listed-self.false

pub returns-then-listed-self-clause-refused : goal.returns-then-listed-self-clause-refused
returns-then-listed-self-clause-refused g c = inl (refl, c.if-listed-self.true)
