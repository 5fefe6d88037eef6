use Rattle.std.proofs.Common.{inl, inr, refl}
use Rattle.lsm_language.proofs.reading.unread.Goals as goal

pub returns-then-eq : goal.returns-then-eq
returns-then-eq c = inl refl

pub returns : goal.returns
returns c = inr refl
