use Rattle.std.proofs.Common.{inl}
use Rattle.corwaphi_c.proofs.writing.write.Goals as goal

pub returns-in-Ok : goal.returns-in-Ok
returns-in-Ok g c = λ s is. inl (c.in-Ok.batch, c.in-Ok.ensures, c.commit.ensures s is)
