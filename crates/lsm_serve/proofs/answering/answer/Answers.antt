use Rattle.std.proofs.Common.{refl}
use Rattle.lsm_serve.specs.Asking.{wrong_text}
use Rattle.lsm_serve.proofs.answering.answer.Goals as goal

pub returns-in-Nothing-clause-answers : goal.returns-in-Nothing-clause-answers
returns-in-Nothing-clause-answers g c = rw c.in-Nothing.is (wrong_text c.in-Nothing.wrong, rw c.in-Nothing.is at c.requires, refl, refl)
