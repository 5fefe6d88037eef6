use Rattle.lsm_open.proofs.OneMeaning.{one_meaning}
use Rattle.lsm_open.proofs.TableFrames.{same_meaning}
use Rattle.lsm_open.proofs.image_law.sectors_have_one_meaning.Goals as goal

pub returns-clause-meaning : goal.returns-clause-meaning
returns-clause-meaning c = λ n k left other sectors is also. one_meaning n k left other sectors is also

pub returns-clause-decided : goal.returns-clause-decided
returns-clause-decided c = λ n left sectors others behind root is. same_meaning n sectors others left behind root is
