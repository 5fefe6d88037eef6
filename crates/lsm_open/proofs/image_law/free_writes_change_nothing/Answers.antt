use Rattle.lsm_open.proofs.FreeWrites.{carried_elsewhere, left_elsewhere, free_present, free_moments}
use Rattle.lsm_open.proofs.image_law.free_writes_change_nothing.Goals as goal

pub returns-clause-carried : goal.returns-clause-carried
returns-clause-carried c = λ p d writes free carried. carried_elsewhere p d writes free carried

pub returns-clause-present : goal.returns-clause-present
returns-clause-present c = λ p d writes free carried. free_present p d writes free carried

pub returns-clause-left : goal.returns-clause-left
returns-clause-left c = λ p d writes left free carried may. left_elsewhere p d writes free carried left may

pub returns-clause-moments : goal.returns-clause-moments
returns-clause-moments c = λ p writes old new free carried each. free_moments p writes old new free carried each
