use Rattle.std.proofs.Common.{refl}
use Rattle.lsm_store.proofs.NoGuards.{no_guards_serve, no_guards_allow, no_guards_go}
use Rattle.lsm_store.proofs.law.no_guards_are_a_commit.Goals as goal

pub returns-clause-serves : goal.returns-clause-serves
returns-clause-serves c = λ old new batch reply. no_guards_serve batch old new reply

pub returns-clause-allows : goal.returns-clause-allows
returns-clause-allows c = λ m batch reply. no_guards_allow m batch reply

pub returns-clause-machine : goal.returns-clause-machine
returns-clause-machine c = λ m batch reply. no_guards_go m batch reply

pub returns-clause-left : goal.returns-clause-left
returns-clause-left c = λ m batch. refl
