use Rattle.lsm_open.specs.Recovering.{IsOpeningRefusal}
use Rattle.lsmctl.specs.Answers.{HasNumbers}
use Rattle.lsmctl.proofs.RefusedLaws.{closed_answers, closed_refuses, numbers_refuse}
use Rattle.lsmctl.proofs.calls.stat.Goals as goal

pub returns-clause-gives : goal.returns-clause-gives
returns-clause-gives g c = closed_answers HasNumbers c.in_ok-store.store c.in_ok-store.store _ _ c.in_ok-store.ensures.opened c.numbers-done.ensures.gives c.closed.ensures.answer

pub returns-clause-refused : goal.returns-clause-refused
returns-clause-refused g c =
    closed_refuses IsOpeningRefusal _ _ (numbers_refuse c.in_ok-store.store _ c.in_ok-store.ensures.opened c.numbers-done.ensures.refused) c.closed.ensures.refused
