use Rattle.lsm_shared.proofs.AtWork.{looks, stays}
use Rattle.example_shared.proofs.worker.has_ended.Goals as goal

pub returns-then-not-busy : goal.returns-then-not-busy
returns-then-not-busy g c = stays _ _ _ c.in_ok-busy.ensures.works (looks _ _ c.watch-calls.ensures.sees)

pub returns-else-not-busy : goal.returns-else-not-busy
returns-else-not-busy g c = stays _ _ _ c.in_ok-busy.ensures.works (looks _ _ c.watch-calls.ensures.sees)
