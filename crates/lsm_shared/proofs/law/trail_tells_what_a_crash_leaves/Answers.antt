use Rattle.std.proofs.Common.{ap}
use Rattle.lsm_machine.specs.Machine.{Machine}
use Rattle.lsm_shared.proofs.Crashes.{free_leaves, ended_leaves, run_of}
use Rattle.lsm_shared.proofs.law.trail_tells_what_a_crash_leaves.Goals as goal

pub returns-clause-free : goal.returns-clause-free
returns-clause-free c = λ id base store log session began. free_leaves id.begin log store session.legal.served (ap (λ (m : Machine). m.state) session.machine) (session.backed began)

pub returns-clause-ended : goal.returns-clause-ended
returns-clause-ended c = λ b clients store trail ended began. ended_leaves b trail.log store ended.legal.served ended.state (ended.backed began)

pub returns-clause-run : goal.returns-clause-run
returns-clause-run c = run_of
