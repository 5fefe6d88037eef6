use Rattle.std.proofs.Common.{sym, rules}
use Rattle.lsm_storm.proofs.Crewing.{ended_all, ended_done}
use Rattle.lsm_storm.proofs.crew.run.Goals as goal

pub returns-in-Ok-finish-clause-done : goal.returns-in-Ok-finish-clause-done
returns-in-Ok-finish-clause-done g c = ended_done c.args.tasks g.B.SessionName.id.begin c.in-Ok.begun.1.len c.in-Ok.begun.1.items c.deref_mut.result.now c.do_all.new.crew
    c.in-Ok.begun.1.ok.0 c.deref_mut.ensures.value c.in-Ok.ensures c.do_all.auto.crew c.do_all.ensures c.in-Ok-finish.store c.in-Ok-finish.trail c.in-Ok-finish.ensures.ended

pub returns-clause-refused : goal.returns-clause-refused
returns-clause-refused g c = absurd (c.in-Err-finish.ensures.clients.0 (ended_all c.args.tasks g.B.SessionName.id.begin c.in-Ok.begun.1.len c.in-Ok.begun.1.items c.deref_mut.result.now c.do_all.new.crew
    c.in-Ok.begun.1.ok.0 c.deref_mut.ensures.value c.in-Ok.ensures c.do_all.auto.crew c.do_all.ensures))
