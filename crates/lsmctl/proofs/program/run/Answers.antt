use Rattle.lsmctl.proofs.RunLaws.{done-of_run, mistake-of_run}
use Rattle.lsmctl.proofs.program.run.Goals as goal

pub returns-clause-runs : goal.returns-clause-runs
returns-clause-runs g c = record {
  answered = c.answer-answered.result;
  between = g.O.Write.contents c.answer-answered.new.output;
  comes = c.answer-answered.ensures;
  concludes = c.conclude.ensures.concludes;
}

pub returns-clause-status : goal.returns-clause-status
returns-clause-status g c = c.conclude.ensures.status

pub returns-clause-done : goal.returns-clause-done
returns-clause-done g c ended = (done-of_run _ _ _ _ (returns-clause-runs g c) ended).0

pub returns-clause-no_fault : goal.returns-clause-no_fault
returns-clause-no_fault g c ended = (done-of_run _ _ _ _ (returns-clause-runs g c) ended).1

pub returns-clause-mistake : goal.returns-clause-mistake
returns-clause-mistake g c ended = mistake-of_run _ _ _ _ (returns-clause-runs g c) ended
