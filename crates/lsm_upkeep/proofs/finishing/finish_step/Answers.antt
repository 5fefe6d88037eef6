use Rattle.std.proofs.Common.{Some, inr}
use Rattle.lsm_upkeep.proofs.FinishingLaws.{given-job}
use Rattle.lsm_upkeep.proofs.finishing.finish_step.Goals as goal

pub returns-in-Ok-Some-clause-finished : goal.returns-in-Ok-Some-clause-finished
returns-in-Ok-Some-clause-finished g c = λ done. record {
  job = c.in-Ok-Some.taken.number;
  level = c.in-Ok-Some.taken.level;
  begun = c.job_take_of.new.self;
  taken = given-job (Some c.args.step.choice) c.args.store.now c.job_take_of.new.self c.in-Ok-Some.field-0 c.in-Ok-Some.taken c.in-Ok-Some.field-0-is c.in-Ok-Some.ensures.works;
  goes = c.finish_or_drop.ensures.finished done;
}

pub returns-in-Ok-Some-clause-undone : goal.returns-in-Ok-Some-clause-undone
returns-in-Ok-Some-clause-undone g c = λ given_up. inr (inr record {
  job = c.in-Ok-Some.taken.number;
  level = c.in-Ok-Some.taken.level;
  begun = c.job_take_of.new.self;
  taken = given-job (Some c.args.step.choice) c.args.store.now c.job_take_of.new.self c.in-Ok-Some.field-0 c.in-Ok-Some.taken c.in-Ok-Some.field-0-is c.in-Ok-Some.ensures.works;
  goes = c.finish_or_drop.ensures.given_up given_up;
})
