use Rattle.lsm_serve.specs.Answering.{outcome_of}
use Rattle.lsm_serve.specs.Tagging.{tag_in}
use Rattle.std.proofs.Common.{refl}
use Rattle.lsm_serve.proofs.serving.hold_answer.Goals as goal

pub returns : goal.returns
returns g c = record {
  answered = record { tag = tag_in c.args.line.now; outcome = outcome_of c.answer_line-answer.result };
  answers = (refl, c.answer_line-answer.ensures.answers);
  added = c.hold.ensures;
}
