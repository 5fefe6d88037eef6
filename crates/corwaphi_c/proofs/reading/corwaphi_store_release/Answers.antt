use Rattle.std.proofs.Common.{◌∙◌}
use Rattle.lsm_machine.specs.Calls.{Reply, Release}
use Rattle.corwaphi_c.specs.Calls.{Answers, IsDone, MakesParked}
use Rattle.corwaphi_c.proofs.Moving.{handed}
use Rattle.corwaphi_c.proofs.reading.corwaphi_store_release.Goals as goal

pub returns : goal.returns
returns c = handed (MakesParked (Answers (Release c.args.snapshot) (λ (reply : Reply). IsDone reply c.release-answer.result))) c.args.handle.value _ c.release-answer.new.kept _ (c.deref_mut.ensures.value ∙ c.into_box-kept.ensures) c.put.ensures c.release-answer.ensures
