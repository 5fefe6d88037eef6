use Rattle.std.proofs.Common.{◌∙◌}
use Rattle.lsm_machine.specs.Calls.{Reply, Snapshot}
use Rattle.corwaphi_c.specs.Calls.{Answers, IsNumber, MakesParked}
use Rattle.corwaphi_c.proofs.Moving.{handed}
use Rattle.corwaphi_c.proofs.reading.corwaphi_store_snapshot.Goals as goal

pub returns : goal.returns
returns c = handed (MakesParked (Answers Snapshot (λ (reply : Reply). IsNumber reply c.take_snapshot-answer.result c.take_snapshot-answer.new.out))) c.args.handle.value _ c.take_snapshot-answer.new.kept _ (c.deref_mut.ensures.value ∙ c.into_box-kept.ensures) c.put.ensures c.take_snapshot-answer.ensures
