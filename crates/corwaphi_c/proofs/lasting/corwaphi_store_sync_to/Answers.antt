use Rattle.std.proofs.Common.{◌∙◌}
use Rattle.lsm_machine.specs.Calls.{Reply, SyncTo}
use Rattle.corwaphi_c.specs.Calls.{Answers, IsDone, MakesIn}
use Rattle.corwaphi_c.proofs.Moving.{handed, shown}
use Rattle.corwaphi_c.proofs.lasting.corwaphi_store_sync_to.Goals as goal

pub make-answer-requires : goal.make-answer-requires
make-answer-requires g c = shown c.args.image.now g.past c.args.handle.value _ (c.deref_mut.ensures.value ∙ c.into_box-kept.ensures) c.requires

pub returns : goal.returns
returns g c = handed
    (MakesIn (Answers (SyncTo c.args.number) (λ (reply : Reply). IsDone reply c.make-answer.result)) c.make-answer.result (record { past = g.past; used = c.make-answer.new.used; journal = c.make-answer.new.journal }))
    c.args.handle.value _ c.make-answer.new.kept _ (c.deref_mut.ensures.value ∙ c.into_box-kept.ensures) c.put.ensures c.make-answer.ensures
