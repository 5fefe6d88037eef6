use Rattle.std.proofs.Common.{◌∙◌}
use Rattle.lsm_upkeep.specs.Steps.{IsUpkept}
use Rattle.corwaphi_c.specs.Calls.{MakesIn}
use Rattle.corwaphi_c.proofs.Moving.{handed, shown}
use Rattle.corwaphi_c.proofs.upkeep.corwaphi_store_work.Goals as goal

pub work-answer-requires : goal.work-answer-requires
work-answer-requires g c = shown c.args.image.now g.past c.args.handle.value _ (c.deref_mut.ensures.value ∙ c.into_box-kept.ensures) c.requires

pub returns : goal.returns
returns g c = handed
    (MakesIn IsUpkept c.work-answer.result (record { past = g.past; used = c.work-answer.new.used; journal = c.work-answer.new.journal }))
    c.args.handle.value _ c.work-answer.new.kept _ (c.deref_mut.ensures.value ∙ c.into_box-kept.ensures) c.put.ensures c.work-answer.ensures
