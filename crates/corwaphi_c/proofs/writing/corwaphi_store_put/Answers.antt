use Rattle.std.proofs.Common.{◌∙◌, Some}
use Rattle.lsm_codec.specs.Answers.{key_refusal, or_then, value_refusal}
use Rattle.corwaphi_c.specs.Calls.{CommitsOne}
use Rattle.corwaphi_c.proofs.Moving.{handed, shown}
use Rattle.corwaphi_c.proofs.writing.corwaphi_store_put.Goals as goal

pub put-answer-requires : goal.put-answer-requires
put-answer-requires g c = shown c.args.image.now g.past c.args.handle.value _ (c.deref_mut.ensures.value ∙ c.into_box-kept.ensures) c.requires

pub returns : goal.returns
returns g c = handed
    (CommitsOne (or_then (key_refusal c.args.key.now) (value_refusal c.args.value.now)) (record { key = c.args.key.now; value = Some c.args.value.now }) c.put-answer.result c.put-answer.new.number (record { past = g.past; used = c.put-answer.new.used; journal = c.put-answer.new.journal }))
    c.args.handle.value _ c.put-answer.new.kept _ (c.deref_mut.ensures.value ∙ c.into_box-kept.ensures) c.put.ensures c.put-answer.ensures
