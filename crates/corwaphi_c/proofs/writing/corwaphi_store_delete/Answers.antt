use Rattle.std.proofs.Common.{◌∙◌, None}
use Rattle.lsm_codec.specs.Answers.{key_refusal}
use Rattle.corwaphi_c.specs.Calls.{CommitsOne}
use Rattle.corwaphi_c.proofs.Moving.{handed, shown}
use Rattle.corwaphi_c.proofs.writing.corwaphi_store_delete.Goals as goal

pub delete-answer-requires : goal.delete-answer-requires
delete-answer-requires g c = shown c.args.image.now g.past c.args.handle.value _ (c.deref_mut.ensures.value ∙ c.into_box-kept.ensures) c.requires

pub returns : goal.returns
returns g c = handed
    (CommitsOne (key_refusal c.args.key.now) (record { key = c.args.key.now; value = None }) c.delete-answer.result c.delete-answer.new.number (record { past = g.past; used = c.delete-answer.new.used; journal = c.delete-answer.new.journal }))
    c.args.handle.value _ c.delete-answer.new.kept _ (c.deref_mut.ensures.value ∙ c.into_box-kept.ensures) c.put.ensures c.delete-answer.ensures
