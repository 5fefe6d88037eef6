use Rattle.std.proofs.Common.{◌∙◌}
use Rattle.corwaphi_c.specs.Calls.{CommitsText}
use Rattle.corwaphi_c.proofs.Moving.{handed, shown}
use Rattle.corwaphi_c.proofs.writing.corwaphi_store_write.Goals as goal

pub write-answer-requires : goal.write-answer-requires
write-answer-requires g c = shown c.args.image.now g.past c.args.handle.value _ (c.deref_mut.ensures.value ∙ c.into_box-kept.ensures) c.requires

pub returns : goal.returns
returns g c = handed
    (CommitsText c.args.text.now c.write-answer.result c.write-answer.new.number (record { past = g.past; used = c.write-answer.new.used; journal = c.write-answer.new.journal }))
    c.args.handle.value _ c.write-answer.new.kept _ (c.deref_mut.ensures.value ∙ c.into_box-kept.ensures) c.put.ensures c.write-answer.ensures
