use Rattle.std.proofs.Common.{◌∙◌}
use Rattle.corwaphi_c.specs.Calls.{CommitsTextIf}
use Rattle.corwaphi_c.proofs.Moving.{handed, shown}
use Rattle.corwaphi_c.proofs.writing.corwaphi_store_write_if.Goals as goal

pub write_if-answer-requires : goal.write_if-answer-requires
write_if-answer-requires g c = shown c.args.image.now g.past c.args.handle.value _ (c.deref_mut.ensures.value ∙ c.into_box-kept.ensures) c.requires

pub returns : goal.returns
returns g c = handed
    (CommitsTextIf c.args.guards.now c.args.text.now c.write_if-answer.result c.write_if-answer.new.number c.write_if-answer.new.place (record { past = g.past; used = c.write_if-answer.new.used; journal = c.write_if-answer.new.journal }))
    c.args.handle.value _ c.write_if-answer.new.kept _ (c.deref_mut.ensures.value ∙ c.into_box-kept.ensures) c.put.ensures c.write_if-answer.ensures
