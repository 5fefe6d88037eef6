use Rattle.std.proofs.Common.{◌∙◌, subst, Option}
use Rattle.lsm_codec.specs.Keys.{Bytes}
use Rattle.lsm_machine.specs.Calls.{Scan, Reply}
use Rattle.lsm_machine.specs.declared.asked.At.{At}
use Rattle.corwaphi_c.specs.Calls.{Answers, IsRows, Makes, at_of, end_of, no_journal}
use Rattle.corwaphi_c.proofs.Moving.{handed, shown}
use Rattle.corwaphi_c.proofs.reading.corwaphi_store_rows.Goals as goal

pub rows-answer-requires : goal.rows-answer-requires
rows-answer-requires g c = shown c.args.image.now g.past c.args.handle.value _ (c.deref_mut.ensures.value ∙ c.into_box-kept.ensures) c.requires

pub returns : goal.returns
returns g c =
    let Told = λ (a : At) (to : Option Bytes). Makes (Answers (Scan a c.args.from.now to c.args.limit) (λ (reply : Reply). IsRows reply c.rows-answer.result c.rows-answer.new.room c.rows-answer.new.told)) (no_journal g.past) in
    let old = c.deref_mut.result.now.store in let new = c.rows-answer.new.kept.store in
    let to = end_of c.args.has_to c.args.to.now in
    handed (Told (at_of c.args.snapshot) to) c.args.handle.value _ c.rows-answer.new.kept _ (c.deref_mut.ensures.value ∙ c.into_box-kept.ensures) c.put.ensures
    (subst (λ (a : At). Told a to old new) c.at.ensures (subst (λ (t : Option Bytes). Told c.at.result t old new) c.end-to.ensures c.rows-answer.ensures))
