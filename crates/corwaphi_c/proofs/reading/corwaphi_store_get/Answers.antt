use Rattle.std.proofs.Common.{◌∙◌, subst}
use Rattle.lsm_machine.specs.Calls.{Get, Reply}
use Rattle.lsm_machine.specs.declared.asked.At.{At}
use Rattle.corwaphi_c.specs.Calls.{Answers, IsValue, Makes, at_of, no_journal}
use Rattle.corwaphi_c.proofs.Moving.{handed, shown}
use Rattle.corwaphi_c.proofs.reading.corwaphi_store_get.Goals as goal

pub get-answer-requires : goal.get-answer-requires
get-answer-requires g c = shown c.args.image.now g.past c.args.handle.value _ (c.deref_mut.ensures.value ∙ c.into_box-kept.ensures) c.requires

pub returns : goal.returns
returns g c =
    let Told = λ (a : At). Makes (Answers (Get a c.args.key.now) (λ (reply : Reply). IsValue reply c.get-answer.result c.get-answer.new.room c.get-answer.new.size)) (no_journal g.past) in
    handed (Told (at_of c.args.snapshot)) c.args.handle.value _ c.get-answer.new.kept _ (c.deref_mut.ensures.value ∙ c.into_box-kept.ensures) c.put.ensures
    (subst (λ (a : At). Told a c.deref_mut.result.now.store c.get-answer.new.kept.store) c.at.ensures c.get-answer.ensures)
