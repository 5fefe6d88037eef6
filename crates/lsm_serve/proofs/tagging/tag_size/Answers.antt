use Rattle.std.proofs.Common.{◌∙◌, sym}
use Rattle.lsm_serve.proofs.TaggingLaws.{tag-found, tag-none, tag-other}
use Rattle.lsm_serve.proofs.tagging.tag_size.Goals as goal

pub returns-in-Some-clause-size : goal.returns-in-Some-clause-size
returns-in-Some-clause-size c = tag-found c.args.line.now c.first_space.result c.in-Some.place c.first_space.ensures.value c.in-Some.is (sym c.is_tag_word.ensures ∙ c.if-is_tag_word.true)

pub returns-in_default-clause-size : goal.returns-in_default-clause-size
returns-in_default-clause-size c = tag-other c.args.line.now c.first_space.result c.in-Some.place c.first_space.ensures.value c.in-Some.is (sym c.is_tag_word.ensures ∙ c.if-is_tag_word.false)

pub returns-in_default-2-clause-size : goal.returns-in_default-2-clause-size
returns-in_default-2-clause-size c = tag-none c.args.line.now c.first_space.result c.first_space.ensures.value c.in_default.is
