use Rattle.std.proofs.lemmas.Str.Pattern.{strip_prefix_char}
use Rattle.lsm_language.proofs.WordLaws.{after-from}
use Rattle.lsm_language.proofs.words.after.Goals as goal

pub returns : goal.returns
returns c = after-from c.args.letter c.args.word.now _ (strip_prefix_char c.args.letter c.args.word.now _ c.strip_prefix.ensures.cases c.requires)
