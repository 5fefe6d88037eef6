use Rattle.std.proofs.Common.{lit<}
use Rattle.std.proofs.lemmas.Str.Pattern.{split_once_first}
use Rattle.lsm_language.proofs.WordLaws.{pair_in-from}
use Rattle.lsm_language.proofs.words.pair_in.Goals as goal

pub returns : goal.returns
returns c = pair_in-from c.args.word.now _ (split_once_first 61 c.args.word.now _ c.split_once.ensures.cases (lit< tt))
