use Rattle.std.proofs.Common.{◌∙◌, rules}
use Rattle.lsm_language.proofs.NumberLaws.{number_said-digits}
use Rattle.lsm_language.proofs.number.parse_number.Goals as goal

pub returns : goal.returns
returns c = c.ok.ensures.value ∙ number_said-digits c.args.word.now c.parse.result (search rules) c.parse.ensures.value.0
