use Rattle.std.proofs.Common.{◌∙◌, ap}
use Rattle.lsm_language.specs.Showing.{is_shown}
use Rattle.lsm_language.proofs.TextLaws.{shown-is_shown}
use Rattle.lsm_language.proofs.failure.Failure.new.Goals as goal

pub invariant_of-result-clause-shown : goal.invariant_of-result-clause-shown
invariant_of-result-clause-shown c = ap is_shown c.in_ok-error.ensures ∙ shown-is_shown c.as_bytes.result.now
