use Rattle.std.proofs.Common.{◌∙◌, ap, sym}
use Rattle.std.specs.Ordering.{is_lt}
use Rattle.lsm_merge.specs.Ranges.{shown_key, is_until}
use Rattle.lsm_merge.proofs.input.is_until.Goals as goal

pub returns-in-Equal : goal.returns-in-Equal
returns-in-Equal c = ap is_lt (sym c.in-Equal.is ∙ c.cmp.ensures) ∙ ap (λ o. is_until (shown_key o) c.args.key.now) (sym c.in-Some.is)
