use Rattle.std.proofs.Common.{◌∙◌, sym, subst}
use Rattle.lsm_table.specs.Division.{IsInput}
use Rattle.lsm_merge.specs.Inputs.{kept_of}
use Rattle.lsm_merge.proofs.FewLaws.{kept-IsInput}
use Rattle.lsm_merge.proofs.PartLaws.{all_pass}
use Rattle.lsm_merge.proofs.building.whole.Goals as goal

pub returns-clause-value : goal.returns-clause-value
returns-clause-value g c = c.in_ok-kept_part.ensures ∙ all_pass (kept_of c.args.input.now)

pub returns-clause-divides : goal.returns-clause-divides
returns-clause-divides g c = subst IsInput (sym (c.in_ok-kept_part.ensures ∙ all_pass (kept_of c.args.input.now))) (kept-IsInput c.args.input.now c.cuts.ensures.limits)
