use Rattle.std.proofs.Common.{◌∙◌, List, ap}
use Rattle.lsm_levels.specs.Tables.{Table}
use Rattle.lsm_jobs.specs.Placing.{all_given_back}
use Rattle.lsm_jobs.proofs.GivenBack.{outputs_are, outputs_out}
use Rattle.lsm_jobs.proofs.slots.Slots.drop.Goals as goal

pub give_back-requires : goal.give_back-requires
give_back-requires g c =
    outputs_out c.args.job c.args.self.now.slots c.in_ok-place.place c.in_ok-place.held.now c.outputs.result.now c.args.extents.now c.in_ok-place.ensures.found c.outputs.ensures.same c.requires

pub returns-clause-given_back : goal.returns-clause-given_back
returns-clause-given_back g c =
    c.give_back.ensures ∙ ap (λ (ts : List Table). all_given_back ts c.args.extents.now) (outputs_are c.args.job c.args.self.now.slots c.in_ok-place.place c.in_ok-place.held.now c.outputs.result.now c.in_ok-place.ensures.found c.outputs.ensures.same)
