use Rattle.std.proofs.Common.{length, refl, ◌∙◌}
use Rattle.lsm_policy.proofs.Rooms.{numbers_add, whole_fits, whole_too_much}
use Rattle.lsm_policy.proofs.room.has_at_most.Goals as goal

pub returns-in-Some : goal.returns-in-Some
returns-in-Some g c =
    c.is_some.ensures
    ∙ whole_fits length numbers_add c.args.limit c.args.levels.now c.runs.result.now c.deeper.result.now c.runs.ensures.same c.deeper.ensures.same c.without_number.result c.without_number.ensures c.in-Some.left c.without_number-in-Some.result c.in-Some.is c.without_number-in-Some.ensures

pub returns-in-None : goal.returns-in-None
returns-in-None g c =
    whole_too_much length numbers_add c.args.limit c.args.levels.now c.runs.result.now c.args.levels.now.deeper c.runs.ensures.same refl c.without_number.result c.without_number.ensures c.in-None.is
