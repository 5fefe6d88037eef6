use Rattle.std.proofs.Common.{refl, ◌∙◌}
use Rattle.lsm_policy.specs.Room.{blocks_of}
use Rattle.lsm_policy.proofs.Rooms.{blocks_add, whole_fits, whole_too_much}
use Rattle.lsm_policy.proofs.room.takes_at_most.Goals as goal

pub returns-in-Some : goal.returns-in-Some
returns-in-Some g c =
    c.is_some.ensures
    ∙ whole_fits blocks_of blocks_add c.args.limit c.args.levels.now c.runs.result.now c.deeper.result.now c.runs.ensures.same c.deeper.ensures.same c.without_runs.result c.without_runs.ensures c.in-Some.left c.without_runs-in-Some.result c.in-Some.is c.without_runs-in-Some.ensures

pub returns-in-None : goal.returns-in-None
returns-in-None g c =
    whole_too_much blocks_of blocks_add c.args.limit c.args.levels.now c.runs.result.now c.args.levels.now.deeper c.runs.ensures.same refl c.without_runs.result c.without_runs.ensures c.in-None.is
