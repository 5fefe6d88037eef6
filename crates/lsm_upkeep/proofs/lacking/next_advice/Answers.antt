use Rattle.lsm_upkeep.proofs.Lacks.{advised}
use Rattle.lsm_upkeep.proofs.lacking.next_advice.Goals as goal

pub returns-then-is_waiting : goal.returns-then-is_waiting
returns-then-is_waiting g c =
    advised c.args.store.now _ _ _ _ c.in_ok-step_down.field-0 c.standing.ensures.levels c.standing.ensures.extents c.standing.ensures.held c.standing.ensures.live c.in_ok-step_down.ensures.may c.in_ok-step_down.ensures.room

pub returns : goal.returns
returns g c =
    advised c.args.store.now _ _ _ _ c.in_ok-step_down_to.field-0 c.standing-2.ensures.levels c.standing-2.ensures.extents c.standing-2.ensures.held c.standing-2.ensures.live c.in_ok-step_down_to.ensures.may
    c.in_ok-step_down_to.ensures.room
