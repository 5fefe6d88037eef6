use Rattle.std.proofs.Common.{arith}
use Rattle.lsm_upkeep.proofs.RoomLaws.{leave_more}
use Rattle.lsm_upkeep.proofs.allowing.Grant.of.Goals as goal

pub returns : goal.returns
returns g c =
    let memory = c.args.demand.now.memory in
    leave_more 100 _ _ memory.waiting memory.waiting memory.after c.with_more-most.result (record { entries = omega arith; bytes = omega arith; largest = omega arith }) c.with_more-most.ensures (c.is_met_up_to.ensures c.if-not-is_met_up_to.false)
