use Rattle.std.proofs.Common.{ℕ, Bool, subst}
use Rattle.lsm_room.specs.Flushes.{FlushesLeave}
use Rattle.lsm_upkeep.proofs.RoomLaws.{leave_more}
use Rattle.lsm_upkeep.proofs.allowing.Grant.covers.Goals as goal

pub returns-then-is_same : goal.returns-then-is_same
returns-then-is_same c = λ is.
    let grant = c.self.inside in
    let memory = c.args.demand.now.memory in
    let same = c.is_same.ensures c.if-is_same.true in
    let within = c.is_within.ensures is in
    let free : FlushesLeave 100 c.args.basis.free_blocks grant.basis.live grant.waiting grant.most = subst (λ (n : ℕ). FlushesLeave 100 n grant.basis.live grant.waiting grant.most) same.0 c.self.invariant in
    leave_more 100 c.args.basis.free_blocks c.args.basis.live memory.waiting grant.waiting memory.after grant.most within.1 within.0
    (subst (λ (b : Bool). FlushesLeave 100 c.args.basis.free_blocks b grant.waiting grant.most) same.1 free)
