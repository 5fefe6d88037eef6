use Rattle.std.proofs.Common.{◌≡◌, ◌≤◌, []}
use Rattle.std.specs.Vec.{vec_capacity, vec_len}
use Rattle.lsm_trail.specs.Knowledge.{keeper_of, IsKeeperPass}
use Rattle.lsm_shared.specs.Clients.{newcomers}
use Rattle.lsm_shared.proofs.shared.deal_all.Given as goal

abbrev pub invariant-loop-number : goal.invariant-loop-number
invariant-loop-number g l =
    IsKeeperPass g.B.SessionName.id [] l.keeper
    × ((keeper_of l.keeper).dealt ≡ l.number)
    × (l.clients.items ≡ newcomers g.B.SessionName.id.begin l.number)
    × (vec_len l.clients ≡ l.number)
    × (l.count ≤ vec_capacity l.clients)
