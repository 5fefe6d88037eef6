use Rattle.std.proofs.Common.{◌≡◌, ℕ, ◌<◌, ◌≤◌, [], length}
use Rattle.lsm_trail.specs.History.{entries_by}
use Rattle.lsm_shared.specs.Clients.{AgreesWith}
use Rattle.lsm_shared.proofs.shared.Shared.end.Given as goal

abbrev pub invariant-loop-client : goal.invariant-loop-client
invariant-loop-client g l =
    (l.session ≡ l.initial.session)
    × (AgreesWith l.session.log l.left.items → AgreesWith l.session.log l.fn.clients.items)
    × (length l.left.items < length l.fn.clients.items → (x : ℕ) → g.B.SessionName.id.begin.clients ≤ x → entries_by x l.session.log ≡ [])

abbrev pub decreases-loop-client : goal.decreases-loop-client
decreases-loop-client g l = goal.left-loop-client g l
