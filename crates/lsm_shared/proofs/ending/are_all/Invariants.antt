use Rattle.std.proofs.Common.{◌≡◌, ℕ, ◌<◌, true}
use Rattle.lsm_shared.specs.Clients.{has_client}
use Rattle.lsm_shared.proofs.ending.are_all.Given as goal

abbrev pub invariant-loop-number : goal.invariant-loop-number
invariant-loop-number g l = (k : ℕ) → k < l.number → has_client k l.clients ≡ true
