-- The commits of each client.
use Rattle.std.proofs.Common.{◌≡◌, ◌≤◌, ◌+◌, ◌*◌, ℕ, zero, suc, true, arith}
use Rattle.std.proofs.Math.Nat.{mul-le-mul_right}
use Rattle.std.proofs.lemmas.Bool.Decides.{nat_tests}
use Rattle.lsm_language.specs.Limits.{is_load}

-- are no more than those of all clients
few : (clients commits : ℕ) → 1 ≤ clients * commits → clients * commits ≤ 2048 → commits ≤ 2048
few zero commits some within = absurd (omega (arith, some))
few (suc n) commits some within = omega (arith, within, mul-le-mul_right {m = 1} {n = suc n} commits (omega arith))

pub few_commits : (clients commits workers : ℕ) → is_load clients commits workers ≡ true → commits ≤ 2048
few_commits clients commits workers is = few clients commits (grind (arith, nat_tests)) (grind (arith, nat_tests))

-- There is one client at least, and clients and workers are few enough.
some_clients : (clients commits : ℕ) → 1 ≤ clients * commits → 1 ≤ clients
some_clients zero commits some = absurd (omega (arith, some))
some_clients (suc n) commits some = omega arith

pub some_threads : (clients commits workers : ℕ) → is_load clients commits workers ≡ true → (1 ≤ clients) × (clients + workers ≤ 64)
some_threads clients commits workers is = (some_clients clients commits (grind (arith, nat_tests)), grind (arith, nat_tests))
