-- The blocks that rows fill.
use Rattle.std.proofs.Common.{◌≡◌, ◌+◌, ◌*◌, ◌/◌, ◌%◌, ◌<◌, ◌≤◌, ℕ, arith}
use Rattle.std.proofs.lemmas.Nat.{div-add-mod', le-div, mod_below, mul-le, mul-add-lt}

-- rows of `entry` bytes fit into as many blocks as there are when each has all that it has room for
pub room : (rows entry : ℕ) → 12 ≤ entry → entry ≤ 2315 → rows * entry ≤ 4094 * (rows / (4094 / entry) + 1)
room rows entry some small = by (4094 / entry) (div-add-mod' 4094 entry) (le-div 1 4094 entry (omega (arith, some)) (omega (arith, small)))
  where
    turned : (blocks each : ℕ) → rows * entry ≤ each * blocks * entry → blocks * (each * entry) ≤ blocks * 4094 → rows * entry ≤ 4094 * blocks
    turned blocks each those all = omega (arith, those, all)

    by : (each : ℕ) → each * entry + 4094 % entry ≡ 4094 → 1 ≤ each → rows * entry ≤ 4094 * (rows / each + 1)
    by each packed one =
        let whole : rows / each * each + rows % each ≡ rows = div-add-mod' rows each in
        let below : rows % each < each = mod_below rows each (omega (arith, one)) in
        let fits : rows / each * each + rows % each < each * (rows / each + 1) = mul-add-lt (rows / each) each (rows % each) (rows / each + 1) (omega arith) below in
        let those : rows * entry ≤ each * (rows / each + 1) * entry = mul-le rows entry (each * (rows / each + 1)) entry (omega (arith, whole, fits)) (omega arith) in
        let all : (rows / each + 1) * (each * entry) ≤ (rows / each + 1) * 4094 = mul-le (rows / each + 1) (each * entry) (rows / each + 1) 4094 (omega arith) (omega (arith, packed)) in
        turned (rows / each + 1) each those all
