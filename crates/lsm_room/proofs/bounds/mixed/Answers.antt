use Rattle.std.proofs.Common.{◌≡◌, ℕ, ◌+◌, ◌-◌, ◌*◌, ◌/◌, ◌≤◌, ap, subst, ◌∙◌, arith}
use Prim.Native.Nat.{min, max}
use Rattle.lsm_room.specs.Measuring.{HoldImages}
use Rattle.lsm_room.proofs.Enough.{mixed_enough}
use Rattle.lsm_room.proofs.bounds.mixed.Goals as goal

pub returns : goal.returns
returns c =
    let largest : ℕ = max c.args.upper.largest c.args.lower.largest in
    let blocks_are : c.min-2.result ≡ min (min c.saturating_add-by_entries.result c.packed-by_bytes.result) c.filled-by_count.result = c.min-2.ensures ∙ ap (λ n. min n c.filled-by_count.result) c.min.ensures in
    mixed_enough c.args.live c.args.drops c.args.upper c.args.lower c.kept-kept.result c.saturating_add-by_entries.result c.packed-by_bytes.result c.filled-by_count.result
    (record {
      put = c.kept-kept.ensures;
      by_entries = λ low. omega (arith, low, c.max.ensures, c.saturating_add.ensures, c.saturating_add-by_entries.ensures);
      by_bytes = λ low small exact.
          let sum_is : c.saturating_add-2.result ≡ c.args.upper.«data» + c.args.lower.«data» = omega (arith, c.saturating_add-2.ensures, exact) in
          subst (λ n. (4094 * n) / (4095 - largest) + 1 ≤ c.packed-by_bytes.result) sum_is
          (subst (λ n. (4094 * c.saturating_add-2.result) / (4095 - n) + 1 ≤ c.packed-by_bytes.result) c.max-largest.ensures
          (c.packed-by_bytes.ensures.small low (omega (arith, small, c.max-largest.ensures))));
      by_pairs = λ low large exact. omega (arith, c.packed-by_bytes.ensures.any low (omega (arith, large, c.max-largest.ensures)), c.saturating_add-2.ensures, exact);
      by_count = λ low some small exact.
          let sum_is : c.saturating_add-3.result ≡ c.kept-kept.result + c.args.lower.entries = omega (arith, c.saturating_add-3.ensures, exact) in
          subst (λ n. n / (4094 / largest) + 1 ≤ c.filled-by_count.result) sum_is
          (subst (λ n. c.saturating_add-3.result / (4094 / n) + 1 ≤ c.filled-by_count.result) c.max-largest.ensures
          (c.filled-by_count.ensures.small low (omega (arith, some, c.max-largest.ensures)) (omega (arith, small, c.max-largest.ensures))));
      by_each = λ low large exact. omega (arith, c.filled-by_count.ensures.any low (omega (arith, large, c.max-largest.ensures)), c.saturating_add-3.ensures, exact);
      some = (omega (arith, c.max.ensures, c.saturating_add.ensures, c.saturating_add-by_entries.ensures), c.packed-by_bytes.ensures.some, c.filled-by_count.ensures.some);
    })
    c.outputs_with.result c.saturating_add-4.result c.saturating_add-4.ensures
    (subst (λ n. HoldImages c.args.live n c.saturating_add-4.result c.outputs_with.result) blocks_are c.outputs_with.ensures.hold)
