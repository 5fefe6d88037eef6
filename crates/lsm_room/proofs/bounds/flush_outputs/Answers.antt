use Rattle.std.proofs.Common.{ℕ, ◌+◌, ◌-◌, ◌*◌, ◌/◌, ◌≤◌, subst, arith}
use Rattle.lsm_room.specs.Measuring.{HoldImages}
use Rattle.lsm_room.proofs.Flushed.{flush_takes, nothing_flushed}
use Rattle.lsm_room.proofs.bounds.flush_outputs.Goals as goal

pub returns-then-memory-eq0-clause-takes : goal.returns-then-memory-eq0-clause-takes
returns-then-memory-eq0-clause-takes c = nothing_flushed c.args.live c.args.memory c.none.result (omega (arith, c.if-memory-eq0.true))

pub returns-clause-takes : goal.returns-clause-takes
returns-clause-takes c =
    flush_takes c.args.live c.args.memory c.packed-by_bytes.result c.filled-by_count.result c.outputs_with.result
    (record {
      by_bytes = λ low small. subst (λ (n : ℕ). (4094 * n) / (4095 - c.args.memory.largest) + 1 ≤ c.packed-by_bytes.result) c.div_ceil.ensures (c.packed-by_bytes.ensures.small low small);
      by_pairs = λ low large. omega (arith, c.packed-by_bytes.ensures.any low large, c.div_ceil.ensures);
      by_count = c.filled-by_count.ensures.small;
      by_each = c.filled-by_count.ensures.any;
      some = (c.packed-by_bytes.ensures.some, c.filled-by_count.ensures.some);
    })
    (subst (λ n. HoldImages c.args.live n c.args.memory.entries c.outputs_with.result) c.min.ensures c.outputs_with.ensures.hold)
