use Rattle.std.proofs.Common.{◌≡◌, ◌+◌, ap, take, arith, inl, inr}
use Rattle.std.proofs.lemmas.List.{length-take-le}
use Rattle.lsm_table.specs.declared.layout.Layout.{Layout}
use Rattle.lsm_table.specs.Division.{IsTooMuch}
use Rattle.lsm_table.proofs.Counts.{counted, counted_blocks, counts_more}
use Rattle.lsm_table.proofs.Ends.{ends_before, ends_at_end, kept_within, passed}
use Rattle.lsm_table.proofs.counting.table_len.Goals as goal
use Rattle.lsm_table.proofs.counting.table_len.Goals.{then-layout-gt-MAX_BLOCKS-via-then-layout-gt-MAX_BLOCKS, then-layout-gt-MAX_BLOCKS-via-else-layout-gt-MAX_BLOCKS+then-i-ge-MAX_ENTRIES}

pub key_start-begun-requires-clause-before : goal.key_start-begun-requires-clause-before
key_start-begun-requires-clause-before g c = c.loop-i.invariant.start

pub returns-then-layout-gt-MAX_BLOCKS : goal.returns-then-layout-gt-MAX_BLOCKS
returns-then-layout-gt-MAX_BLOCKS g c =
    let es = c.args.entries.now in
    let at = c.loop-i.invariant in
    let after : c.add.new.self ≡ counted (take (c.loop-i.i + 1) es) = counts_more es c.loop-i.i c.loop-i.layout c.add.new.self c.index-entries-i.result c.size.result c.loop-i-test.true at.layout c.index-entries-i.is c.size.ensures.size c.add.ensures.laid in
    let too_much : IsTooMuch (take (c.loop-i.i + 1) es) = elim c.then-layout-gt-MAX_BLOCKS.branch [
      | then-layout-gt-MAX_BLOCKS-via-then-layout-gt-MAX_BLOCKS w ↦ inl (omega (arith, counted_blocks (take (c.loop-i.i + 1) es), ap (λ (s : Layout). s.blocks) after, w.if-layout-gt-MAX_BLOCKS.true))
      | then-layout-gt-MAX_BLOCKS-via-else-layout-gt-MAX_BLOCKS+then-i-ge-MAX_ENTRIES w ↦ inr (omega (arith, length-take-le (c.loop-i.i + 1) es (omega (arith, c.loop-i-test.true)), w.if-i-ge-MAX_ENTRIES.true))
    ] in
    ends_before es c.key_start-begun.result c.loop-i.i c.requires.input c.loop-i-test.true c.key_start-begun.ensures (kept_within es c.loop-i.i c.loop-i.layout at.layout at.few_blocks at.few_entries) too_much

pub loop-i-preserved : goal.loop-i-preserved
loop-i-preserved g c =
    let es = c.args.entries.now in
    record {
      layout = counts_more es c.loop-i.i c.loop-i.layout c.add.new.self c.index-entries-i.result c.size.result c.loop-i-test.true c.loop-i.invariant.layout c.index-entries-i.is c.size.ensures.size c.add.ensures.laid;
      used = c.add.ensures.used;
      few_blocks = omega (arith, c.if-layout-gt-MAX_BLOCKS.false);
      few_entries = omega (arith, c.if-i-ge-MAX_ENTRIES.false);
      start = c.key_start-begun.ensures;
    }

pub returns : goal.returns
returns g c =
    let es = c.args.entries.now in
    let at = c.loop-i.invariant in
    ends_at_end es c.requires.some (passed es c.loop-i.i (omega (arith, c.loop-i-test.false, c.loop-i.auto)) (kept_within es c.loop-i.i c.loop-i.layout at.layout at.few_blocks at.few_entries))
