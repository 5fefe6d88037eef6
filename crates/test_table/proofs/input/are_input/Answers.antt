use Rattle.std.proofs.Common.{◌≡◌, true, arith, rules}
use Rattle.std.specs.Ordering.{is_lt}
use Rattle.lsm_codec.specs.Keys.{byte_order}
use Rattle.test_table.proofs.RisingKeys.{rises_more, rising_input}
use Rattle.test_table.proofs.input.are_input.Goals as goal

pub loop-i-preserved : goal.loop-i-preserved
loop-i-preserved g c =
    let less : is_lt (byte_order c.key.result.now c.key-in-loop-i.result.now) ≡ true = search rules in
    record {
      low = omega arith;
      rise = rises_more c.args.entries.now c.loop-i.i c.index-entries-i.result c.index-entries-i-in-loop-i.result c.key.result.now c.key-in-loop-i.result.now c.loop-i.invariant.low c.loop-i-test.true c.index-entries-i.is c.index-entries-i-in-loop-i.is c.key.ensures.same c.key-in-loop-i.ensures.same less c.loop-i.invariant.rise;
    }

pub returns : goal.returns
returns g c = λ t. rising_input c.args.entries.now c.loop-i.i c.loop-i-test.false c.loop-i.invariant.rise
