use Rattle.std.proofs.Common.{arith}
use Rattle.corwaphi_lives.proofs.Places.{place_made}
use Rattle.corwaphi_lives.proofs.living.places.Goals as goal

pub loop-life-preserved : goal.loop-life-preserved
loop-life-preserved c = record {
  within = omega arith;
  have = place_made c.args.lives.now c.loop-life.places.items c.push.new.self.items c.loop-life.life-index c.life-item.result c.in_ok-with_capacity.field-0
      c.loop-life-test.true c.life-item.is c.in_ok-push.ensures.items c.in_ok-with_capacity.ensures.items
      (omega (arith, c.in_ok-with_capacity.ensures.exact, c.len-count.ensures)) c.loop-life.invariant.have;
}
