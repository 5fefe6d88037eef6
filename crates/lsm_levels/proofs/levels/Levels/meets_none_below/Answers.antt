use Rattle.std.proofs.Common.{option_map, ap, arith}
use Rattle.lsm_levels.specs.Hulls.{range_shown}
use Rattle.lsm_levels.proofs.BottomLaws.{none_met}
use Rattle.lsm_levels.proofs.levels.Levels.meets_none_below.Goals as goal

pub returns : goal.returns
returns g c = none_met c.args.self.now c.args.level (range_shown c.in-Some.range) (option_map range_shown c.args.inputs) c.is_met.result c.deeper.result.now (ap (option_map range_shown) c.in-Some.is) c.deeper.ensures.same c.deeper.ensures.four (omega (arith, c.if-level-ge3.false)) c.is_met.ensures
