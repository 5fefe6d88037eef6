use Rattle.std.proofs.Common.{◌∙◌, ap}
use Rattle.lsm_filter.specs.Bits.{has_bits, is_perhaps}
use Rattle.lsm_filter.proofs.filter.Filter.perhaps.Goals as goal

pub returns : goal.returns
unfolding is_perhaps
returns g c = c.perhaps_hashed.ensures ∙ ap (has_bits c.args.self.now) c.of.ensures
