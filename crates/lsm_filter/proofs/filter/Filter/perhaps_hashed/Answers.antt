use Rattle.std.proofs.Common.{◌∙◌, ap, List, ℕ}
use Rattle.lsm_filter.specs.Bits.{has_bits}
use Rattle.lsm_filter.proofs.filter.Filter.perhaps_hashed.Goals as goal

pub returns : goal.returns
returns g c = c.has_bits_of.ensures ∙ ap (λ (bytes : List ℕ). has_bits bytes c.args.hash) (c.deref.ensures.value ∙ c.self.view_is)
