use Rattle.std.proofs.Common.{ap, ◌∙◌, filter}
use Rattle.std.specs.Ordering.{is_le}
use Rattle.std.specs.FinMap as finite
use Rattle.lsm_codec.specs.Keys.{byte_order, Bytes}
use Rattle.lsm_mem.specs.Versions.{map_of}
use Rattle.lsm_mem.proofs.sealed.Sealed.range.Goals as goal

pub returns-clause-pairs : goal.returns-clause-pairs
returns-clause-pairs g c =
    c.in_ok-range.ensures.pairs
    ∙ ap (λ versions. filter {X = Bytes × Bytes} (λ pair. is_le (byte_order c.args.from.now pair.0)) (finite.entries (map_of versions c.args.at))) c.self.view_is
