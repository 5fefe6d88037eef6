use Rattle.std.proofs.Common.{arith}
use Rattle.lsm_codec.proofs.Lists.{cut_at}
use Rattle.lsm_table.specs.Places.{stands_before}
use Rattle.lsm_table.proofs.Searching.{parted}
use Rattle.lsm_table.proofs.edges.is_place.Goals as goal

pub returns : goal.returns
returns g c = λ yes.
    cut_at (stands_before c.args.key.now c.args.at) c.args.edges.now c.args.place (parted c.args.key.now c.args.at c.args.edges.now c.requires) (omega (arith, c.if-place-edges.false)) (c.is_passed.ensures c.if-not-is_passed.false) (c.is_left.ensures yes)
