use Rattle.std.proofs.Common.{arith}
use Rattle.lsm_codec.proofs.Lists.{cut_at}
use Rattle.lsm_levels.specs.Tables.{is_below}
use Rattle.lsm_levels.proofs.KeyOrder.{at_most_turned}
use Rattle.lsm_levels.proofs.Parts.{left, partitioned}
use Rattle.lsm_levels.proofs.Searching.{falls_before}
use Rattle.lsm_levels.proofs.slices.is_place.Goals as goal

pub returns-clause-left : goal.returns-clause-left
returns-clause-left g c = λ yes.
    left (λ t. is_below t.last c.args.key.now) _ (λ t. at_most_turned t.last c.args.key.now) _ _
    (cut_at (λ t. is_below t.last c.args.key.now) c.args.run.now c.args.place (partitioned _ _ (falls_before c.args.key.now c.args.run.now c.requires)) (omega (arith, c.if-place-run.false)) (c.is_passed.ensures c.if-not-is_passed.false) (c.is_left.ensures yes))
