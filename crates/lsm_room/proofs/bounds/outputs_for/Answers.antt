use Rattle.std.proofs.Common.{◌≤◌, refl, arith}
use Rattle.lsm_room.specs.Measuring.{most_images}
use Rattle.lsm_room.proofs.Enough.{enough_for, enough_for_one, few_count, few_for_one}
use Rattle.lsm_room.proofs.bounds.outputs_for.Goals as goal

pub returns-then-outputs-gt1-clause-enough : goal.returns-then-outputs-gt1-clause-enough
returns-then-outputs-gt1-clause-enough c = enough_for c.args.live c.args.«data» c.args.entries c.outputs_with-outputs.result c.outputs_with-outputs.ensures.hold

pub returns-then-outputs-gt1-clause-few : goal.returns-then-outputs-gt1-clause-few
returns-then-outputs-gt1-clause-few c = λ low. few_count c.args.live c.args.«data» c.args.entries c.outputs_with-outputs.result c.outputs_with-outputs.ensures.hold low

pub returns-clause-enough : goal.returns-clause-enough
returns-clause-enough c =
    let one : most_images c.args.live c.args.«data» c.args.entries ≤ 1 = omega (arith, c.if-outputs-gt1.false, c.outputs_with-outputs.ensures.number (omega (arith, c.if-outputs-gt1.false))) in
    enough_for_one c.args.live c.args.«data» c.args.entries (record { blocks = c.saturating_sub-blocks.result; largest = c.saturating_sub-blocks.result; tables = 1 }) one (λ low. omega (arith, c.saturating_sub-blocks.ensures, low, c.min.ensures, c.blocks_with.ensures.least (omega (arith, c.saturating_sub-blocks.ensures, low)))) refl

pub returns-clause-few : goal.returns-clause-few
returns-clause-few c = λ low. few_for_one c.args.live c.args.«data» c.args.entries (omega (arith, c.if-outputs-gt1.false, c.outputs_with-outputs.ensures.number (omega (arith, c.if-outputs-gt1.false))))
