use Rattle.std.proofs.Common.{◌≡◌, []}
use Rattle.std.specs.Vec.Iter.{into_iter_items}
use Rattle.lsmctl.specs.Steps.{steps_after, told_after}
use Rattle.lsmctl.proofs.steps.steps_of.Given as goal

abbrev pub invariant-loop-line : goal.invariant-loop-line
invariant-loop-line l = (steps_after l.steps.steps.items (into_iter_items l.line-iterator) ≡ steps_after [] l.fn.lines.items)
    × (told_after l.steps.told.items (into_iter_items l.line-iterator) ≡ told_after [] l.fn.lines.items)
