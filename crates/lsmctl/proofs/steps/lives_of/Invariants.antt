use Rattle.std.proofs.Common.{◌≡◌, [], map, None}
use Rattle.std.specs.Vec.Iter.{into_iter_items}
use Rattle.lsmctl.specs.Steps.{ended, life_of, lives_after, opened, told_lives_after}
use Rattle.lsmctl.proofs.steps.lives_of.Given as goal

abbrev pub invariant-loop-line : goal.invariant-loop-line
invariant-loop-line l = (lives_after (map life_of l.lives.lives.items) l.begun.fuse l.begun.steps.steps.items (into_iter_items l.line-iterator)
    ≡ lives_after [] None [] (ended l.fn.lines.items))
    × (told_lives_after (map (λ told. told.items) l.lives.told.items) l.begun.steps.told.items (into_iter_items l.line-iterator)
    ≡ told_lives_after [] opened (ended l.fn.lines.items))
