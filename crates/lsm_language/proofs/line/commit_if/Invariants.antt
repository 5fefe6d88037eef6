use Rattle.std.proofs.Common.{◌≡◌, drop, map, []}
use Rattle.lsm_language.specs.Guards.{condition_of}
use Rattle.lsm_language.specs.Lines.{if_said}
use Rattle.lsm_language.proofs.line.commit_if.Given as goal

abbrev pub invariant-loop-place : goal.invariant-loop-place
invariant-loop-place l = if_said (map condition_of l.guards.items) (map (λ word. word.now) (drop l.place l.words))
    ≡ if_said [] (map (λ word. word.now) l.fn.words)
