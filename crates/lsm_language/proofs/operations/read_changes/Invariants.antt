use Rattle.std.proofs.Common.{◌≡◌, drop, map, []}
use Rattle.lsm_language.specs.Words.{read_all}
use Rattle.lsm_language.specs.Changes.{change_said, operation_of}
use Rattle.lsm_language.proofs.operations.read_changes.Given as goal

abbrev pub invariant-loop-word : goal.invariant-loop-word
invariant-loop-word l = read_all change_said (map operation_of l.changes.items) (map (λ word. word.now) (drop l.word-index l.words))
    ≡ read_all change_said [] (map (λ word. word.now) l.words)
