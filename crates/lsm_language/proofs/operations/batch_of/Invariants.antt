use Rattle.std.proofs.Common.{◌≡◌, ◌∷◌, ◌++◌, drop, map}
use Rattle.lsm_language.specs.Changes.{batch_refusal, changes_refusal, operation_of}
use Rattle.lsm_language.proofs.operations.batch_of.Given as goal

abbrev pub invariant-loop-change : goal.invariant-loop-change
invariant-loop-change l = (changes_refusal l.batch (map operation_of (drop l.change-index l.rest)) ≡ batch_refusal (map operation_of (l.first ∷ l.rest)))
    × (l.batch ++ map operation_of (drop l.change-index l.rest) ≡ map operation_of (l.first ∷ l.rest))
