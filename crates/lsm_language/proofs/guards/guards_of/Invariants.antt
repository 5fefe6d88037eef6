use Rattle.std.proofs.Common.{◌≡◌, ◌++◌, drop, map}
use Rattle.lsm_language.specs.Guards.{condition_of, guards_refusal}
use Rattle.lsm_language.proofs.guards.guards_of.Given as goal

abbrev pub invariant-loop-keyed : goal.invariant-loop-keyed
invariant-loop-keyed l = (guards_refusal (map condition_of (drop l.keyed-index l.wanted)) ≡ guards_refusal (map condition_of l.wanted))
    × (l.guards.items ++ map condition_of (drop l.keyed-index l.wanted) ≡ map condition_of l.wanted)
