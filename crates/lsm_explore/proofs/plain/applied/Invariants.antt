use Rattle.std.proofs.Common.{◌≡◌}
use Rattle.lsm_codec.specs.Map.{Map, apply}
use Rattle.lsm_explore.specs.Plain.{AreRows}
use Rattle.lsm_explore.proofs.plain.applied.Given as goal

-- the rows are those of a map, from which the operations that are left lead to the map at the end
abbrev pub invariant-loop-operation : goal.invariant-loop-operation
invariant-loop-operation g l = record {
  can : (goal.iterator-loop-operation g).can_next l.operation-iterator;
  finite : (goal.iterator-loop-operation g).is_finite l.operation-iterator;
  leads : (m : Map) → AreRows l.rows m → (now : Map) × AreRows l.after.items now × (apply now l.operation-iterator ≡ apply m l.fn.operations);
}
