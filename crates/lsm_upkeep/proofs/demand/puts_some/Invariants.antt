use Rattle.std.proofs.Common.{◌≡◌}
use Rattle.lsm_upkeep.specs.Writing.{has_puts}
use Rattle.lsm_upkeep.proofs.demand.puts_some.Given as goal

abbrev pub invariant-loop-operation : goal.invariant-loop-operation
invariant-loop-operation l = record {
  can : goal.iterator-loop-operation.can_next l.operation-iterator;
  finite : goal.iterator-loop-operation.is_finite l.operation-iterator;
  same : has_puts l.operation-iterator ≡ has_puts l.fn.operations;
}
