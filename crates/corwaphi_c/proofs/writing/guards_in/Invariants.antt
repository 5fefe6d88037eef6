use Rattle.std.proofs.Common.{◌≡◌, ◌++◌, map}
use Rattle.std.specs.List.{AllByRecursion}
use Rattle.lsm_codec.specs.BatchText.{IsOperation}
use Rattle.corwaphi_c.specs.Calls.{condition_of}
use Rattle.corwaphi_c.proofs.writing.guards_in.Given as goal

abbrev pub invariant-loop-operation : goal.invariant-loop-operation
invariant-loop-operation l = record {
  can : goal.iterator-loop-operation.can_next l.operation-iterator;
  finite : goal.iterator-loop-operation.is_finite l.operation-iterator;
  fit : AllByRecursion IsOperation l.operation-iterator;
  pushed : l.guards.items ++ map condition_of l.operation-iterator ≡ map condition_of l.batch;
}
