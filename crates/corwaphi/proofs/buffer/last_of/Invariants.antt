use Rattle.std.proofs.Common.{◌≡◌, None, option_map}
use Rattle.lsm_codec.specs.References.{shown_operation}
use Rattle.corwaphi.specs.Buffering.{later_on}
use Rattle.corwaphi.proofs.buffer.last_of.Given as goal

abbrev pub invariant-loop-operation : goal.invariant-loop-operation
invariant-loop-operation l = record {
  can : goal.iterator-loop-operation.can_next l.operation-iterator;
  finite : goal.iterator-loop-operation.is_finite l.operation-iterator;
  same : later_on l.key (option_map shown_operation l.found) l.operation-iterator ≡ later_on l.key None l.fn.operations;
}
