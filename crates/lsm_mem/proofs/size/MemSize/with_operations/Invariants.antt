use Rattle.std.specs.Prelude.{ℕ, List}
use Rattle.lsm_codec.specs.Versions.{Version}
use Rattle.lsm_mem.specs.Sizes.{Covers, GrowsBy}
use Rattle.lsm_mem.specs.declared.size.MemSize.{MemSize}
use Rattle.lsm_mem.proofs.Sizes.{CoversSoFar}
use Rattle.lsm_mem.proofs.size.MemSize.with_operations.Given as goal

abbrev pub invariant-loop-operation : goal.invariant-loop-operation
invariant-loop-operation l = record {
  can : goal.iterator-loop-operation.can_next l.operation-iterator;
  finite : goal.iterator-loop-operation.is_finite l.operation-iterator;
  grows : (last : MemSize) → GrowsBy l.operation-iterator l.size last → GrowsBy l.fn.operations l.fn.self last;
  covers : (number : ℕ) (versions : List Version) → Covers versions l.fn.self → CoversSoFar number l.fn.operations versions l.operation-iterator l.size;
}
