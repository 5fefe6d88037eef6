use Rattle.std.proofs.Common.{◌≡◌, ◌++◌, ℕ, List, map, take}
use Rattle.lsm_machine.specs.Work.{each_once}
use Rattle.lsm_store.specs.declared.snapshots.Mark.{Mark}
use Rattle.lsm_store.proofs.counted.add_counts.Given as goal

abbrev pub invariant-loop-mark : goal.invariant-loop-mark
invariant-loop-mark g l = (before : List ℕ) → l.fn.cuts.items ≡ each_once before → l.cuts.items ≡ each_once (before ++ map (λ (mark : Mark). mark.count) (take l.mark-index l.marks))
