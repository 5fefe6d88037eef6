use Rattle.std.proofs.Common.{◌≡◌, [], vec_len}
use Rattle.std.specs.Prelude.{reverse}
use Rattle.lsm_merge.specs.Loops.{shown}
use Rattle.lsm_merge.proofs.SettledLaws.{all_settled_onto}
use Rattle.lsm_merge.proofs.keeping.settled.Given as goal

abbrev pub invariant-loop-entry : goal.invariant-loop-entry
invariant-loop-entry g l = all_settled_onto (shown l.versions.items) (reverse (shown l.kept.items)) ≡ all_settled_onto (shown l.initial.versions.items) []

abbrev pub decreases-loop-entry : goal.decreases-loop-entry
decreases-loop-entry g l = vec_len l.versions
