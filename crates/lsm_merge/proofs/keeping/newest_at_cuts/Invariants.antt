use Rattle.std.proofs.Common.{◌≡◌, take, filter}
use Rattle.lsm_merge.specs.Keeping.{is_newest_at_a_cut}
use Rattle.lsm_merge.specs.Loops.{shown}
use Rattle.lsm_merge.proofs.keeping.newest_at_cuts.Given as goal

abbrev pub invariant-loop-i : goal.invariant-loop-i
invariant-loop-i g l = shown l.kept.items ≡ filter (is_newest_at_a_cut l.cuts (shown l.versions)) (take l.i (shown l.versions))
