use Rattle.std.proofs.Common.{◌≡◌, ◌++◌}
use Rattle.std.specs.List.{AllByRecursion}
use Rattle.lsm_codec.specs.Versions.{IsEntry}
use Rattle.lsm_mem.proofs.sealed.Sealed.entries.Given as goal

abbrev pub invariant-loop-version : goal.invariant-loop-version
invariant-loop-version g l = record {
  can : (goal.iterator-loop-version g).can_next l.version-iterator;
  finite : (goal.iterator-loop-version g).is_finite l.version-iterator;
  within : AllByRecursion IsEntry l.version-iterator;
  copied : (l.entries.items ++ l.gathered) ++ l.version-iterator ≡ l.self;
}
