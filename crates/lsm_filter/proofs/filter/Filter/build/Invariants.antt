use Rattle.std.proofs.Common.{◌≡◌, take, map}
use Rattle.std.specs.Prelude.{fold, replicate}
use Rattle.lsm_filter.specs.Bits.{with_key}
use Rattle.lsm_filter.proofs.filter.Filter.build.Given as goal

abbrev pub invariant-loop-key : goal.invariant-loop-key
invariant-loop-key g l = l.filter ≡ fold with_key (replicate 4096 0) (take l.key-index (map (λ key. key.now) l.keys))
