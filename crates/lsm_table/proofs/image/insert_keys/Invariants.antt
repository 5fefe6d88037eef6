use Rattle.std.proofs.Common.{◌≡◌, map, take}
use Rattle.std.specs.List.{fold}
use Rattle.lsm_filter.specs.Bits.{with_key}
use Rattle.lsm_table.proofs.image.insert_keys.Given as goal

abbrev pub invariant-loop-entry : goal.invariant-loop-entry
invariant-loop-entry g l = l.filter ≡ fold with_key l.fn.filter (map (λ v. v.key) (take l.entry-index l.block))
