use Rattle.std.proofs.Common.{◌≡◌, ◌*◌, take}
use Rattle.lsm_merge.proofs.comparing.are_same_bytes.Given as goal

abbrev pub invariant-loop-i : goal.invariant-loop-i
invariant-loop-i l = take (8 * l.i) l.bytes ≡ take (8 * l.i) l.others
