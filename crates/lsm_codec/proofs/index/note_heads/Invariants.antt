use Rattle.std.proofs.Common.{◌≡◌}
use Rattle.lsm_codec.proofs.index.note_heads.Given as goal

abbrev pub invariant-loop-i : goal.invariant-loop-i
invariant-loop-i g l = l.edges.items ≡ l.initial.edges.items
