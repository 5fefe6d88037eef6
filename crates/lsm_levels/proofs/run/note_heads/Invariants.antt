use Rattle.std.proofs.Common.{◌≡◌}
use Rattle.lsm_levels.proofs.run.note_heads.Given as goal

abbrev pub invariant-loop-i : goal.invariant-loop-i
invariant-loop-i g l = l.tables.items ≡ l.initial.tables.items
