use Rattle.std.proofs.Common.{◌≡◌, ◌==◌, drop}
use Rattle.std.specs.List.{find}
use Rattle.lsm_levels.proofs.choosing.table_of.Given as goal

abbrev pub invariant-loop-table : goal.invariant-loop-table
invariant-loop-table g l = find (λ t. t.number == l.number) (drop l.table-index l.tables) ≡ find (λ t. t.number == l.number) l.tables
