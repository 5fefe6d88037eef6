use Rattle.std.proofs.Common.{◌≡◌, ◌-◌, ◌≤◌, drop}
use Rattle.lsm_table.specs.BlockEdges.{are_rising}
use Rattle.lsm_table.proofs.edges.are_rising.Given as goal

abbrev pub invariant-loop-i : goal.invariant-loop-i
invariant-loop-i g l = record {
  low : 1 ≤ l.i;
  same : are_rising (drop (l.i - 1) l.edges) ≡ are_rising l.edges;
}
