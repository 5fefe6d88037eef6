use Rattle.std.proofs.Common.{◌≡◌, map, take}
use Rattle.lsm_table.specs.BlockEdges.{edges_of}
use Rattle.lsm_table.proofs.edges.edges_of.Given as goal

abbrev pub invariant-loop-block : goal.invariant-loop-block
invariant-loop-block g l = l.index ≡ edges_of (map (λ b. b.items) (take l.block-index l.blocks))
