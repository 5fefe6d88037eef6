use Rattle.std.proofs.Common.{List, ◌++◌, ap, sym, ◌∙◌}
use Rattle.lsm_codec.specs.Indexes.{Edge}
use Rattle.lsm_table.specs.BlockEdges.{edge_of}
use Rattle.lsm_table.proofs.LastEdges.{edges_more, room_left}
use Rattle.lsm_table.proofs.edges.edges_of.Goals as goal

pub push_edge-requires : goal.push_edge-requires
push_edge-requires g c = room_left (λ b. b.items) c.args.blocks.now c.loop-block.block-index c.loop-block.index c.loop-block-test.true c.requires c.loop-block.invariant

pub loop-block-preserved : goal.loop-block-preserved
loop-block-preserved g c =
    c.in_ok-push_edge.ensures ∙ ap (λ es. c.loop-block.index ++ edge_of es) c.deref.ensures.value
    ∙ ap (λ (es : List Edge). es ++ edge_of c.block-item.result.items) c.loop-block.invariant
    ∙ sym (edges_more (λ b. b.items) c.args.blocks.now c.loop-block.block-index c.block-item.result c.loop-block-test.true c.block-item.is)
