use Rattle.std.proofs.Common.{arith, sym}
use Rattle.lsm_table.proofs.Searching.{found, not_found}
use Rattle.lsm_table.proofs.edges.place_in.Goals as goal

pub returns-then-block-edges-clause-place : goal.returns-then-block-edges-clause-place
returns-then-block-edges-clause-place g c =
    sym (found c.args.key.now c.args.at c.args.edges.now c.edges_before-block.result (omega (arith, c.if-block-edges.true)) c.edges_before-block.ensures)

pub returns-else-block-edges-clause-place : goal.returns-else-block-edges-clause-place
returns-else-block-edges-clause-place g c =
    sym (not_found c.args.key.now c.args.at c.args.edges.now c.edges_before-block.result (omega (arith, c.if-block-edges.false)) c.edges_before-block.ensures)
