use Rattle.std.proofs.Common.{arith, length, ap, sym, ◌∙◌}
use Rattle.std.proofs.lemmas.Bool.{eqb-false}
use Rattle.lsm_table.proofs.LastEdges.{edge_pushed}
use Rattle.lsm_table.proofs.edges.push_edge.Goals as goal

pub returns : goal.returns
returns g c =
    edge_pushed c.args.block.now c.index-block-block.result c.in_ok-new.field-0 c.key.result.now c.args.index.now c.push.new.self (omega (arith, eqb-false (length c.args.block.now) 0 (sym c.is_empty.ensures ∙ c.if-is_empty.false))) c.index-block-block.is c.key.ensures.same
    (c.in_ok-new.ensures ∙ ap (λ n. record { key = c.key.result.now; number = n }) c.number.ensures) c.in_ok-push.ensures.added
