use Rattle.std.proofs.Common.{◌++◌, ◌-◌, length, arith}
use Rattle.lsm_machine.proofs.WithinInputs.{told_by_ends}
use Rattle.lsm_store.proofs.fitting.are_within.Goals as goal

pub returns-in-len1 : goal.returns-in-len1
returns-in-len1 g c =
    told_by_ends (c.args.upper.now ++ c.args.lower.now) c.args.outputs.now c.table-item.result c.table-item.result 0 c.first.result.now c.last.result.now c.spans.result c.requires
    (omega (arith, c.in-len1.len_at_least, c.in-len1.len_below)) c.table-item.is c.table-item.is c.first.ensures c.last.ensures c.spans.ensures

pub returns-in-len2-up : goal.returns-in-len2-up
returns-in-len2-up g c =
    told_by_ends (c.args.upper.now ++ c.args.lower.now) c.args.outputs.now c.least-item.result c.greatest-item.result (length c.args.outputs.now - 1) c.first-in-len2-up.result.now c.last-in-len2-up.result.now c.spans-in-len2-up.result c.requires
    (omega (arith, c.in-len2-up.len_at_least)) c.least-item.is c.greatest-item.is c.first-in-len2-up.ensures c.last-in-len2-up.ensures c.spans-in-len2-up.ensures
