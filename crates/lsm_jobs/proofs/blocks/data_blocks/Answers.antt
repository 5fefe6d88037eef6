use Rattle.std.proofs.Common.{length, ap, ◌∙◌, arith}
use Rattle.lsm_table.specs.Outlines.{Outline}
use Rattle.lsm_jobs.proofs.Walked.{blocks_more}
use Rattle.lsm_jobs.proofs.blocks.data_blocks.Goals as goal

pub loop-table-preserved : goal.loop-table-preserved
loop-table-preserved g c =
    let more = c.data_blocks-blocks in
    record {
      count = blocks_more c.args.tables.now c.loop-table.table-index c.loop-table.blocks more.result c.table-item.result c.loop-table-test.true c.table-item.is c.loop-table.invariant.count (more.ensures.count ∙ ap (λ (o : Outline). length o.edges) c.table.ensures.same);
      few = omega (arith, c.loop-table.invariant.few, more.ensures.high);
    }
