use Rattle.std.proofs.Common.{[], List, slice_get, ap, ◌∙◌}
use Rattle.lsm_codec.specs.Keys.{Bytes}
use Rattle.lsm_mem.specs.declared.rows.RowRef.{RowRef}
use Rattle.lsm_explore.proofs.ListedRows.{row_more}
use Rattle.lsm_explore.proofs.judging.has_rows.Goals as goal

pub loop-i-preserved : goal.loop-i-preserved
loop-i-preserved g c =
    let none : RowRef = record { key = record { ref_ptr = (0, 0); now = [] }; value = record { ref_ptr = (0, 0); now = [] } } in
    row_more c.args.rows.now c.args.page.now.rows c.loop-i.i none c.in-Some.other c.loop-i-test.true c.loop-i.invariant (c.is_same.ensures.0 c.if-is_same.true)
    (c.in-Some.ensures ∙ ap (λ (l : List (Bytes × Bytes)). slice_get l c.loop-i.i) c.rows-in-loop-i.ensures)
