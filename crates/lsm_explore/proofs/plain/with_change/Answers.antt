use Rattle.std.proofs.Common.{◌++◌, ◌∙◌, ap, List}
use Rattle.std.proofs.lemmas.List.{take_rest}
use Rattle.lsm_codec.specs.References.{shown_operation}
use Rattle.lsm_mem.specs.declared.rows.RowRef.{RowRef}
use Rattle.lsm_explore.specs.Plain.{rows_of, row_of}
use Rattle.lsm_explore.proofs.PlainRows.{parts_with_row}
use Rattle.lsm_explore.proofs.plain.with_change.Goals as goal

pub returns : goal.returns
returns g c =
    let operation = shown_operation c.args.operation in
    parts_with_row c.args.rows.now operation.key c.place_of-place.result c.end_of-end.result c.place_of-place.ensures.place c.end_of-end.ensures.end
    c.add_row.new.rows.items c.extend_from_slice.new.self.items operation.value
    (c.in_ok-add_row.ensures ∙ ap (λ (l : List RowRef). rows_of l ++ row_of operation.key operation.value) c.in_ok-after.ensures.items)
    (c.in_ok-extend_from_slice.ensures.items ∙ ap (λ (l : List RowRef). c.add_row.new.rows.items ++ l) (take_rest c.args.rows.now c.end_of-end.result))
