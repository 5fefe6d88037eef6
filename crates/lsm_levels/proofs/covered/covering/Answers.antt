use Rattle.std.proofs.Common.{◌≡◌, filter, slice_get, Some, None, sym, ap, ◌∙◌}
use Rattle.std.specs.Option.{option_copied}
use Rattle.lsm_levels.specs.Tables.{at_most}
use Rattle.lsm_levels.proofs.CoveringLaws.{covered, uncovered, all_early}
use Rattle.lsm_levels.proofs.covered.covering.Goals as goal

pub returns-in_err-table : goal.returns-in_err-table
returns-in_err-table g c =
    let none : slice_get (filter (λ t. at_most c.args.key.now t.last) c.args.run.now) 0 ≡ None = rw (← c.ending_from.ensures.left) (sym c.in_err-table.ensures.value) in
    ap option_copied c.from_residual.ensures ∙ sym (all_early c.args.key.now c.args.run.now none)

pub returns-then-begins_by : goal.returns-then-begins_by
returns-then-begins_by g c =
    let found : slice_get (filter (λ t. at_most c.args.key.now t.last) c.args.run.now) 0 ≡ Some c.in_ok-table.table.now = rw (← c.ending_from.ensures.left) (sym c.in_ok-table.ensures.value) in
    sym (covered c.args.key.now c.args.run.now c.in_ok-table.table.now found (sym c.begins_by.ensures ∙ c.if-begins_by.true))

pub returns-else-begins_by : goal.returns-else-begins_by
returns-else-begins_by g c =
    let found : slice_get (filter (λ t. at_most c.args.key.now t.last) c.args.run.now) 0 ≡ Some c.in_ok-table.table.now = rw (← c.ending_from.ensures.left) (sym c.in_ok-table.ensures.value) in
    sym (uncovered c.args.key.now c.args.run.now c.in_ok-table.table.now c.ending_from.ensures.run found (sym c.begins_by.ensures ∙ c.if-begins_by.false))
