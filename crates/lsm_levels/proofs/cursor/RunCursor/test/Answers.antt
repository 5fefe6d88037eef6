use Rattle.std.proofs.Common.{rules, ◌≡◌, Some, drop, sym, ap, ◌∙◌}
use Rattle.lsm_table.specs.Items.{items_at}
use Rattle.lsm_levels.specs.Cursors.{Cursor, first_refusal}
use Rattle.lsm_levels.proofs.CursorLaws.{bad_first}
use Rattle.lsm_levels.proofs.LookingUp.{bad_from}
use Rattle.lsm_levels.proofs.cursor.RunCursor.test.Goals as goal

pub returns-in-Some-Err-clause-bad : goal.returns-in-Some-Err-clause-bad
returns-in-Some-Err-clause-bad g c =
    let first : Some c.in-Some-Err.refusal ≡ first_refusal c.args.self.now.items = search rules in
    let place = c.self.inside.place in
    let bytes = c.self.inside.bytes.value in
    bad_first (items_at place bytes) c.in-Some-Err.refusal (bad_from place.left (drop place.offset bytes)) (first ∙ ap (λ (d : Cursor). first_refusal d.items) (sym c.self.view_is))
