use Rattle.std.proofs.Common.{◌∙◌, ap}
use Rattle.std.specs.Prelude.{reverse}
use Rattle.lsm_merge.specs.Parts.{is_above_first}
use Rattle.lsm_merge.proofs.BorderLaws.{border_added, border_again}
use Rattle.lsm_merge.proofs.cutting.add_border.Goals as goal

pub returns-then-not-is_above_last : goal.returns-then-not-is_above_last
returns-then-not-is_above_last g c =
    border_again c.args.key.now c.args.borders.now.items c.is_above_last.result (c.is_above_last.ensures ∙ ap (λ keys. is_above_first c.args.key.now (reverse keys)) c.deref.ensures.value) c.if-not-is_above_last.true

pub returns : goal.returns
returns g c =
    c.in_ok-push.ensures.items
    ∙ border_added c.args.key.now c.in_ok-from_slice.field-0 c.args.borders.now.items c.is_above_last.result (c.is_above_last.ensures ∙ ap (λ keys. is_above_first c.args.key.now (reverse keys)) c.deref.ensures.value) c.if-not-is_above_last.false c.in_ok-from_slice.ensures
