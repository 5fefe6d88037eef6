use Rattle.std.proofs.Common.{rules, ◌≡◌, ◌++◌, ◌∷◌, [], List, length, refl, ◌∙◌, ap}
use Rattle.lsm_codec.specs.Keys.{Bytes}
use Rattle.lsm_codec.proofs.Lists.{on_err}
use Rattle.lsm_mem.proofs.RowLaws.{rows_with_key, rows_stay, stay_within, one_more, one_more_within}
use Rattle.lsm_mem.proofs.rows.RowTexts.push.Goals as goal

pub returns-in_err-extend_from_slice-2-clause-err : goal.returns-in_err-extend_from_slice-2-clause-err
returns-in_err-extend_from_slice-2-clause-err g c =
    let rows = c.self.inside in
    on_err _ (rows_with_key rows.text.items c.args.key.now [] rows.places.items c.self.invariant _ (c.in_err-extend_from_slice-2.ensures.items ∙ c.in_ok-extend_from_slice.ensures.items) ∙ c.self.view_is)

pub invariant_of-self-in_err-push : goal.invariant_of-self-in_err-push
invariant_of-self-in_err-push g c =
    let rows = c.self.inside in
    stay_within rows.text.items c.args.key.now c.args.value.now rows.places.items c.self.invariant _ _ c.in_ok-extend_from_slice.ensures.items c.in_ok-extend_from_slice-2.ensures.items _ c.in_err-push.ensures.items

pub returns-in_err-push-clause-err : goal.returns-in_err-push-clause-err
returns-in_err-push-clause-err g c =
    let rows = c.self.inside in
    on_err _ (rows_stay rows.text.items c.args.key.now c.args.value.now rows.places.items c.self.invariant _ _ c.in_ok-extend_from_slice.ensures.items c.in_ok-extend_from_slice-2.ensures.items _ c.in_err-push.ensures.items ∙ c.self.view_is)

pub invariant_of-self-2 : goal.invariant_of-self-2
invariant_of-self-2 g c =
    let rows = c.self.inside in
    let at : c.len.result ≡ length rows.text.items = search rules in
    one_more_within rows.text.items c.args.key.now c.args.value.now rows.places.items c.self.invariant _ _ c.in_ok-extend_from_slice.ensures.items c.in_ok-extend_from_slice-2.ensures.items _ at refl refl _ c.in_ok-push.ensures.items

pub returns-clause-ok : goal.returns-clause-ok
returns-clause-ok g c =
    let rows = c.self.inside in
    let at : c.len.result ≡ length rows.text.items = search rules in
    one_more rows.text.items c.args.key.now c.args.value.now rows.places.items c.self.invariant _ _ c.in_ok-extend_from_slice.ensures.items c.in_ok-extend_from_slice-2.ensures.items _ at refl refl _ c.in_ok-push.ensures.items
    ∙ ap (λ (old : List (Bytes × Bytes)). old ++ (c.args.key.now, c.args.value.now) ∷ []) c.self.view_is
