use Rattle.std.proofs.Common.{◌+◌, ◌≤◌, ◌++◌, ◌∷◌, [], List, length, option_map, refl, ap, ◌∙◌, arith}
use Rattle.std.proofs.lemmas.Bool.{le-ltb}
use Rattle.lsm_codec.specs.Map.{Operation}
use Rattle.lsm_codec.specs.BatchText.{batch_text, text_length, operation_text}
use Rattle.lsm_codec.proofs.Spelled.{spells, one_more}
use Rattle.lsm_codec.proofs.batch.Batch.add.Goals as goal

pub invariant_of-self-2 : goal.invariant_of-self-2
invariant_of-self-2 g c =
    let o : Operation = record { key = c.args.key.now; value = option_map (λ v. v.now) c.args.value } in
    let fits = one_more c.args.self.now o c.text_len.ensures.fits c.requires (omega (arith, c.if-text_len-size-gt-MAX_TEXT.false, c.text_len.ensures.value, c.change_len-size.ensures.value)) in
    (spells c.add_change.new.text.items (c.args.self.now ++ o ∷ []) fits (c.in_ok-add_change.ensures.ok ∙ ap (λ (os : List Operation). batch_text (os ++ o ∷ [])) c.self.view_is)).0

pub returns-clause-added : goal.returns-clause-added
returns-clause-added g c =
    let o : Operation = record { key = c.args.key.now; value = option_map (λ v. v.now) c.args.value } in
    let short : text_length c.args.self.now + length (operation_text o) ≤ 61440 = omega (arith, c.if-text_len-size-gt-MAX_TEXT.false, c.text_len.ensures.value, c.change_len-size.ensures.value) in
    let fits = one_more c.args.self.now o c.text_len.ensures.fits c.requires short in (
      rw (le-ltb 61440 (text_length c.args.self.now + length (operation_text o)) short) refl,
      (spells c.add_change.new.text.items (c.args.self.now ++ o ∷ []) fits (c.in_ok-add_change.ensures.ok ∙ ap (λ (os : List Operation). batch_text (os ++ o ∷ [])) c.self.view_is)).1,
    )
