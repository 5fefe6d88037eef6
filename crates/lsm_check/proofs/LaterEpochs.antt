-- Log sectors of later epochs.
use Rattle.std.proofs.Common.{◌≡◌, ℕ, ◌+◌, ◌<◌, Bool, true, false, true≢false, List, [], length, drop, get_or, slice_get, Option, Some, None, option_map, refl, sym, ap, ◌∙◌, arith}
use Rattle.std.proofs.lemmas.List.{get_or-take, get_or-drop, length-take, length-drop}
use Rattle.std.proofs.lemmas.List.Elements.{All-more}
use Rattle.std.proofs.lemmas.Option.{slice_get_within, get_or_from_slice_get, same_Some, none-some}
use Rattle.lsm_device.specs.Areas.{area}
use Rattle.lsm_log.specs.Opened.{is_above, HasNoneAbove}

-- what was tested of the sector at a place
tested : (test : List ℕ → Bool) (sectors : List (List ℕ)) (at : ℕ) (b : Bool) → option_map test (slice_get sectors at) ≡ Some b → (at < length sectors) × (test (get_or sectors at []) ≡ b)
tested test sectors at b e = by (slice_get sectors at) refl e
  where
    by : (o : Option (List ℕ)) → slice_get sectors at ≡ o → option_map test o ≡ Some b → (at < length sectors) × (test (get_or sectors at []) ≡ b)
    by None is e = absurd (none-some b e)
    by (Some s) is e = (slice_get_within sectors at s is, ap test (get_or_from_slice_get sectors at s [] is) ∙ same_Some (test s) b e)

module _ (generation at i : ℕ) (sectors : List (List ℕ)) where
  -- one sector more is of no later epoch
  pub none_more : option_map (is_above generation) (slice_get sectors (at + i)) ≡ Some false → HasNoneAbove generation (area at i sectors) → HasNoneAbove generation (area at (i + 1) sectors)
  none_more e none =
      let there = tested (is_above generation) sectors (at + i) false e in
      All-more (λ (s : List ℕ). is_above generation s ≡ false) (drop at sectors) i [] (omega (arith, there.0, length-drop at sectors)) none (ap (is_above generation) (get_or-drop at sectors i []) ∙ there.1)

  -- one is of a later epoch
  pub one_above : (count : ℕ) → i < count → option_map (is_above generation) (slice_get sectors (at + i)) ≡ Some true → HasNoneAbove generation (area at count sectors) → ⊥
  one_above count within e none =
      let there = tested (is_above generation) sectors (at + i) true e in
      let here : get_or (area at count sectors) i [] ≡ get_or sectors (at + i) [] = get_or-take count (drop at sectors) i [] within ∙ get_or-drop at sectors i [] in
      let long : i < length (area at count sectors) = omega (arith, within, there.0, length-take count (drop at sectors), length-drop at sectors) in
      true≢false (sym there.1 ∙ ap (is_above generation) (sym here) ∙ none i [] long)
