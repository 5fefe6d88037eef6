-- A walk along entries that tests their order.
use Rattle.std.proofs.Common.{◌≡◌, ℕ, ◌+◌, ◌-◌, ◌<◌, ◌≤◌, Bool, true, false, ◌&&◌, List, [], ◌∷◌, length, drop, get_or, refl, sym, ap, ◌∙◌, arith}
use Rattle.std.specs.Ordering.{is_lt}
use Rattle.std.proofs.lemmas.List.{drop_more, length-drop}
use Rattle.lsm_codec.specs.Versions.{Version, AreOrdered, entry_order}
use Rattle.lsm_mem.proofs.OrderTests.{is_in_order, tested, ordered_tested}

module _ (entries : List Version) (i : ℕ) (low : 1 ≤ i) (same : is_in_order (drop (i - 1) entries) ≡ is_in_order entries) where
  -- one entry before the next, and the rest to test
  goes_on : (v w : Version) (r : Bool) → i < length entries → v ≡ get_or entries (i - 1) v → w ≡ get_or entries i w → r ≡ is_lt (entry_order v w) → is_in_order (drop (i - 1) entries) ≡ (r && is_in_order (drop i entries))
  goes_on v w r lt is_v is_w is =
      let step : (i - 1) + 1 ≡ i = omega arith in
      let two : drop i entries ≡ w ∷ drop (i + 1) entries = drop_more entries i w lt ∙ ap (λ (x : Version). x ∷ drop (i + 1) entries) (sym is_w) in
      let one : drop (i - 1) entries ≡ v ∷ drop i entries = drop_more entries (i - 1) v (omega arith) ∙ ap (λ (x : Version). x ∷ drop ((i - 1) + 1) entries) (sym is_v) ∙ ap (λ (k : ℕ). v ∷ drop k entries) step in
      ap is_in_order (one ∙ ap (λ (es : List Version). v ∷ es) two) ∙ ap (λ (b : Bool). b && is_in_order (w ∷ drop (i + 1) entries)) (sym is) ∙ ap (λ (es : List Version). r && is_in_order es) (sym two)

  -- an entry that doesn't come before the next
  pub out_of_order : (v w : Version) (r : Bool) → i < length entries → v ≡ get_or entries (i - 1) v → w ≡ get_or entries i w → r ≡ is_lt (entry_order v w) → r ≡ false → AreOrdered entries → ⊥
  out_of_order v w r lt is_v is_w is none ordered =
      let unordered : is_in_order entries ≡ false = sym same ∙ goes_on v w r lt is_v is_w is ∙ ap (λ (b : Bool). b && is_in_order (drop i entries)) none in
      let ordered_is : is_in_order entries ≡ true = tested entries ordered in
      cc

  -- one that does
  pub in_order_on : (v w : Version) (r : Bool) → i < length entries → v ≡ get_or entries (i - 1) v → w ≡ get_or entries i w → r ≡ is_lt (entry_order v w) → r ≡ true → is_in_order (drop ((i + 1) - 1) entries) ≡ is_in_order entries
  in_order_on v w r lt is_v is_w is before =
      let next : (i + 1) - 1 ≡ i = omega arith in
      ap (λ (k : ℕ). is_in_order (drop k entries)) next ∙ sym (goes_on v w r lt is_v is_w is ∙ ap (λ (b : Bool). b && is_in_order (drop i entries)) before) ∙ same

  -- after the last one
  pub all_in_order : length entries ≤ i → AreOrdered entries
  all_in_order le = ordered_tested entries (sym same ∙ short (drop (i - 1) entries) (omega (arith, length-drop (i - 1) entries)))
    where
      short : (es : List Version) → length es ≤ 1 → is_in_order es ≡ true
      short [] few = refl
      short (v ∷ []) few = refl
      short (v ∷ w ∷ es) few = absurd (omega (arith, few))
