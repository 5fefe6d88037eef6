-- The maps after batches, as rows.
use Rattle.std.proofs.Common.{◌≡◌, ◌≤◌, ◌<◌, ℕ, ◌+◌, List, [], ◌∷◌, ◌++◌, length, map, drop, get_or, ap, sym, ◌∙◌, append_assoc}
use Rattle.std.proofs.lemmas.List.{drop_more, drop_all, nil_from_length}
use Rattle.std.specs.FinMap as finite
use Rattle.std.specs.FinMap.{len-entries, len-empty}
use Rattle.lsm_codec.specs.Keys.{Bytes, byte_order}
use Rattle.lsm_codec.specs.Map.{Map, Operation, apply, apply_all}
use Rattle.lsm_machine.specs.Promise.{maps_after}

abbrev Pairs : Type 0
Pairs = List (Bytes × Bytes)

-- an empty map has no rows
pub entries_empty : finite.entries {X = Bytes} {R = byte_order} finite.empty ≡ []
entries_empty = nil_from_length (finite.entries finite.empty) (sym (len-entries finite.empty) ∙ len-empty byte_order Bytes)

-- ---- one after another

module _ {X : Type 0} (batches : List X) (batch_in : X → List Operation) (i : ℕ) (batch : X) (within : i < length batches) (is : get_or batches i batch ≡ batch) where
  pub split : map batch_in (drop i batches) ≡ batch_in batch ∷ map batch_in (drop (i + 1) batches)
  split = ap (map batch_in) (drop_more batches i batch within ∙ ap (λ (b : X). b ∷ drop (i + 1) batches) is)

  pub leads_on : (now last : Map) → apply_all now (map batch_in (drop i batches)) ≡ last → apply_all (apply now (batch_in batch)) (map batch_in (drop (i + 1) batches)) ≡ last
  leads_on now last leads = ap (apply_all now) (sym split) ∙ leads

  -- with the map before it told
  pub told_on : (now : Map) (told more all : List Pairs) → more ≡ told ++ finite.entries now ∷ [] → told ++ map finite.entries (now ∷ maps_after now (map batch_in (drop i batches))) ≡ all
      → more ++ map finite.entries (apply now (batch_in batch) ∷ maps_after (apply now (batch_in batch)) (map batch_in (drop (i + 1) batches))) ≡ all
  told_on now told more all adds leads =
      let rest = map finite.entries (apply now (batch_in batch) ∷ maps_after (apply now (batch_in batch)) (map batch_in (drop (i + 1) batches))) in
      ap (λ (l : List Pairs). l ++ rest) adds ∙ append_assoc told (finite.entries now ∷ []) rest
      ∙ ap (λ (l : List (List Operation)). told ++ map finite.entries (now ∷ maps_after now l)) (sym split) ∙ leads

module _ {X : Type 0} (batches : List X) (batch_in : X → List Operation) (i : ℕ) (past : length batches ≤ i) where
  pub led_all : (now last : Map) → apply_all now (map batch_in (drop i batches)) ≡ last → now ≡ last
  led_all now last leads = ap (λ (l : List X). apply_all now (map batch_in l)) (sym (drop_all i batches past)) ∙ leads

  pub told_all : (now : Map) (told more all : List Pairs) → more ≡ told ++ finite.entries now ∷ [] → told ++ map finite.entries (now ∷ maps_after now (map batch_in (drop i batches))) ≡ all → more ≡ all
  told_all now told more all adds leads = adds ∙ ap (λ (l : List X). told ++ map finite.entries (now ∷ maps_after now (map batch_in l))) (sym (drop_all i batches past)) ∙ leads
