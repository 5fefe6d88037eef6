-- Rows stay where they are while their text grows.
use Rattle.std.proofs.Common.{◌≡◌, ◌≤◌, ℕ, ◌+◌, List, [], ◌∷◌, ◌++◌, length, map, take, drop, refl, sym, ◌∙◌, ap, subst, arith}
use Rattle.std.specs.List.{AllByRecursion}
use Rattle.std.proofs.lemmas.List.{take-append-le, drop-append-le, length-append, length-drop, map-append, append-nil}
use Rattle.std.proofs.Math.Seq.{drop-append_seam, take-append_seam}
use Rattle.lsm_codec.specs.Keys.{Bytes}
use Rattle.lsm_codec.proofs.Lists.{all_append, all_map}
use Rattle.lsm_mem.specs.declared.rows.RowPlace.{RowPlace}
use Rattle.lsm_mem.specs.Rows.{row_at, IsWithin}

-- a part of a text is one of a longer text
part_of_longer : (text more : Bytes) (at n : ℕ) → at + n ≤ length text → take n (drop at (text ++ more)) ≡ take n (drop at text)
part_of_longer text more at n h =
    ap (take n) (drop-append-le at text more (omega (arith, h)))
    ∙ take-append-le n (drop at text) more (omega (arith, h, length-drop at text))

within_longer : (text more : Bytes) (p : RowPlace) → IsWithin text p → IsWithin (text ++ more) p
within_longer text more p h = omega (arith, h, length-append text more)

row_of_longer : (text more : Bytes) (p : RowPlace) → IsWithin text p → row_at (text ++ more) p ≡ row_at text p
row_of_longer text more p h =
    ap (λ (key : Bytes). (key, take p.value_len (drop (p.at + p.key_len) (text ++ more)))) (part_of_longer text more p.at p.key_len (omega (arith, h)))
    ∙ ap (λ (value : Bytes). (take p.key_len (drop p.at text), value)) (part_of_longer text more (p.at + p.key_len) p.value_len h)

all_within_longer : (text more : Bytes) (places : List RowPlace) → AllByRecursion (IsWithin text) places → AllByRecursion (IsWithin (text ++ more)) places
all_within_longer text more places h = all_map (within_longer text more) places h

rows_of_longer : (text more : Bytes) (places : List RowPlace) → AllByRecursion (IsWithin text) places → map (row_at (text ++ more)) places ≡ map (row_at text) places
rows_of_longer text more [] h = refl
rows_of_longer text more (p ∷ rest) h =
    ap (λ (row : Bytes × Bytes). row ∷ map (row_at (text ++ more)) rest) (row_of_longer text more p h.0)
    ∙ ap (λ (rows : List (Bytes × Bytes)). row_at text p ∷ rows) (rows_of_longer text more rest h.1)

-- ---- a key and a value are put at the end of a text

module _ (text key value : Bytes) (places : List RowPlace) (h : AllByRecursion (IsWithin text) places) where
  within_both : AllByRecursion (IsWithin ((text ++ key) ++ value)) places
  within_both = all_within_longer (text ++ key) value places (all_within_longer text key places h)

  rows_of_both : map (row_at ((text ++ key) ++ value)) places ≡ map (row_at text) places
  rows_of_both = rows_of_longer (text ++ key) value places (all_within_longer text key places h) ∙ rows_of_longer text key places h

  -- the rows stay when a key alone is added
  pub rows_with_key : (longer : Bytes) → longer ≡ text ++ key → map (row_at longer) places ≡ map (row_at text) places
  rows_with_key longer is = ap (λ (t : Bytes). map (row_at t) places) is ∙ rows_of_longer text key places h

  module _ (between longer : Bytes) (first : between ≡ text ++ key) (second : longer ≡ between ++ value) where
    is_longer : longer ≡ (text ++ key) ++ value
    is_longer = second ∙ ap (λ (t : Bytes). t ++ value) first

    -- and when both are
    pub rows_stay : (after : List RowPlace) → after ≡ places → map (row_at longer) after ≡ map (row_at text) places
    rows_stay after same = ap (λ (t : Bytes). map (row_at t) after) is_longer ∙ ap (map (row_at ((text ++ key) ++ value))) same ∙ rows_of_both

    pub stay_within : (after : List RowPlace) → after ≡ places → AllByRecursion (IsWithin longer) after
    stay_within after same = subst (λ (t : Bytes). AllByRecursion (IsWithin t) after) (sym is_longer) (subst (AllByRecursion (IsWithin ((text ++ key) ++ value))) (sym same) within_both)

    -- with their place among the others they are a row more
    module _ (p : RowPlace) (at : p.at ≡ length text) (key_len : p.key_len ≡ length key) (value_len : p.value_len ≡ length value) where
      row_at_end : row_at ((text ++ key) ++ value) p ≡ (key, value)
      row_at_end =
          ap (λ (k : Bytes). (k, take p.value_len (drop (p.at + p.key_len) ((text ++ key) ++ value)))) its_key
          ∙ ap (λ (v : Bytes). (key, v)) its_value
        where
          its_key : take p.key_len (drop p.at ((text ++ key) ++ value)) ≡ key
          its_key =
              part_of_longer (text ++ key) value p.at p.key_len (omega (arith, at, key_len, length-append text key))
              ∙ ap (λ (n : ℕ). take p.key_len (drop n (text ++ key))) at ∙ ap (take p.key_len) (drop-append_seam text key)
              ∙ ap (λ (n : ℕ). take n key) key_len ∙ ap (take (length key)) (sym (append-nil key)) ∙ take-append_seam key []

          its_value : take p.value_len (drop (p.at + p.key_len) ((text ++ key) ++ value)) ≡ value
          its_value =
              ap (λ (n : ℕ). take p.value_len (drop n ((text ++ key) ++ value))) (omega (arith, at, key_len, length-append text key))
              ∙ ap (take p.value_len) (drop-append_seam (text ++ key) value)
              ∙ ap (λ (n : ℕ). take n value) value_len ∙ ap (take (length value)) (sym (append-nil value)) ∙ take-append_seam value []

      end_within : IsWithin ((text ++ key) ++ value) p
      end_within = omega (arith, at, key_len, value_len, length-append text key, length-append (text ++ key) value)

      pub one_more : (after : List RowPlace) → after ≡ places ++ p ∷ [] → map (row_at longer) after ≡ map (row_at text) places ++ (key, value) ∷ []
      one_more after more =
          ap (λ (t : Bytes). map (row_at t) after) is_longer ∙ ap (map (row_at ((text ++ key) ++ value))) more
          ∙ map-append (row_at ((text ++ key) ++ value)) places (p ∷ [])
          ∙ ap (λ (rows : List (Bytes × Bytes)). rows ++ row_at ((text ++ key) ++ value) p ∷ []) rows_of_both
          ∙ ap (λ (row : Bytes × Bytes). map (row_at text) places ++ row ∷ []) row_at_end

      pub one_more_within : (after : List RowPlace) → after ≡ places ++ p ∷ [] → AllByRecursion (IsWithin longer) after
      one_more_within after more =
          subst (λ (t : Bytes). AllByRecursion (IsWithin t) after) (sym is_longer)
          (subst (AllByRecursion (IsWithin ((text ++ key) ++ value))) (sym more) (all_append (IsWithin ((text ++ key) ++ value)) places (p ∷ []) within_both (end_within, tt)))
