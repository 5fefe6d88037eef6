-- Rows by reference, and those of a page.
use Rattle.std.proofs.Common.{◌≡◌, ◌<◌, ◌+◌, ◌-◌, ◌==◌, ℕ, zero, suc, Bool, List, [], ◌∷◌, ◌++◌, length, take, drop, map, get_or, slice_get, Option, Some, None, refl, sym, ap, ◌∙◌, arith}
use Rattle.std.specs.Prelude.{IsTrue, ◌↔◌}
use Rattle.std.specs.FinMap as finite
use Rattle.std.specs.Option.{option_map}
use Rattle.std.specs.declared.vec.Vec.{Vec}
use Rattle.std.proofs.lemmas.Bool.{false≢true}
use Rattle.std.proofs.lemmas.List.{length-drop, take_all, take_more, map_push, length-map}
use Rattle.std.proofs.lemmas.Option.{slice_get-get_or, slice_get-map, slice_get_within}
use Rattle.std.proofs.Math.Dec.{eqb-suc-zero}
use Rattle.lsm_codec.specs.Keys.{Bytes}
use Rattle.lsm_codec.specs.Map.{Map}
use Rattle.lsm_mem.specs.Rows.{shown_row}
use Rattle.lsm_mem.specs.declared.rows.RowRef.{RowRef}
use Rattle.lsm_explore.specs.Plain.{rows_of}

abbrev Pairs : Type 0
Pairs = List (Bytes × Bytes)

rows-take : (n : ℕ) (rows : List RowRef) → rows_of (take n rows) ≡ take n (rows_of rows)
rows-take zero rows = refl
rows-take (suc n) [] = refl
rows-take (suc n) (row ∷ rows) = ap (λ (l : Pairs). shown_row row ∷ l) (rows-take n rows)

rows-drop : (n : ℕ) (rows : List RowRef) → rows_of (drop n rows) ≡ drop n (rows_of rows)
rows-drop zero rows = refl
rows-drop (suc n) [] = refl
rows-drop (suc n) (row ∷ rows) = rows-drop n rows

pub front_tells : (b : Bool) (n : ℕ) (rows : List RowRef) (these : Pairs) → (IsTrue b ↔ (rows_of (take n rows) ≡ these)) → IsTrue b ↔ (take n (rows_of rows) ≡ these)
front_tells b n rows these tells = (λ h. sym (rows-take n rows) ∙ tells.0 h, λ same. tells.1 (rows-take n rows ∙ same))

pub length-rows : (rows : List RowRef) → length (rows_of rows) ≡ length rows
length-rows [] = refl
length-rows (row ∷ rows) = ap suc (length-rows rows)

-- the slice after the first n
rest_is : (n : ℕ) (rows : List RowRef) → take (length rows - n) (drop n rows) ≡ drop n rows
rest_is n rows = take_all (length rows - n) (drop n rows) (omega (arith, length-drop n rows))

pub back_tells : (b : Bool) (n : ℕ) (rows : List RowRef) (those : Pairs) → (IsTrue b ↔ (rows_of (take (length rows - n) (drop n rows)) ≡ those)) → IsTrue b ↔ (drop n (rows_of rows) ≡ those)
back_tells b n rows those tells =
    let same : rows_of (take (length rows - n) (drop n rows)) ≡ drop n (rows_of rows) = ap rows_of (rest_is n rows) ∙ rows-drop n rows in
    (λ h. sym same ∙ tells.0 h, λ is. tells.1 (same ∙ is))

zero_test : (x : ℕ) → IsTrue (x == 0) ↔ (x ≡ 0)
zero_test zero = (λ h. refl, λ h. refl)
zero_test (suc n) = (λ h. absurd (false≢true (sym (eqb-suc-zero n) ∙ h)), λ h. absurd (omega (arith, h)))

pub empty_tells : (b : Bool) (n : ℕ) (rows : List RowRef) → b ≡ (length (take (length rows - n) (drop n rows)) == 0) → IsTrue b ↔ (length (drop n (rows_of rows)) ≡ 0)
empty_tells b n rows is =
    let as_many : length (take (length rows - n) (drop n rows)) ≡ length (drop n (rows_of rows)) = sym (length-rows (take (length rows - n) (drop n rows))) ∙ ap length (ap rows_of (rest_is n rows) ∙ rows-drop n rows) in
    let test = zero_test (length (take (length rows - n) (drop n rows))) in
    (λ h. sym as_many ∙ test.0 (sym is ∙ h), λ none. is ∙ test.1 (as_many ∙ none))

-- one row more of a page that is the same
get_some : (these : Pairs) (i : ℕ) (x : Bytes × Bytes) → Some x ≡ slice_get these i → take (suc i) these ≡ take i these ++ x ∷ []
get_some [] i x is = cc
get_some (y ∷ these) zero x is = ap (λ (o : Option (Bytes × Bytes)). or_else o ∷ []) (sym is)
  where
    or_else : Option (Bytes × Bytes) → Bytes × Bytes
    or_else None = y
    or_else (Some z) = z
get_some (y ∷ these) (suc i) x is = ap (λ (l : Pairs). y ∷ l) (get_some these i x is)

pub row_more : (rows : List RowRef) (these : Pairs) (i : ℕ) (d other : RowRef) → i < length rows → rows_of (take i rows) ≡ take i these → shown_row (get_or rows i d) ≡ shown_row other → Some (shown_row other) ≡ slice_get these i
    → rows_of (take (i + 1) rows) ≡ take (i + 1) these
row_more rows these i d other within so_far same found =
    let next : suc i ≡ i + 1 = omega arith in
    ap rows_of (take_more rows i d within) ∙ map_push shown_row (take i rows) (get_or rows i d) ∙ (λ j. so_far j ++ same j ∷ []) ∙ sym (get_some these i (shown_row other) found) ∙ ap (λ (n : ℕ). take n these) next

-- ---- the map at a place

some_is : (a b : Pairs) → Some a ≡ Some b → a ≡ b
some_is a b e = ap (λ (o : Option Pairs). or_else o) e
  where
    or_else : Option Pairs → Pairs
    or_else None = a
    or_else (Some x) = x

module _ {A : Type 0} (maps : List (Vec RowRef A)) (all : List Map) (same : map (λ rows. rows_of rows.items) maps ≡ map finite.entries all) (place : ℕ) (m : Map) (found : slice_get all place ≡ Some m) where
  pub is_place : place < length maps
  is_place = omega (arith, slice_get_within all place m found, length-map maps (λ (rows : Vec RowRef A). rows_of rows.items), length-map all (λ (m : Map). finite.entries m), ap length same)

  pub map_found : (rows : Vec RowRef A) → rows ≡ get_or maps place rows → rows_of rows.items ≡ finite.entries m
  map_found rows is =
      some_is (rows_of rows.items) (finite.entries m)
      (ap (λ (r : Vec RowRef A). Some (rows_of r.items)) is
      ∙ ap (option_map (λ (r : Vec RowRef A). rows_of r.items)) (sym (slice_get-get_or maps place rows is_place))
      ∙ sym (slice_get-map (λ (r : Vec RowRef A). rows_of r.items) maps place)
      ∙ ap (λ (l : List Pairs). slice_get l place) same
      ∙ slice_get-map (λ (m : Map). finite.entries m) all place
      ∙ ap (option_map (λ (m : Map). finite.entries m)) found)
