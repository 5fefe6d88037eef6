-- Gaps of an area, one after the other, and the lowest that has `blocks` blocks.
use Rattle.std.proofs.Common.{◌≡◌, ℕ, ◌+◌, ◌-◌, ◌<◌, ◌≤◌, Bool, true, false, cond, List, [], ◌∷◌, ◌++◌, length, drop, filter, slice_get, slice_set, get_or, Some, None, refl, sym, ap, ◌∙◌, subst, arith, append_assoc}
use Prim.Native.Nat.{min}
use Rattle.std.specs.List.{position, position_or_len}
use Rattle.std.proofs.lemmas.Bool.{leb-true, leb-false}
use Rattle.std.proofs.lemmas.Grind.{common_steps}
use Rattle.std.proofs.lemmas.List.{drop_more}
use Rattle.std.proofs.lemmas.List.Quantifiers.{position-Some}
use Rattle.std.proofs.lemmas.List.Sums.{fails_before_first}
use Rattle.std.proofs.lemmas.Option.{slice_get-get_or, slice_get_within, get_or_from_slice_get}
use Rattle.lsm_extent.specs.declared.extent.Extent.{Extent}
use Rattle.lsm_room.specs.Gaps.{TakesLowest, has_blocks}

-- one that has fewer
lower : (blocks : ℕ) (gaps : List Extent) (k : ℕ) (other : Extent) → slice_get gaps k ≡ Some other → has_blocks blocks (get_or gaps k other) ≡ false → other.blocks < blocks
lower blocks gaps k other there fails =
    leb-false blocks other.blocks (subst (λ (g : Extent). has_blocks blocks g ≡ false) (get_or_from_slice_get gaps k other other there) fails)

-- where none has `blocks` blocks, each has fewer
pub all_lower : (blocks : ℕ) (gaps : List Extent) → position (has_blocks blocks) gaps ≡ None → (k : ℕ) (other : Extent) → slice_get gaps k ≡ Some other → other.blocks < blocks
all_lower blocks gaps none k other there =
    let within : k < length gaps = slice_get_within gaps k other there in
    let before : k < position_or_len (has_blocks blocks) gaps = grind (arith, common_steps) in
    lower blocks gaps k other there (fails_before_first (has_blocks blocks) gaps k other before)

-- what is left where a run is taken from the first that has `blocks` blocks
pub takes : (blocks : ℕ) (old : List Extent) (place : ℕ) (other : Extent) (start : ℕ) → position (has_blocks blocks) old ≡ Some place → start ≡ min ((get_or old place other).first + blocks) 4294967295
    → TakesLowest blocks old (slice_set old place (record { first = start; blocks = (get_or old place other).blocks - blocks })) (get_or old place other).first
takes blocks old place other start found start_is =
    let here = position-Some (has_blocks blocks) old place other found in
    record {
      place = place;
      gap = get_or old place other;
      at = slice_get-get_or old place other here.0;
      fits = leb-true blocks (get_or old place other).blocks here.1;
      lowest = λ k below_one below there. lower blocks old k below_one there ((position-Some (has_blocks blocks) old place below_one found).2 k below);
      first_is = refl;
      left = ap (λ (n : ℕ). slice_set old place (record { first = n; blocks = (get_or old place other).blocks - blocks })) start_is;
    }

-- so it has these at its place
pub long_enough : (blocks : ℕ) (gaps : List Extent) (place : ℕ) (other : Extent) → position (has_blocks blocks) gaps ≡ Some place → blocks ≤ (get_or gaps place other).blocks
long_enough blocks gaps place other found =
    leb-true blocks (get_or gaps place other).blocks (position-Some (has_blocks blocks) gaps place other found).1

one : (b : Bool) (gap : Extent) (rest : List Extent) → cond b (gap ∷ []) [] ++ rest ≡ cond b (gap ∷ rest) rest
one true gap rest = refl
one false gap rest = refl

-- a gap, with those that were found before it
pub next : (gaps found after : List Extent) (place : ℕ) (gap : Extent) → slice_get gaps place ≡ Some gap → found ++ filter (has_blocks 1) (drop place gaps) ≡ filter (has_blocks 1) gaps
    → after ≡ found ++ filter (has_blocks 1) (gap ∷ []) → after ++ filter (has_blocks 1) (drop (place + 1) gaps) ≡ filter (has_blocks 1) gaps
next gaps found after place gap there before after_is =
    let rest = filter (has_blocks 1) (drop (place + 1) gaps) in
    let here : drop place gaps ≡ gap ∷ drop (place + 1) gaps =
    drop_more gaps place gap (slice_get_within gaps place gap there) ∙ ap (λ (g : Extent). g ∷ drop (place + 1) gaps) (get_or_from_slice_get gaps place gap gap there)
    in
    ap (λ (l : List Extent). l ++ rest) after_is ∙ append_assoc found (filter (has_blocks 1) (gap ∷ [])) rest
    ∙ ap (λ (l : List Extent). found ++ l) (one (has_blocks 1 gap) gap rest ∙ sym (ap (filter (has_blocks 1)) here)) ∙ before
