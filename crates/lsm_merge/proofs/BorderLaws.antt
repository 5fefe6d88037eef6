-- Borders ascend.
use Rattle.std.proofs.Common.{◌≡◌, ℕ, suc, zero, ◌+◌, ◌-◌, ◌*◌, ◌/◌, ◌%◌, ◌<◌, ◌≤◌, Bool, true, false, List, [], ◌∷◌, ◌++◌, length, map, get_or, add-one, eqb, length-append, refl, ap, sym, ◌∙◌, arith}
use Rattle.std.specs.Prelude.{reverse}
use Rattle.std.proofs.lemmas.Bool.{and_parts, and_from, cond_both, cond-true, cond-false, eq-eqb, ne_eqb}
use Rattle.std.proofs.lemmas.List.{reverse-append, length-reverse, get_or-map}
use Rattle.std.specs.Ordering.{is_lt}
use Rattle.std.proofs.Math.Nat.{div-add-mod, mul-add-div}
use Rattle.lsm_codec.specs.Keys.{Bytes, byte_order}
use Rattle.lsm_codec.specs.Versions.{Version}
use Rattle.lsm_merge.specs.Inputs.{MergeInput}
use Rattle.lsm_merge.specs.Parts.{is_above_first, with_border, border, first_borders, borders_of, longest, are_ascending, Ascending}

first_stays : (key : Bytes) (xs ys : List Bytes) → 0 < length xs → is_above_first key (xs ++ ys) ≡ is_above_first key xs
first_stays key [] ys h = absurd (omega arith)
first_stays key (x ∷ xs) ys h = refl

last_stays : (key b c : Bytes) (rest : List Bytes) → is_above_first key (reverse (b ∷ c ∷ rest)) ≡ is_above_first key (reverse (c ∷ rest))
last_stays key b c rest =
    ap (is_above_first key) (reverse-append (b ∷ []) (c ∷ rest)) ∙ first_stays key (reverse (c ∷ rest)) (b ∷ []) (omega (arith, length-reverse (c ∷ rest)))

ascending_push : (key : Bytes) (borders : List Bytes) → are_ascending borders ≡ true → is_above_first key (reverse borders) ≡ true → are_ascending (borders ++ key ∷ []) ≡ true
ascending_push key [] h e = refl
ascending_push key (b ∷ []) h e = and_from (is_lt (byte_order b key)) true e refl
ascending_push key (b ∷ c ∷ rest) h e =
    let parts = and_parts (is_lt (byte_order b c)) (are_ascending (c ∷ rest)) h in
    and_from (is_lt (byte_order b c)) (are_ascending (c ∷ (rest ++ key ∷ []))) parts.0 (ascending_push key (c ∷ rest) parts.1 (sym (last_stays key b c rest) ∙ e))

pub first_borders_ascending : (run : List Version) (parts n : ℕ) → are_ascending (first_borders run parts n) ≡ true
first_borders_ascending run parts zero = refl
first_borders_ascending run parts (suc n) =
    let borders = first_borders run parts n in
    let key = border run parts (suc n) in
    cond_both (is_above_first key (reverse borders)) (borders ++ key ∷ []) borders (λ xs. are_ascending xs ≡ true)
    (λ e. ascending_push key borders (first_borders_ascending run parts n) e)
    (λ e. first_borders_ascending run parts n)

-- a place without the large product
multiplied : (i p q r : ℕ) → i * (p * q + r) ≡ p * (i * q) + i * r
multiplied i p q r = omega arith

pub place_exact : (i n p : ℕ) → 0 < p → i * (n / p) + i * (n % p) / p ≡ i * n / p
place_exact i n p h =
    sym (ap (λ z. z / p) (ap (λ z. i * z) (sym (div-add-mod n p)) ∙ multiplied i p (n / p) (n % p)) ∙ mul-add-div h (i * (n / p)) (i * (n % p)))

key_of_border : (run : List Version) (parts i at : ℕ) (v : Version) (key : Bytes) → at ≡ (i + 1) * length run / parts → at < length run → v ≡ get_or run at v → key ≡ v.key → key ≡ border run parts (suc i)
key_of_border run parts i at v key e h f k =
    k ∙ ap (λ w. w.key) f ∙ sym (get_or-map (λ w. w.key) run at v [] h) ∙ ap (λ j. get_or (map (λ w. w.key) run) j []) (e ∙ ap (λ m. m * length run / parts) (add-one i))

-- a border is added, or it is the last one again
pub border_added : (key given : Bytes) (borders : List Bytes) (b : Bool) → b ≡ is_above_first key (reverse borders) → b ≡ true → given ≡ key → borders ++ given ∷ [] ≡ with_border borders key
border_added key given borders b t is same =
    ap (λ (k : Bytes). borders ++ k ∷ []) same ∙ sym (cond-true (is_above_first key (reverse borders)) (borders ++ key ∷ []) borders (sym t ∙ is))

pub border_again : (key : Bytes) (borders : List Bytes) (b : Bool) → b ≡ is_above_first key (reverse borders) → b ≡ false → borders ≡ with_border borders key
border_again key borders b t is = sym (cond-false (is_above_first key (reverse borders)) (borders ++ key ∷ []) borders (sym t ∙ is))

pub border_step : (run : List Version) (parts i at : ℕ) (v : Version) (key : Bytes) (borders after : List Bytes) → at ≡ (i + 1) * length run / parts → at < length run → v ≡ get_or run at v → key ≡ v.key
    → borders ≡ first_borders run parts i → after ≡ with_border borders key → after ≡ first_borders run parts (i + 1)
border_step run parts i at v key borders after e h f k so t =
    t ∙ ap (λ (xs : List Bytes). with_border xs key) so
    ∙ ap (with_border (first_borders run parts i)) (key_of_border run parts i at v key e h f k)
    ∙ ap (first_borders run parts) (sym (add-one i))

pub first_borders_few : (run : List Version) (parts n : ℕ) → length (first_borders run parts n) ≤ n
first_borders_few run parts zero = omega arith
first_borders_few run parts (suc n) =
    let few = first_borders_few run parts n in
    let borders = first_borders run parts n in
    let key = border run parts (suc n) in
    cond_both (is_above_first key (reverse borders)) (borders ++ key ∷ []) borders (λ xs. length xs ≤ suc n) (λ e. omega (arith, length-append borders (key ∷ []))) (λ e. omega arith)

pub some_few : (run : List Version) (parts : ℕ) (borders : List Bytes) → borders ≡ first_borders run parts (parts - 1) → parts ≤ 8 → length borders < 8
some_few run parts borders e h =
    let few = first_borders_few run parts (parts - 1) in
    rw e (omega (arith, few))

pub some_ascending : (run : List Version) (parts : ℕ) (borders : List Bytes) → borders ≡ first_borders run parts (parts - 1) → Ascending borders
some_ascending run parts borders e = record { tested = ap are_ascending e ∙ first_borders_ascending run parts (parts - 1) }

pub borders_some : (input : MergeInput) (parts : ℕ) (borders : List Bytes) → 0 < length (longest input.runs) → borders ≡ first_borders (longest input.runs) parts (parts - 1) → borders ≡ borders_of input parts
borders_some input parts borders h e = e ∙ sym (cond-false (eqb (length (longest input.runs)) 0) [] _ (ne_eqb (length (longest input.runs)) 0 (λ k. omega arith)))

pub borders_none : (input : MergeInput) (parts : ℕ) → length (longest input.runs) ≡ 0 → [] ≡ borders_of input parts
borders_none input parts e = sym (cond-true (eqb (length (longest input.runs)) 0) [] _ (eq-eqb (length (longest input.runs)) 0 e))
