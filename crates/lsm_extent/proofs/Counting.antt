-- How many blocks are free, and that each is free or in just one extent.
use Rattle.std.proofs.Common.{ℕ, ◌+◌, ◌<◌, ◌≤◌, zero, suc, Bool, true, false, cond, not, ◌&&◌, ◌||◌, leb, ltb, ◌≡◌, List, [], ◌∷◌, length, drop, get_or, refl, ◌∙◌, ap, arith, inl, inr}
use Rattle.std.specs.Prelude.{count_by, sum_by}
use Rattle.std.proofs.lemmas.Bool.{lt-ltb, le-leb, lt-leb, le-ltb, and_from, and_left, and_right, cases_lt}
use Rattle.std.proofs.lemmas.List.Sums.{sum_by-cons}
use Rattle.std.proofs.lemmas.List.{drop_more, drop_all}
use Rattle.lsm_extent.specs.declared.extent.Extent.{Extent}
use Rattle.lsm_extent.specs.Area.{covers, is_held, is_free, count_below, free_count, IsPartition}
use Rattle.lsm_extent.specs.Laid.{IsLaid}
use Rattle.lsm_extent.proofs.Walking.{laid_within, some_blocks, not_held_before}

-- 1 where the test passes
abbrev one_if : Bool → ℕ
one_if b = cond b 1 0

one_if-or : (b c : Bool) → (b ≡ true → c ≡ false) → one_if (b || c) ≡ one_if b + one_if c
one_if-or true c apart = omega (arith, ap one_if (apart refl))
one_if-or false c apart = omega arith

one_if-not : (b : Bool) → one_if (not b) + one_if b ≡ 1
one_if-not true = refl
one_if-not false = refl

pub count_below-same : (p q : ℕ → Bool) (n : ℕ) → ((k : ℕ) → k < n → p k ≡ q k) → count_below p n ≡ count_below q n
unfolding count_below
count_below-same p q zero same = refl
count_below-same p q (suc k) same =
    let one = ap one_if (same k (omega arith)) in
    omega (arith, one, count_below-same p q k (λ j below. same j (omega arith)))

count_below-or : (p q : ℕ → Bool) (n : ℕ) → ((k : ℕ) → p k ≡ true → q k ≡ false) → count_below (λ k. p k || q k) n ≡ count_below p n + count_below q n
unfolding count_below
count_below-or p q zero apart = refl
count_below-or p q (suc k) apart = omega (arith, one_if-or (p k) (q k) (apart k), count_below-or p q k apart)

count_below-not : (p : ℕ → Bool) (n : ℕ) → count_below (λ k. not (p k)) n + count_below p n ≡ n
unfolding count_below
count_below-not p zero = refl
count_below-not p (suc k) = omega (arith, one_if-not (p k), count_below-not p k)

count_below-none : (n : ℕ) → count_below (λ k. false) n ≡ 0
unfolding count_below
count_below-none zero = refl
count_below-none (suc k) = omega (arith, count_below-none k)

pub covers_inside : (k : ℕ) (e : Extent) → e.first ≤ k → k < e.first + e.blocks → covers k e ≡ true
covers_inside k e from below = and_from (leb e.first k) (ltb k (e.first + e.blocks)) (le-leb e.first k from) (lt-ltb k (e.first + e.blocks) below)

covers_before : (k : ℕ) (e : Extent) → k < e.first → covers k e ≡ false
covers_before k e before = and_left (leb e.first k) (ltb k (e.first + e.blocks)) (lt-leb e.first k before)

pub covers_after : (k : ℕ) (e : Extent) → e.first + e.blocks ≤ k → covers k e ≡ false
covers_after k e past = and_right (leb e.first k) (ltb k (e.first + e.blocks)) (le-ltb k (e.first + e.blocks) past)

pub covers_below : (k : ℕ) (e : Extent) → covers k e ≡ true → k < e.first + e.blocks
covers_below k e covered = elim (cases_lt k (e.first + e.blocks)) [ inl below ↦ below | inr past ↦ absurd (cc (covers_after k e past)) ]

count_below-before : (e : Extent) (n : ℕ) → n ≤ e.first → count_below (λ k. covers k e) n ≡ 0
unfolding count_below
count_below-before e zero before = refl
count_below-before e (suc k) before = omega (arith, ap one_if (covers_before k e (omega arith)), count_below-before e k (omega arith))

count_below-within : (e : Extent) (n : ℕ) → e.first ≤ n → n ≤ e.first + e.blocks → e.first + count_below (λ k. covers k e) n ≡ n
unfolding count_below
count_below-within e zero from below = omega arith
count_below-within e (suc k) from below = elim (cases_lt k e.first) [
  | inl before ↦ omega (arith, count_below-before e (suc k) (omega arith))
  | inr past ↦ omega (arith, ap one_if (covers_inside k e past (omega arith)), count_below-within e k past (omega arith))
]

-- an extent has as many blocks as it says
count_below-covers : (e : Extent) (n : ℕ) → e.first + e.blocks ≤ n → count_below (λ k. covers k e) n ≡ e.blocks
unfolding count_below
count_below-covers e zero past = omega arith
count_below-covers e (suc k) past = elim (cases_lt k (e.first + e.blocks)) [
  | inl last ↦ omega (arith, count_below-within e (suc k) (omega arith) (omega arith))
  | inr after ↦ omega (arith, ap one_if (covers_after k e after), count_below-covers e k after)
]

-- the blocks of all these extents
abbrev pub blocks_in : List Extent → ℕ
blocks_in [] = 0
blocks_in (e ∷ es) = e.blocks + blocks_in es

blocks_in_is : (es : List Extent) → sum_by (λ e. e.blocks) es ≡ blocks_in es
blocks_in_is [] = refl
blocks_in_is (e ∷ es) = sum_by-cons (λ (x : Extent). x.blocks) e es ∙ ap (λ n. e.blocks + n) (blocks_in_is es)

pub blocks_within : (from to : ℕ) (es : List Extent) → IsLaid from to es → from + blocks_in es ≤ to
blocks_within from to [] laid = omega (arith, laid)
blocks_within from to (e ∷ es) laid =
    let more : blocks_in (e ∷ es) ≡ e.blocks + blocks_in es = refl in
    omega (arith, more, laid.0, blocks_within (e.first + e.blocks) to es laid.2)

count_below-held : (from to n : ℕ) (es : List Extent) → IsLaid from to es → to ≤ n → count_below (is_held es) n ≡ blocks_in es
count_below-held from to n [] laid past = count_below-none n
count_below-held from to n (e ∷ es) laid past =
    let apart : (k : ℕ) → covers k e ≡ true → is_held es k ≡ false = λ k covered. not_held_before (e.first + e.blocks) to k es laid.2 (covers_below k e covered) in
    let more : blocks_in (e ∷ es) ≡ e.blocks + blocks_in es = refl in
    let held : count_below (is_held (e ∷ es)) n ≡ count_below (λ k. covers k e) n + count_below (is_held es) n = count_below-or (λ k. covers k e) (is_held es) n apart in
    omega (
      arith,
      more,
      held,
      count_below-covers e n (omega (arith, laid_within (e.first + e.blocks) to es laid.2)),
      count_below-held (e.first + e.blocks) to n es laid.2 past,
    )

pub free_is_not_held : (held : List Extent) (area k : ℕ) → k < area → is_free (record { blocks = area; held = held }) k ≡ not (is_held held k)
free_is_not_held held area k below = ap (λ b. b && not (is_held held k)) (lt-ltb k area below)

pub free_count_is : (held : List Extent) (area : ℕ) → IsLaid 0 area held → free_count (record { blocks = area; held = held }) + blocks_in held ≡ area
free_count_is held area laid =
    omega (
      arith,
      count_below-same (is_free (record { blocks = area; held = held })) (λ k. not (is_held held k)) area (free_is_not_held held area),
      count_below-not (is_held held) area,
      count_below-held 0 area area held laid (omega arith),
    )

count_by-held : (from to k : ℕ) (es : List Extent) → IsLaid from to es → count_by (covers k) es ≡ one_if (is_held es k)
count_by-held from to k [] laid = refl
count_by-held from to k (e ∷ es) laid =
    let apart : covers k e ≡ true → is_held es k ≡ false = λ covered. not_held_before (e.first + e.blocks) to k es laid.2 (covers_below k e covered) in
    let more : count_by (covers k) (e ∷ es) ≡ one_if (covers k e) + count_by (covers k) es = sum_by-cons (λ x. one_if (covers k x)) e es in
    let held : one_if (is_held (e ∷ es) k) ≡ one_if (covers k e) + one_if (is_held es k) = one_if-or (covers k e) (is_held es k) apart in
    omega (arith, more, held, count_by-held (e.first + e.blocks) to k es laid.2)

ends_inside : (from to : ℕ) (es : List Extent) → IsLaid from to es → (i : ℕ) (d : Extent) → i < length es → (get_or es i d).first + (get_or es i d).blocks ≤ to
ends_inside from to [] laid i d within = absurd (omega arith)
ends_inside from to (e ∷ es) laid zero d within = laid_within (e.first + e.blocks) to es laid.2
ends_inside from to (e ∷ es) laid (suc i) d within = ends_inside (e.first + e.blocks) to es laid.2 i d (omega arith)

pub partition_of : (held : List Extent) (area : ℕ) → IsLaid 0 area held → IsPartition (record { blocks = area; held = held })
partition_of held area laid = record {
  once = λ block below. omega (arith, count_by-held 0 area block held laid, ap one_if (free_is_not_held held area block below), one_if-not (is_held held block));
  inside = ends_inside 0 area held laid;
  nonempty = λ i d within. some_blocks 0 area i d held laid within;
  total = ap (λ n. free_count (record { blocks = area; held = held }) + n) (blocks_in_is held) ∙ free_count_is held area laid;
}

-- the blocks from a place on
pub blocks_from : (es : List Extent) (i : ℕ) (d : Extent) → i < length es → blocks_in (drop i es) ≡ (get_or es i d).blocks + blocks_in (drop (i + 1) es)
blocks_from es i d within = ap blocks_in (drop_more es i d within)

pub blocks_past : (es : List Extent) (i : ℕ) → length es ≤ i → blocks_in (drop i es) ≡ 0
blocks_past es i past = ap blocks_in (drop_all i es past)
