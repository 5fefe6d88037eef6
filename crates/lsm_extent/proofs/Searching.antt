-- A place among extents that is found by the first blocks of these.
use Rattle.std.proofs.Common.{ℕ, ◌+◌, ◌-◌, ◌<◌, ◌≤◌, zero, suc, true, false, ltb, ◌≡◌, Some, List, [], ◌∷◌, length, take, drop, get_or, Contains, refl, sym, ◌∙◌, ap, subst, arith, inl, inr}
use Rattle.std.specs.Prelude.{slice_get}
use Rattle.std.specs.List.Sorted.{IsNonDecreasingBy, IsPartitionPoint}
use Rattle.std.proofs.lemmas.Bool.{cases_lt, ltb-true, ltb-false}
use Rattle.std.proofs.lemmas.List.{drop_more, drop_all}
use Rattle.lsm_extent.specs.declared.extent.Extent.{Extent}
use Rattle.lsm_extent.specs.Area.{IsFreeRun}
use Rattle.lsm_extent.specs.Laid.{IsLaid, IsGap, end_of, start_of}
use Rattle.lsm_extent.proofs.Walking.{laid_within, laid_wider, laid_first, some_blocks, free_in_area, not_free_at}

laid_order : (from to i j : ℕ) (d : Extent) (es : List Extent) → IsLaid from to es → i < j → j < length es → (get_or es i d).first < (get_or es j d).first
laid_order from to i j d [] laid below within = absurd (omega arith)
laid_order from to i zero d (e ∷ es) laid below within = absurd (omega arith)
laid_order from to zero (suc j) d (e ∷ es) laid below within = omega (arith, laid.1, laid_first (e.first + e.blocks) to j d es laid.2 (omega arith))
laid_order from to (suc i) (suc j) d (e ∷ es) laid below within = laid_order (e.first + e.blocks) to i j d es laid.2 (omega arith) (omega arith)

-- the first blocks of extents rise
pub firsts_rise : (from to : ℕ) (es : List Extent) → IsLaid from to es → IsNonDecreasingBy (λ e. e.first) es
firsts_rise from to es laid i j d below within = elim (cases_lt i j) [
  | inl before ↦ lt_le (laid_order from to i j d es laid before within)
  | inr behind ↦
      let same : i ≡ j = omega arith in
      same_le (ap (λ (k : ℕ). (get_or es k d).first) same)
]
  where
    lt_le : {m n : ℕ} → m < n → m ≤ n
    lt_le below = omega (arith, below)

    same_le : {m n : ℕ} → m ≡ n → m ≤ n
    same_le same = omega (arith, same)

-- extents that a test of their first blocks splits
pub split_from_test : (block place : ℕ) (es : List Extent) → IsPartitionPoint (λ x. ltb x.first block ≡ true) (λ x. ltb x.first block ≡ false) es place
    → IsPartitionPoint (λ x. x.first < block) (λ x. block ≤ x.first) es place
split_from_test block place es split = (λ k d from below. ltb-true _ _ (split.0 k d from below), λ k d from below. ltb-false _ _ (split.1 k d from below))

-- an extent is after those that begin before it, and before all others
pub found : (area place : ℕ) (e : Extent) (held : List Extent) → IsLaid 0 area held → Contains held e → IsPartitionPoint (λ x. x.first < e.first) (λ x. e.first ≤ x.first) held place
    → (place < length held) × (get_or held place e ≡ e)
found area place e held laid among split =
    let i : ℕ = among.0 in
    let here : (get_or held i e).first ≡ e.first = ap (λ (x : Extent). x.first) among.2 in
    let same : i ≡ place = elim (cases_lt i place) [
      | inl before ↦ absurd (omega (arith, here, split.0 i e (omega arith) before))
      | inr behind ↦ elim (cases_lt place i) [
        | inl later ↦ absurd (omega (arith, here, split.1 place e (omega arith) (omega (arith, among.1)), laid_order 0 area place i e held laid later among.1))
        | inr equal ↦ omega arith
      ]
    ] in
    (subst (λ (k : ℕ). k < length held) same among.1, subst (λ (k : ℕ). get_or held k e ≡ e) same among.2)

-- the end of the last of some extents
pub end_of-last : (from k : ℕ) (d : Extent) (es : List Extent) → k < length es → end_of from (take (suc k) es) ≡ (get_or es k d).first + (get_or es k d).blocks
end_of-last from k d [] within = absurd (omega arith)
end_of-last from zero d (e ∷ es) within = refl
end_of-last from (suc k) d (e ∷ es) within = end_of-last (e.first + e.blocks) k d es (omega arith)

pub end_of-got : (from : ℕ) (e : Extent) (es : List Extent) → slice_get es (length es - 1) ≡ Some e → end_of from es ≡ e.first + e.blocks
end_of-got from e [] last = cc
end_of-got from e (x ∷ []) last = cc
end_of-got from e (x ∷ y ∷ ys) last = end_of-got (x.first + x.blocks) e (y ∷ ys) (ap (slice_get (y ∷ ys)) (one_less (length ys)) ∙ ap (slice_get (x ∷ y ∷ ys)) (sym (one_less (suc (length ys)))) ∙ last)
  where
    one_less : (n : ℕ) → suc n - 1 ≡ n
    one_less n = omega arith

-- extents in front of a place, and those from there on
pub laid_split : (from to place : ℕ) (es : List Extent) → IsLaid from to es
    → IsLaid from (end_of from (take place es)) (take place es) × IsLaid (end_of from (take place es)) to (drop place es)
laid_split from to zero es laid = (omega arith, laid)
laid_split from to (suc place) [] laid = (omega arith, laid)
laid_split from to (suc place) (e ∷ es) laid =
    let rest = laid_split (e.first + e.blocks) to place es laid.2 in
    ((laid.0, laid.1, rest.0), rest.1)

laid_lower : (from low to : ℕ) (es : List Extent) → IsLaid from to es → low ≤ start_of to es → IsLaid low to es
laid_lower from low to [] laid room = room
laid_lower from low to (e ∷ es) laid room = (room, laid.1, laid.2)

-- those in front end within the area
pub end_within : (area place : ℕ) (held : List Extent) → IsLaid 0 area held → end_of 0 (take place held) ≤ area
end_within area place held laid = laid_within (end_of 0 (take place held)) area (drop place held) (laid_split 0 area place held laid).1

-- room between the extents in front of a place and the next one
pub gap_at : (held : List Extent) (area place first blocks : ℕ) → IsLaid 0 area held → place ≤ length held → end_of 0 (take place held) ≤ first → first + blocks ≤ start_of area (drop place held)
    → IsGap held area place first blocks
gap_at held area place first blocks laid within past room =
    let parts = laid_split 0 area place held laid in
    record {
      within = within;
      before = laid_wider 0 0 (end_of 0 (take place held)) first (take place held) (omega arith) past parts.0;
      after = laid_lower (end_of 0 (take place held)) (first + blocks) area (drop place held) parts.1 room;
    }

-- blocks that begin within an extent are not free
pub none_in_front : (held : List Extent) (area place first blocks : ℕ) (d : Extent) → 0 < blocks → place ≤ length held → first < end_of 0 (take place held)
    → IsPartitionPoint (λ x. x.first < first) (λ x. first ≤ x.first) held place → IsFreeRun (record { blocks = area; held = held }) first blocks → ⊥
none_in_front held area zero first blocks d nonempty within inside split run = absurd (omega arith)
none_in_front held area (suc k) first blocks d nonempty within inside split run =
    not_free_at held area k first d (omega arith) (omega (arith, split.0 k d (omega arith) (omega arith))) (omega (arith, end_of-last 0 k d held (omega arith))) (run.each first (omega arith) (omega arith))

-- nor blocks that go on into one, or beyond the area
pub none_behind : (held : List Extent) (area from place first blocks : ℕ) (d : Extent) → 0 < blocks → IsLaid from area held → start_of area (drop place held) < first + blocks
    → IsPartitionPoint (λ x. x.first < first) (λ x. first ≤ x.first) held place → IsFreeRun (record { blocks = area; held = held }) first blocks → ⊥
none_behind held area from place first blocks d nonempty laid short split run = elim (cases_lt place (length held)) [
  | inl within ↦
      let next : start_of area (drop place held) ≡ (get_or held place d).first = ap (start_of area) (drop_more held place d within) in
      let low : first ≤ (get_or held place d).first = split.1 place d (omega arith) within in
      not_free_at held area place (get_or held place d).first d within (omega arith) (omega (arith, some_blocks from area place d held laid within)) (run.each (get_or held place d).first low (omega (arith, next)))
  | inr past ↦
      let next : start_of area (drop place held) ≡ area = ap (start_of area) (drop_all place held past) in
      omega (arith, next, free_in_area (record { blocks = area; held = held }) first blocks nonempty run)
]
