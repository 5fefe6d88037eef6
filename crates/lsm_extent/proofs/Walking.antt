-- Walks along extents that are one after the other, and the free blocks between them.
use Rattle.std.proofs.Common.{ℕ, zero, suc, ◌+◌, ◌-◌, ◌<◌, ◌≤◌, true, false, not, ◌||◌, leb, ltb, ◌≡◌, List, [], ◌∷◌, ◌++◌, length, take, drop, get_or, refl, sym, ◌∙◌, ap, subst, arith, inl, inr}
use Rattle.std.proofs.lemmas.Bool.{ltb-true, lt-ltb, le-leb, lt-leb, le-ltb, and_parts, and_from, and_left, and_right, or_from, not_from_false, not-true, cases_lt, both_ways}
use Rattle.std.proofs.lemmas.List.{drop_more, take_more, drop_all, take-append-drop}
use Rattle.std.proofs.lemmas.List.Folds.{list_any-append, list_any_at}
use Rattle.lsm_extent.specs.declared.extent.Extent.{Extent}
use Rattle.lsm_extent.specs.Area.{Area, covers, is_held, is_free, IsFreeRun}
use Rattle.lsm_extent.specs.Laid.{IsLaid, IsGap}

pub laid_within : (from to : ℕ) (es : List Extent) → IsLaid from to es → from ≤ to
laid_within from to [] laid = laid
laid_within from to (e ∷ es) laid = omega (arith, laid.0, laid.1, laid_within (e.first + e.blocks) to es laid.2)

pub laid_wider : (low from to high : ℕ) (es : List Extent) → low ≤ from → to ≤ high → IsLaid from to es → IsLaid low high es
laid_wider low from to high [] below above laid = omega (arith, laid)
laid_wider low from to high (e ∷ es) below above laid =
    (omega (arith, laid.0), laid.1, laid_wider (e.first + e.blocks) (e.first + e.blocks) to high es (omega arith) above laid.2)

pub laid_append : (from to high : ℕ) (xs ys : List Extent) → IsLaid from to xs → IsLaid to high ys → IsLaid from high (xs ++ ys)
laid_append from to high [] ys laid rest = laid_wider from to high high ys laid (omega arith) rest
laid_append from to high (x ∷ xs) ys laid rest = (laid.0, laid.1, laid_append (x.first + x.blocks) to high xs ys laid.2 rest)

-- no extent begins before them
pub laid_first : (from to i : ℕ) (d : Extent) (es : List Extent) → IsLaid from to es → i < length es → from ≤ (get_or es i d).first
laid_first from to zero d (e ∷ es) laid within = laid.0
laid_first from to (suc i) d (e ∷ es) laid within = omega (arith, laid.0, laid_first (e.first + e.blocks) to i d es laid.2 (omega arith))
laid_first from to i d [] laid within = absurd (omega arith)

-- each has a block at least
pub some_blocks : (from to i : ℕ) (d : Extent) (es : List Extent) → IsLaid from to es → i < length es → 0 < (get_or es i d).blocks
some_blocks from to i d [] laid within = absurd (omega arith)
some_blocks from to zero d (e ∷ es) laid within = laid.1
some_blocks from to (suc i) d (e ∷ es) laid within = some_blocks (e.first + e.blocks) to i d es laid.2 (omega arith)

-- no extent of those has a block past them
pub not_held_after : (from to k : ℕ) (es : List Extent) → IsLaid from to es → to ≤ k → is_held es k ≡ false
not_held_after from to k [] laid past = refl
not_held_after from to k (e ∷ es) laid past =
    or_from (covers k e) (is_held es k)
    (and_right (leb e.first k) (ltb k (e.first + e.blocks)) (le-ltb k (e.first + e.blocks) (omega (arith, laid_within (e.first + e.blocks) to es laid.2))))
    (not_held_after (e.first + e.blocks) to k es laid.2 past)

-- nor one before them
pub not_held_before : (from to k : ℕ) (es : List Extent) → IsLaid from to es → k < from → is_held es k ≡ false
not_held_before from to k [] laid before = refl
not_held_before from to k (e ∷ es) laid before =
    or_from (covers k e) (is_held es k)
    (and_left (leb e.first k) (ltb k (e.first + e.blocks)) (lt-leb e.first k (omega (arith, laid.0))))
    (not_held_before (e.first + e.blocks) to k es laid.2 (omega (arith, laid.0)))

-- the blocks of a gap are free
pub free_in_gap : (held : List Extent) (area place first blocks : ℕ) → IsGap held area place first blocks → IsFreeRun (record { blocks = area; held = held }) first blocks
free_in_gap held area place first blocks gap = record {
  each = λ k from below.
      let split : is_held held k ≡ (is_held (take place held) k || is_held (drop place held) k) =
      ap (λ (es : List Extent). is_held es k) (sym (take-append-drop place held)) ∙ list_any-append (covers k) (take place held) (drop place held) in
      let outside : is_held held k ≡ false = split ∙ or_from (is_held (take place held) k) (is_held (drop place held) k)
      (not_held_after 0 first k (take place held) gap.before from)
      (not_held_before (first + blocks) area k (drop place held) gap.after below) in
      let inside : k < area = omega (arith, laid_within (first + blocks) area (drop place held) gap.after) in
      and_from (ltb k area) (not (is_held held k)) (lt-ltb k area inside) (not_from_false (is_held held k) outside);
}

pub free_in_area : (area : Area) (first blocks : ℕ) → 0 < blocks → IsFreeRun area first blocks → first + blocks ≤ area.blocks
free_in_area area first blocks nonempty run =
    let last = (first + blocks) - 1 in
    let fact = run.each last (omega arith) (omega arith) in
    omega (arith, ltb-true last area.blocks (and_parts (ltb last area.blocks) (not (is_held area.held last)) fact).0)

-- a block that an extent has is not free
pub not_free_at : (held : List Extent) (area i k : ℕ) (d : Extent) → i < length held → (get_or held i d).first ≤ k → k < (get_or held i d).first + (get_or held i d).blocks
    → is_free (record { blocks = area; held = held }) k ≡ true → ⊥
not_free_at held area i k d within from below free =
    let e = get_or held i d in
    let covered : covers k e ≡ true = and_from (leb e.first k) (ltb k (e.first + e.blocks)) (le-leb e.first k from) (lt-ltb k (e.first + e.blocks) below) in
    both_ways (is_held held k) (not-true (is_held held k) (and_parts (ltb k area) (not (is_held held k)) free).1) (list_any_at (covers k) held i d within covered)

-- a free run that does not end by an extent comes after it
pub comes_after : (held : List Extent) (area i first blocks : ℕ) (d : Extent) → i < length held → 0 < blocks → 0 < (get_or held i d).blocks
    → (get_or held i d).first < first + blocks → IsFreeRun (record { blocks = area; held = held }) first blocks → (get_or held i d).first + (get_or held i d).blocks ≤ first
comes_after held area i first blocks d within nonempty some overlaps run =
    elim (cases_lt first ((get_or held i d).first + (get_or held i d).blocks)) [
      | inl under ↦ elim (cases_lt first (get_or held i d).first) [
        | inl low ↦ absurd (not_free_at held area i (get_or held i d).first d within (omega arith) (omega arith) (run.each (get_or held i d).first (omega arith) overlaps))
        | inr high ↦ absurd (not_free_at held area i first d within high under (run.each first (omega arith) (omega arith)))
      ]
      | inr past ↦ past
    ]

-- A walk along the extents has come to a place, and the ones before it end by `from`.
pub record IsAt (held : List Extent) (area place from : ℕ) : Type 0 where
  pub before : IsLaid 0 from (take place held)
  pub after : IsLaid from area (drop place held)

pub at_start : (held : List Extent) (area : ℕ) → IsLaid 0 area held → IsAt held area 0 0
at_start held area laid = record { before = omega arith; after = laid }

-- what is known of the extent at the place
pub here : (held : List Extent) (area i from : ℕ) (d : Extent) → IsAt held area i from → i < length held
    → (from ≤ (get_or held i d).first) × (0 < (get_or held i d).blocks) × IsLaid ((get_or held i d).first + (get_or held i d).blocks) area (drop (i + 1) held)
here held area i from d at within =
    let P : List Extent → Type 0 = λ es. IsLaid from area es in
    subst P (drop_more held i d within) at.after

pub ends_within : (held : List Extent) (area i from : ℕ) (d : Extent) → IsAt held area i from → i < length held → (get_or held i d).first + (get_or held i d).blocks ≤ area
ends_within held area i from d at within = laid_within _ area (drop (i + 1) held) (here held area i from d at within).2

pub at_next : (held : List Extent) (area i from : ℕ) (d : Extent) → IsAt held area i from → i < length held → IsAt held area (i + 1) ((get_or held i d).first + (get_or held i d).blocks)
at_next held area i from d at within =
    let known = here held area i from d at within in
    let P : List Extent → Type 0 = λ es. IsLaid 0 ((get_or held i d).first + (get_or held i d).blocks) es in
    record {
      before = subst P (sym (take_more held i d within)) (laid_append 0 from ((get_or held i d).first + (get_or held i d).blocks) (take i held) (get_or held i d ∷ []) at.before (known.0, known.1, omega arith));
      after = known.2;
    }

pub at_end : (held : List Extent) (area i from : ℕ) → IsAt held area i from → length held ≤ i → from ≤ area
at_end held area i from at past =
    let P : List Extent → Type 0 = λ es. IsLaid from area es in
    subst P (drop_all i held past) at.after

-- room before the extent at the place
pub gap_here : (held : List Extent) (area i from first blocks : ℕ) (d : Extent) → IsAt held area i from → i < length held → from ≤ first → first + blocks ≤ (get_or held i d).first → IsGap held area i first blocks
gap_here held area i from first blocks d at within past room =
    let known = here held area i from d at within in
    let P : List Extent → Type 0 = λ es. IsLaid (first + blocks) area es in
    let rest : IsLaid (first + blocks) area (get_or held i d ∷ drop (i + 1) held) = (room, known.1, known.2) in
    record {
      within = omega arith;
      before = laid_wider 0 0 from first (take i held) (omega arith) past at.before;
      after = subst P (sym (drop_more held i d within)) rest;
    }

-- room after all extents
pub gap_last : (held : List Extent) (area i from first blocks : ℕ) → IsAt held area i from → i ≡ length held → from ≤ first → first + blocks ≤ area → IsGap held area (length held) first blocks
gap_last held area i from first blocks at all past room =
    let P : List Extent → Type 0 = λ es. IsLaid (first + blocks) area es in
    let Q : ℕ → Type 0 = λ n. IsLaid 0 first (take n held) in
    record {
      within = omega arith;
      before = subst Q all (laid_wider 0 0 from first (take i held) (omega arith) past at.before);
      after = subst P (sym (drop_all (length held) held (omega arith))) room;
    }
