-- Walks along the gaps of a data area.
use Rattle.std.proofs.Common.{ℕ, ◌+◌, ◌-◌, ◌<◌, ◌≤◌, ◌≡◌, zero, suc, List, [], ◌∷◌, Some, None, max, length, take, drop, get_or, refl, ap, subst, arith, inl, inr}
use Rattle.std.specs.Prelude.{slice_get}
use Rattle.std.proofs.lemmas.Bool.{cases_lt}
use Rattle.std.proofs.lemmas.List.{drop_more, drop_all}
use Rattle.lsm_extent.specs.declared.extent.Extent.{Extent}
use Rattle.lsm_extent.specs.Area.{IsFreeRun}
use Rattle.lsm_extent.specs.Laid.{IsLaid, end_of, start_of}
use Rattle.lsm_extent.specs.Gaps.{gaps_between, starts, IsLongestGap}
use Rattle.lsm_extent.proofs.Walking.{IsAt, at_end, here, gap_here, gap_last, free_in_gap, free_in_area, comes_after}
use Rattle.lsm_extent.proofs.Searching.{laid_split}

starts_after : (from to : ℕ) (es : List Extent) → IsLaid from to es → from ≤ start_of to es
starts_after from to [] laid = laid
starts_after from to (e ∷ es) laid = laid.0

-- a gap does not end before it begins
pub gap_order : (held : List Extent) (area place : ℕ) → IsLaid 0 area held → end_of 0 (take place held) ≤ start_of area (drop place held)
gap_order held area place laid = starts_after (end_of 0 (take place held)) area (drop place held) (laid_split 0 area place held laid).1

-- the gap at a place
pub gap_is : (from area place : ℕ) (held : List Extent) → place ≤ length held
    → slice_get (gaps_between from area held) place ≡ Some (record { first = end_of from (take place held); blocks = start_of area (drop place held) - end_of from (take place held) })
gap_is from area zero [] within = refl
gap_is from area (suc place) [] within = absurd (omega arith)
gap_is from area zero (e ∷ es) within = refl
gap_is from area (suc place) (e ∷ es) within = gap_is (e.first + e.blocks) area place es (omega arith)

-- no gap comes after the last one
pub no_gap : (from area place : ℕ) (held : List Extent) → length held < place → slice_get (gaps_between from area held) place ≡ None
no_gap from area zero held past = absurd (omega arith)
no_gap from area (suc place) [] past = refl
no_gap from area (suc place) (e ∷ es) past = no_gap (e.first + e.blocks) area place es (omega arith)

-- one more than extents, which are no more than the blocks
pub count_is : (from to : ℕ) (es : List Extent) → length (gaps_between from to es) ≡ length es + 1
count_is from to [] = refl
count_is from to (e ∷ es) = omega (arith, count_is (e.first + e.blocks) to es)

pub fewer_than_blocks : (from to : ℕ) (es : List Extent) → IsLaid from to es → from + length es ≤ to
fewer_than_blocks from to [] laid = omega (arith, laid)
fewer_than_blocks from to (e ∷ es) laid = omega (arith, laid.0, laid.1, fewer_than_blocks (e.first + e.blocks) to es laid.2)

-- runs begin at the area's blocks, or at its end where they have none
pub starts_within : (from to blocks : ℕ) (es : List Extent) → IsLaid from to es → from + starts blocks (gaps_between from to es) ≤ to + 1
starts_within from to blocks [] laid = omega arith
starts_within from to blocks (e ∷ es) laid = omega (arith, laid.0, laid.1, starts_within (e.first + e.blocks) to blocks es laid.2)

-- the gap in front of an extent is counted
pub starts_here : (held : List Extent) (area from blocks i : ℕ) (d : Extent) → i < length held
    → starts blocks (gaps_between from area (drop i held))
    ≡ (((((get_or held i d).first - from) + 1) - blocks) + starts blocks (gaps_between ((get_or held i d).first + (get_or held i d).blocks) area (drop (i + 1) held)))
starts_here held area from blocks i d within = ap (λ (es : List Extent). starts blocks (gaps_between from area es)) (drop_more held i d within)

-- and the one after the last
pub starts_last : (held : List Extent) (area from blocks i : ℕ) → length held ≤ i → starts blocks (gaps_between from area (drop i held)) ≡ ((area - from) + 1) - blocks
starts_last held area from blocks i past =
    let all : starts blocks (gaps_between from area (drop i held)) ≡ starts blocks (gaps_between from area []) = ap (λ (es : List Extent). starts blocks (gaps_between from area es)) (drop_all i held past) in
    omega (arith, all)

-- The gaps before a place have at most `longest` blocks each, and one has as many.
pub record IsLongestBefore (held : List Extent) (area from longest : ℕ) : Type 0 where
  pub fits : 0 < longest → (first : ℕ) × IsFreeRun (record { blocks = area; held = held }) first longest
  pub passed : (first : ℕ) → IsFreeRun (record { blocks = area; held = held }) first (longest + 1) → from ≤ first

fewer : (held : List Extent) (area first few many : ℕ) → few ≤ many → IsFreeRun (record { blocks = area; held = held }) first many → IsFreeRun (record { blocks = area; held = held }) first few
fewer held area first few many less run = record { each = λ k low below. run.each k low (omega arith) }

pub longest_here : (held : List Extent) (area i from longest then : ℕ) (d : Extent) → IsAt held area i from → i < length held → IsLongestBefore held area from longest
    → then ≡ max longest ((get_or held i d).first - from) → IsLongestBefore held area ((get_or held i d).first + (get_or held i d).blocks) then
longest_here held area i from longest then d at within before is =
    let known = here held area i from d at within in
    record {
      fits = λ some. elim (cases_lt longest ((get_or held i d).first - from)) [
        | inr old ↦
            let same : longest ≡ then = omega arith in
            subst (λ (n : ℕ). (first : ℕ) × IsFreeRun (record { blocks = area; held = held }) first n) same (before.fits (omega arith))
        | inl new ↦ (from, free_in_gap held area i from then (gap_here held area i from from then d at within (omega arith) (omega (arith, known.0))))
      ];
      passed = λ first run.
          let past : from ≤ first = before.passed first (fewer held area first (longest + 1) (then + 1) (omega arith) run) in
          comes_after held area i first (then + 1) d within (omega arith) known.1 (omega arith) run;
    }

pub longest_last : (held : List Extent) (area i from longest then : ℕ) → IsAt held area i from → i ≡ length held → IsLongestBefore held area from longest
    → then ≡ max longest (area - from) → IsLongestGap (record { blocks = area; held = held }) then
longest_last held area i from longest then at all before is =
    let end : from ≤ area = at_end held area i from at (omega arith) in
    record {
      fits = λ some. elim (cases_lt longest (area - from)) [
        | inr old ↦
            let same : longest ≡ then = omega arith in
            subst (λ (n : ℕ). (first : ℕ) × IsFreeRun (record { blocks = area; held = held }) first n) same (before.fits (omega arith))
        | inl new ↦ (from, free_in_gap held area (length held) from then (gap_last held area i from from then at all (omega arith) (omega arith)))
      ];
      longest = record {
        none = λ first run.
            let past : from ≤ first = before.passed first (fewer held area first (longest + 1) (then + 1) (omega arith) run) in
            omega (arith, free_in_area (record { blocks = area; held = held }) first (then + 1) (omega arith) run);
      };
    }
