-- What first fit leaves, and that runs with sure room all find a place.
use Rattle.std.proofs.Common.{ℕ, ◌+◌, ◌-◌, ◌<◌, ◌≤◌, true, false, not, ltb, ◌≡◌, List, [], ◌∷◌, refl, sym, subst, arith, inl, inr}
use Rattle.std.specs.Prelude.{sum}
use Rattle.std.specs.List.{AllByRecursion}
use Rattle.std.proofs.lemmas.Bool.{ltb-true, lt-ltb, le-ltb, and_parts, and_from, or_parts, or_from, not_from_false, not-true, cases_lt, cond-true, cond-false}
use Rattle.std.proofs.lemmas.List.Sums.{sum_by-cons}
use Rattle.lsm_extent.specs.declared.extent.Extent.{Extent}
use Rattle.lsm_extent.specs.Area.{covers, is_held, IsLowestFit, with_extent}
use Rattle.lsm_extent.specs.Laid.{IsLaid}
use Rattle.lsm_extent.specs.Gaps.{gaps_between, starts, FindRoom, SurelyFit, has_sure_room}
use Rattle.lsm_extent.proofs.Walking.{laid_within, not_held_before, free_in_area}
use Rattle.lsm_extent.proofs.Counting.{covers_inside, covers_after}

-- no block of the run is in one of the extents
pub record IsUnheld (first blocks : ℕ) (es : List Extent) : Type 0 where
  pub each : (k : ℕ) → first ≤ k → k < first + blocks → is_held es k ≡ false

-- The lowest fit among extents that are between two blocks, and what is left once it is taken.
pub record IsFirstFit (from to blocks : ℕ) (es : List Extent) (first : ℕ) : Type 0 where
  pub low : from ≤ first
  pub inside : first + blocks ≤ to
  pub unheld : IsUnheld first blocks es
  pub lowest : (other : ℕ) → from ≤ other → other + blocks ≤ to → IsUnheld other blocks es → first ≤ other
  pub laid : IsLaid from to (with_extent (record { first = first; blocks = blocks }) es)
  pub left : (n : ℕ) → starts n (gaps_between from to es) ≤ starts n (gaps_between from to (with_extent (record { first = first; blocks = blocks }) es)) + blocks

abbrev run : ℕ → ℕ → Extent
run first blocks = record { first = first; blocks = blocks }

-- a run that no extent holds does not end after the first block of one without beginning after it
passes : (other blocks : ℕ) (e : Extent) (es : List Extent) → 0 < blocks → 0 < e.blocks → e.first < other + blocks → IsUnheld other blocks (e ∷ es) → e.first + e.blocks ≤ other
passes other blocks e es nonempty some reach unheld = elim (cases_lt other (e.first + e.blocks)) [
  | inl under ↦ elim (cases_lt other e.first) [
    | inl low ↦ absurd (clash e.first (omega arith) (omega arith) (unheld.each e.first (omega arith) (omega arith)))
    | inr high ↦ absurd (clash other high under (unheld.each other (omega arith) (omega arith)))
  ]
  | inr past ↦ past
]
  where
    clash : (k : ℕ) → e.first ≤ k → k < e.first + e.blocks → is_held (e ∷ es) k ≡ false → ⊥
    clash k from below free = (let covered : covers k e ≡ true = covers_inside k e from below in cc)

fit_here : (from to blocks : ℕ) (e : Extent) (es : List Extent) → IsLaid from to (e ∷ es) → 0 < blocks → from + blocks ≤ e.first → IsFirstFit from to blocks (e ∷ es) from
fit_here from to blocks e es laid nonempty fits =
    let with_it : with_extent (run from blocks) (e ∷ es) ≡ run from blocks ∷ e ∷ es =
    cond-true (ltb from e.first) (run from blocks ∷ e ∷ es) (e ∷ with_extent (run from blocks) es) (lt-ltb from e.first (omega arith)) in
    let behind : IsLaid e.first to (e ∷ es) = (omega arith, laid.1, laid.2) in
    let taken : IsLaid from to (run from blocks ∷ e ∷ es) = (omega arith, nonempty, (fits, laid.1, laid.2)) in
    let L : List Extent → Type 0 = λ xs. IsLaid from to xs in
    let S : ℕ → List Extent → Type 0 = λ n xs. starts n (gaps_between from to (e ∷ es)) ≤ starts n (gaps_between from to xs) + blocks in
    record {
      low = omega arith;
      inside = omega (arith, laid_within e.first to (e ∷ es) behind);
      unheld = record { each = λ k low below. not_held_before e.first to k (e ∷ es) behind (omega arith) };
      lowest = λ other low inside unheld. low;
      laid = subst L (sym with_it) taken;
      left = λ n. subst (S n) (sym with_it) (omega arith);
    }

fit_later : (from to blocks first : ℕ) (e : Extent) (es : List Extent) → IsLaid from to (e ∷ es) → 0 < blocks → e.first < from + blocks → IsFirstFit (e.first + e.blocks) to blocks es first
    → IsFirstFit from to blocks (e ∷ es) first
fit_later from to blocks first e es laid nonempty short fit =
    let with_it : with_extent (run first blocks) (e ∷ es) ≡ e ∷ with_extent (run first blocks) es =
    cond-false (ltb first e.first) (run first blocks ∷ e ∷ es) (e ∷ with_extent (run first blocks) es) (le-ltb first e.first (omega (arith, fit.low))) in
    let taken : IsLaid from to (e ∷ with_extent (run first blocks) es) = (laid.0, laid.1, fit.laid) in
    let L : List Extent → Type 0 = λ xs. IsLaid from to xs in
    let S : ℕ → List Extent → Type 0 = λ n xs. starts n (gaps_between from to (e ∷ es)) ≤ starts n (gaps_between from to xs) + blocks in
    record {
      low = omega (arith, fit.low, laid.0);
      inside = fit.inside;
      unheld = record { each = λ k low below. or_from (covers k e) (is_held es k) (covers_after k e (omega (arith, fit.low))) (fit.unheld.each k low below) };
      lowest = λ other low inside unheld.
          let past : e.first + e.blocks ≤ other = passes other blocks e es nonempty laid.1 (omega arith) unheld in
          fit.lowest other past inside (record { each = λ k from_on below. (or_parts (covers k e) (is_held es k) (unheld.each k from_on below)).1 });
      laid = subst L (sym with_it) taken;
      left = λ n. subst (S n) (sym with_it) (omega (arith, fit.left n));
    }

-- where a gap has `blocks` blocks there is a lowest fit
pub first_fit : (from to blocks : ℕ) (es : List Extent) → IsLaid from to es → 0 < blocks → 0 < starts blocks (gaps_between from to es) → (first : ℕ) × IsFirstFit from to blocks es first
first_fit from to blocks [] laid nonempty room =
    let fit : IsFirstFit from to blocks [] from = record {
      low = omega arith;
      inside = omega arith;
      unheld = record { each = λ k low below. refl };
      lowest = λ other low inside unheld. low;
      laid = (omega arith, nonempty, omega arith);
      left = λ n. omega arith;
    } in
    (from, fit)
first_fit from to blocks (e ∷ es) laid nonempty room = elim (cases_lt e.first (from + blocks)) [
  | inl short ↦
      let rest = first_fit (e.first + e.blocks) to blocks es laid.2 nonempty (omega arith) in
      (rest.0, fit_later from to blocks rest.0 e es laid nonempty short rest.1)
  | inr fits ↦ (from, fit_here from to blocks e es laid nonempty fits)
]

-- it is the lowest of all free runs of the area
lowest_fit : (area blocks first : ℕ) (held : List Extent) → 0 < blocks → IsFirstFit 0 area blocks held first → IsLowestFit (record { blocks = area; held = held }) blocks first
lowest_fit area blocks first held nonempty fit = record {
  fits = record {
    each = λ k low below. and_from (ltb k area) (not (is_held held k)) (lt-ltb k area (omega (arith, fit.inside))) (not_from_false (is_held held k) (fit.unheld.each k low below));
  };
  lowest = λ other free.
      fit.lowest other (omega arith) (free_in_area (record { blocks = area; held = held }) other blocks nonempty free)
      (record { each = λ k low below. not-true (is_held held k) (and_parts (ltb k area) (not (is_held held k)) (free.each k low below)).1 });
}

-- ---- a run that is shorter has more places, by one at least for each block less

shorter : (few many : ℕ) (gaps : List Extent) → few ≤ many → starts many gaps ≤ starts few gaps
shorter few many [] less = omega arith
shorter few many (g ∷ gs) less = omega (arith, shorter few many gs less)

pub each_less : (few many : ℕ) (gaps : List Extent) → few ≤ many → 0 < starts many gaps → starts many gaps + many ≤ starts few gaps + few
each_less few many [] less some = absurd (omega arith)
each_less few many (g ∷ gs) less some = elim (cases_lt g.blocks many) [
  | inl short ↦ omega (arith, each_less few many gs less (omega arith))
  | inr long ↦ omega (arith, shorter few many gs less)
]

-- ---- runs of any sizes, one after the other

-- What is still to be placed leaves room for each size.
pub record LeavesRoom (area total largest : ℕ) (held : List Extent) : Type 0 where
  pub each : (n : ℕ) → 0 < n → n ≤ largest → total < starts n (gaps_between 0 area held) + n

room_after : (area total largest n first : ℕ) (held : List Extent) → IsFirstFit 0 area n held first → n ≤ total → LeavesRoom area total largest held
    → LeavesRoom area (total - n) largest (with_extent (run first n) held)
room_after area total largest n first held fit enough leaves = record { each = λ m least most. omega (arith, leaves.each m least most, fit.left m) }

find_room : (area total largest : ℕ) (held : List Extent) (sizes : List ℕ) → IsLaid 0 area held → LeavesRoom area total largest held
    → AllByRecursion (λ n. (0 < n) × (n ≤ largest)) sizes → sum sizes ≤ total → FindRoom (record { blocks = area; held = held }) sizes
find_room area total largest held [] laid leaves sized few = tt
find_room area total largest held (n ∷ rest) laid leaves sized few =
    let more : sum (n ∷ rest) ≡ n + sum rest = sum_by-cons (λ (m : ℕ). m) n rest in
    let some : 0 < starts n (gaps_between 0 area held) = omega (arith, leaves.each n sized.0.0 sized.0.1) in
    let found = first_fit 0 area n held laid sized.0.0 some in
    let then = room_after area total largest n found.0 held found.1 (omega arith) leaves in (
      found.0,
      lowest_fit area n found.0 held sized.0.0 found.1,
      find_room area (total - n) largest (with_extent (run found.0 n) held) rest found.1.laid then sized.1 (omega arith),
    )

pub surely_fit : (held : List Extent) (area : ℕ) → IsLaid 0 area held → (total largest : ℕ) → has_sure_room (record { blocks = area; held = held }) total largest ≡ true
    → SurelyFit (record { blocks = area; held = held }) total largest
surely_fit held area laid total largest sure =
    let room = and_parts (ltb 0 (starts largest (gaps_between 0 area held))) (ltb total (starts largest (gaps_between 0 area held) + largest)) sure in
    let some : 0 < starts largest (gaps_between 0 area held) = ltb-true _ _ room.0 in
    let all : total < starts largest (gaps_between 0 area held) + largest = ltb-true _ _ room.1 in
    record {
      find = λ sizes sized few.
          find_room area total largest held sizes laid (record { each = λ n least most. omega (arith, each_less n largest (gaps_between 0 area held) most some) }) sized few;
    }
