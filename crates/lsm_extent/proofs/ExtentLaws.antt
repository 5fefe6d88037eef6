-- Laws for callers: what stays handed out, and which blocks become free.
use Rattle.std.proofs.Common.{ℕ, ◌+◌, ◌<◌, ◌≤◌, ◌≢◌, zero, suc, Bool, true, false, not, ◌||◌, leb, ltb, subst, ◌≡◌, List, [], ◌∷◌, length, get_or, Contains, refl, sym, ◌∙◌, ap, arith}
use Rattle.std.specs.Prelude.{◌==◌, sum_by}
use Rattle.std.proofs.lemmas.Bool.{and_from, and_parts, lt-ltb, le-leb, not-true, both_ways, eq-eqb, ne_eqb, cond-true, cond-false, cond_both}
use Rattle.std.proofs.lemmas.List.Folds.{list_any_at}
use Rattle.std.proofs.lemmas.List.Sums.{sum_by-cons}
use Rattle.lsm_extent.specs.declared.extent.Extent.{Extent}
use Rattle.std.specs.List.{remove}
use Rattle.std.specs.List.Sorted.{IsPartitionPoint}
use Rattle.std.proofs.lemmas.Bool.{eqb-true, leb-true, or_from}
use Rattle.lsm_extent.specs.Area.{Area, handed_out, given_back, IsFreeRun, IsPartition, covers, is_held, with_extent, without_extent}
use Rattle.lsm_extent.specs.Laid.{IsLaid}
use Rattle.lsm_extent.specs.Laws.{Frees, ExtentLaws}
use Rattle.lsm_extent.proofs.Walking.{laid_first, not_held_before}
use Rattle.lsm_extent.proofs.Handing.{laid_without, without_extent_at}
use Rattle.lsm_extent.proofs.Searching.{found}
use Rattle.lsm_extent.proofs.Counting.{covers_below, covers_after, free_is_not_held}

pub at_more : (x y : Extent) (es : List Extent) → Contains es x → Contains (y ∷ es) x
at_more x y es has = (suc has.0, omega (arith, has.1), has.2)

-- an extent that is handed out is among those that are
pub contains-with : (e : Extent) (es : List Extent) → Contains (with_extent e es) e
contains-with e [] = (0, omega arith, refl)
contains-with e (x ∷ xs) =
    cond_both (ltb e.first x.first) (e ∷ x ∷ xs) (x ∷ with_extent e xs) (λ (es : List Extent). Contains es e)
    (λ _. (0, omega arith, refl)) (λ _. at_more e x (with_extent e xs) (contains-with e xs))

kept_at : (e x : Extent) (es : List Extent) (k : ℕ) → k < length es → get_or es k x ≡ x → Contains (with_extent e es) x
kept_at e x [] k within is = absurd (omega arith)
kept_at e x (y ∷ ys) zero within is =
    cond_both (ltb e.first y.first) (e ∷ y ∷ ys) (y ∷ with_extent e ys) (λ (es : List Extent). Contains es x)
    (λ _. at_more x e (y ∷ ys) (0, within, is)) (λ _. (0, omega arith, is))
kept_at e x (y ∷ ys) (suc k) within is =
    cond_both (ltb e.first y.first) (e ∷ y ∷ ys) (y ∷ with_extent e ys) (λ (es : List Extent). Contains es x)
    (λ _. at_more x e (y ∷ ys) (suc k, within, is)) (λ _. at_more x y (with_extent e ys) (kept_at e x ys k (omega arith) is))

-- the others stay
pub contains-kept : (e x : Extent) (es : List Extent) → Contains es x → Contains (with_extent e es) x
contains-kept e x es has = kept_at e x es has.0 has.1 has.2

or_swap : (a b c : Bool) → (a || (b || c)) ≡ (b || (a || c))
or_swap true true c = refl
or_swap true false c = refl
or_swap false true c = refl
or_swap false false c = refl

-- its blocks are held, and no others besides
pub is_held-with : (e : Extent) (es : List Extent) (k : ℕ) → is_held (with_extent e es) k ≡ (covers k e || is_held es k)
is_held-with e [] k = refl
is_held-with e (x ∷ xs) k =
    cond_both (ltb e.first x.first) (e ∷ x ∷ xs) (x ∷ with_extent e xs) (λ (es : List Extent). is_held es k ≡ (covers k e || is_held (x ∷ xs) k))
    (λ _. refl) (λ _. ap (λ b. covers k x || b) (is_held-with e xs k) ∙ or_swap (covers k x) (covers k e) (is_held xs k))

pub blocks-with : (e : Extent) (es : List Extent) → sum_by (λ x. x.blocks) (with_extent e es) ≡ e.blocks + sum_by (λ x. x.blocks) es
blocks-with e [] = sum_by-cons (λ (x : Extent). x.blocks) e []
blocks-with e (x ∷ xs) =
    cond_both (ltb e.first x.first) (e ∷ x ∷ xs) (x ∷ with_extent e xs) (λ (es : List Extent). sum_by (λ x. x.blocks) es ≡ e.blocks + sum_by (λ x. x.blocks) (x ∷ xs))
    (λ _. sum_by-cons (λ (x : Extent). x.blocks) e (x ∷ xs))
    (λ _. omega (arith, sum_by-cons (λ (y : Extent). y.blocks) x (with_extent e xs), sum_by-cons (λ (y : Extent). y.blocks) x xs, blocks-with e xs))

-- no extent of those begins where this one does
pub record BeginsNone (e : Extent) (es : List Extent) : Type 0 where
  pub apart : (x : Extent) → Contains es x → x.first ≢ e.first

-- to give back what was just handed out changes nothing
pub without-with : (e : Extent) (es : List Extent) → BeginsNone e es → without_extent e (with_extent e es) ≡ es
without-with e [] none = cond-true (e.first == e.first) [] (e ∷ []) (eq-eqb e.first e.first refl)
without-with e (x ∷ xs) none =
    let head : (x.first == e.first) ≡ false = ne_eqb x.first e.first (none.apart x (0, omega arith, refl)) in
    let rest : BeginsNone e xs = record { apart = λ y has. none.apart y (at_more y x xs has) } in
    cond_both (ltb e.first x.first) (e ∷ x ∷ xs) (x ∷ with_extent e xs) (λ (es : List Extent). without_extent e es ≡ x ∷ xs)
    (λ _. cond-true (e.first == e.first) (x ∷ xs) (e ∷ without_extent e (x ∷ xs)) (eq-eqb e.first e.first refl))
    (λ _. cond-false (x.first == e.first) (with_extent e xs) (x ∷ without_extent e (with_extent e xs)) head ∙ ap (λ (es : List Extent). x ∷ es) (without-with e xs rest))

pub begins_none : (e : Extent) (area : Area) → 0 < e.blocks → IsPartition area → IsFreeRun area e.first e.blocks → BeginsNone e area.held
begins_none e area nonempty partition run = record {
  apart = λ x has same.
      let some : 0 < x.blocks = subst (λ (y : Extent). 0 < y.blocks) has.2 (partition.nonempty has.0 x has.1) in
      let covered : covers e.first x ≡ true = and_from (leb x.first e.first) (ltb e.first (x.first + x.blocks)) (le-leb x.first e.first (omega arith)) (lt-ltb e.first (x.first + x.blocks) (omega arith)) in
      let held : is_held area.held e.first ≡ true = list_any_at (covers e.first) area.held has.0 x has.1 (ap (covers e.first) has.2 ∙ covered) in
      let free = and_parts (ltb e.first area.blocks) (not (is_held area.held e.first)) (run.each e.first (omega arith) (omega arith)) in
      both_ways (is_held area.held e.first) (not-true (is_held area.held e.first) free.1) held;
}

-- to give back an extent that was free changes nothing
pub given_back-handed_out : (e : Extent) (area : Area) → 0 < e.blocks → IsPartition area → IsFreeRun area e.first e.blocks → given_back e (handed_out e area) ≡ area
given_back-handed_out e area nonempty partition run =
    ap (λ (held : List Extent). let left : Area = record { blocks = area.blocks; held = held } in left) (without-with e area.held (begins_none e area nonempty partition run))

pub extent_laws_hold : ExtentLaws
extent_laws_hold = record {
  among = λ e area. contains-with e area.held;
  others = λ e x area has. contains-kept e x area.held has;
  blocks = λ e area k. is_held-with e area.held k;
  back = given_back-handed_out;
}

-- ---- an extent is given back

pub kept_without : (e x : Extent) (es : List Extent) (k : ℕ) → k < length es → get_or es k x ≡ x → x.first ≢ e.first → Contains (without_extent e es) x
kept_without e x [] k within is ne = absurd (omega arith)
kept_without e x (y ∷ ys) zero within is ne =
    cond_both (y.first == e.first) ys (y ∷ without_extent e ys) (λ (es : List Extent). Contains es x)
    (λ t. absurd (ne (ap (λ (z : Extent). z.first) (sym is) ∙ eqb-true y.first e.first t))) (λ _. (0, omega arith, is))
kept_without e x (y ∷ ys) (suc k) within is ne =
    cond_both (y.first == e.first) ys (y ∷ without_extent e ys) (λ (es : List Extent). Contains es x)
    (λ _. (k, omega arith, is)) (λ _. at_more x y (without_extent e ys) (kept_without e x ys k (omega arith) is ne))

held_without : (from to i k : ℕ) (d : Extent) (es : List Extent) → IsLaid from to es → i < length es → is_held es k ≡ (covers k (get_or es i d) || is_held (remove es i) k)
held_without from to i k d [] laid within = absurd (omega arith)
held_without from to zero k d (x ∷ es) laid within = refl
held_without from to (suc i) k d (x ∷ es) laid within =
    ap (λ (b : Bool). covers k x || b) (held_without (x.first + x.blocks) to i k d es laid.2 (omega arith)) ∙ or_swap (covers k x) (covers k (get_or es i d)) (is_held (remove es i) k)

apart_without : (from to i k : ℕ) (d : Extent) (es : List Extent) → IsLaid from to es → i < length es → covers k (get_or es i d) ≡ true → is_held (remove es i) k ≡ false
apart_without from to i k d [] laid within covered = absurd (omega arith)
apart_without from to zero k d (x ∷ es) laid within covered = not_held_before (x.first + x.blocks) to k es laid.2 (covers_below k x covered)
apart_without from to (suc i) k d (x ∷ es) laid within covered =
    let e : Extent = get_or es i d in
    let low : e.first ≤ k = leb-true e.first k (and_parts (leb e.first k) (ltb k (e.first + e.blocks)) covered).0 in
    or_from (covers k x) (is_held (remove es i) k) (covers_after k x (omega (arith, low, laid_first (x.first + x.blocks) to i d es laid.2 (omega arith)))) (apart_without (x.first + x.blocks) to i k d es laid.2 (omega arith) covered)

freed : (c r : Bool) → (c ≡ true → r ≡ false) → not r ≡ (not (c || r) || c)
freed true true apart = absurd (let clash : true ≡ false = apart refl in cc)
freed true false apart = refl
freed false true apart = refl
freed false false apart = refl

frees_at : (area i : ℕ) (d e : Extent) (held : List Extent) → IsLaid 0 area held → i < length held → get_or held i d ≡ e → Frees e (record { blocks = area; held = held }) (record { blocks = area; held = without_extent e held })
frees_at area i d e held laid within is = record {
  blocks = λ k below.
      let left : without_extent e held ≡ remove held i = without_extent_at 0 area i d e held laid within is in
      let split : is_held held k ≡ (covers k e || is_held (without_extent e held) k) =
      held_without 0 area i k d held laid within ∙ ap (λ (x : Extent). covers k x || is_held (remove held i) k) is ∙ ap (λ (es : List Extent). covers k e || is_held es k) (sym left) in
      let apart : covers k e ≡ true → is_held (without_extent e held) k ≡ false =
      λ covered. ap (λ (es : List Extent). is_held es k) left ∙ apart_without 0 area i k d held laid within (ap (covers k) is ∙ covered) in
      free_is_not_held (without_extent e held) area k below ∙ freed (covers k e) (is_held (without_extent e held) k) apart
      ∙ ap (λ (b : Bool). not b || covers k e) (sym split) ∙ ap (λ (b : Bool). b || covers k e) (sym (free_is_not_held held area k below));
  others = λ x has ne. kept_without e x held has.0 has.1 has.2 ne;
}

-- The extent is taken out from this place.
pub record IsTakenOut (area place : ℕ) (e : Extent) (held : List Extent) : Type 0 where
  pub within : place < length held
  pub laid : IsLaid 0 area (remove held place)
  pub given : remove held place ≡ without_extent e held
  pub frees : Frees e (record { blocks = area; held = held }) (record { blocks = area; held = remove held place })

pub taken_out : (area place : ℕ) (e : Extent) (held : List Extent) → IsLaid 0 area held → Contains held e → IsPartitionPoint (λ x. x.first < e.first) (λ x. e.first ≤ x.first) held place
    → IsTakenOut area place e held
taken_out area place e held laid among split =
    let at = found area place e held laid among split in
    let given : without_extent e held ≡ remove held place = without_extent_at 0 area place e e held laid at.0 at.1 in
    record {
      within = at.0;
      laid = laid_without 0 area place held laid at.0;
      given = sym given;
      frees = subst (λ (left : List Extent). Frees e (record { blocks = area; held = held }) (record { blocks = area; held = left })) given (frees_at area place e e held laid at.0 at.1);
    }
