-- Runs, as a test.
use Rattle.std.proofs.Common.{◌≡◌, ℕ, zero, suc, ◌+◌, ◌-◌, ◌<◌, ◌≤◌, Bool, true, false, ◌&&◌, List, [], ◌∷◌, length, take, drop, get_or, refl, sym, ap, ◌∙◌, arith, drop-cons, take_all, length-drop}
use Rattle.std.specs.List.{AllByRecursion}
use Rattle.lsm_levels.specs.Tables.{Table, at_most, is_below, is_before_first, is_run, IsRun}
use Rattle.lsm_levels.proofs.KeyOrder.{below_then, below_at_most, at_most_trans}
use Rattle.lsm_levels.proofs.Ranges.{no}

both : (a b : Bool) → (a && b) ≡ true → (a ≡ true) × (b ≡ true)
both true b h = (refl, h)
both false b h = absurd cc

all_true : (a b : Bool) → a ≡ true → b ≡ true → (a && b) ≡ true
all_true true b e h = h
all_true false b e h = absurd cc

-- before the first of a run, and so before all
before_all : (t : Table) (rest : List Table) → is_before_first t rest ≡ true → IsRun rest → AllByRecursion (λ u. is_below t.last u.first ≡ true) rest
before_all t [] h r = tt
before_all t (u ∷ rest) h r = (h, further rest r.1)
  where
    further : (ys : List Table) → AllByRecursion (λ y. is_below u.last y.first ≡ true) ys → AllByRecursion (λ y. is_below t.last y.first ≡ true) ys
    further [] k = tt
    further (y ∷ ys) k = (below_then t.last u.first y.first h (at_most_before u y r.0 k.0), further ys k.1)
      where
        at_most_before : (a b : Table) → at_most a.first a.last ≡ true → is_below a.last b.first ≡ true → at_most a.first b.first ≡ true
        at_most_before a b e f = at_most_trans a.first a.last b.first e (below_at_most a.last b.first f)

pub run_tested : (tables : List Table) → is_run tables ≡ true → IsRun tables
run_tested [] h = tt
run_tested (t ∷ rest) h =
    let first = both (at_most t.first t.last) (is_before_first t rest && is_run rest) h in
    let then = both (is_before_first t rest) (is_run rest) first.1 in
    let more = run_tested rest then.1 in
    (first.0, before_all t rest then.0 more, more)

pub tested_run : (tables : List Table) → IsRun tables → is_run tables ≡ true
tested_run [] r = refl
tested_run (t ∷ rest) r = all_true (at_most t.first t.last) (is_before_first t rest && is_run rest) r.0 (all_true (is_before_first t rest) (is_run rest) (first rest r.1) (tested_run rest r.2))
  where
    first : (us : List Table) → AllByRecursion (λ u. is_below t.last u.first ≡ true) us → is_before_first t us ≡ true
    first [] k = refl
    first (u ∷ us) k = k.0

-- from one table on
pub run_step : (t : Table) (rest : List Table) (b : Bool) → b ≡ (at_most t.first t.last && is_before_first t rest) → b ≡ true → is_run rest ≡ is_run (t ∷ rest)
run_step t rest b e h =
    let parts = both (at_most t.first t.last) (is_before_first t rest) (sym e ∙ h) in
    sym (ap (λ x. x && (is_before_first t rest && is_run rest)) parts.0 ∙ ap (λ x. x && is_run rest) parts.1)

pub run_fails : (t : Table) (rest : List Table) (b : Bool) → b ≡ (at_most t.first t.last && is_before_first t rest) → b ≡ false → is_run (t ∷ rest) ≡ false
run_fails t rest b e h = by (at_most t.first t.last) (is_before_first t rest) (sym e ∙ h)
  where
    by : (x y : Bool) → (x && y) ≡ false → (x && (y && is_run rest)) ≡ false
    by true true k = absurd cc
    by true false k = refl
    by false y k = refl

-- the rest after an index, as a slice
pub all_behind : {X : Type 0} (xs : List X) (i : ℕ) → take (length xs - (i + 1)) (drop (i + 1) xs) ≡ drop (suc i) xs
all_behind xs i =
    let next : i + 1 ≡ suc i = omega arith in
    take_all (length xs - (i + 1)) (drop (i + 1) xs) (omega (arith, length-drop (i + 1) xs)) ∙ ap (λ (n : ℕ). drop n xs) next

module _ (tables : List Table) (i : ℕ) (so_far : is_run (drop i tables) ≡ is_run tables) where
  -- a table that doesn't stand before the others
  pub run_refused : (t : Table) (b : Bool) → i < length tables → t ≡ get_or tables i t → b ≡ (at_most t.first t.last && is_before_first t (take (length tables - (i + 1)) (drop (i + 1) tables))) → b ≡ false → IsRun tables → ⊥
  run_refused t b inside at e h r =
      let parts : drop i tables ≡ t ∷ drop (suc i) tables = drop-cons tables i t inside ∙ ap (λ (x : Table). x ∷ drop (suc i) tables) (sym at) in
      let same : b ≡ (at_most t.first t.last && is_before_first t (drop (suc i) tables)) = e ∙ ap (λ ts. at_most t.first t.last && is_before_first t ts) (all_behind tables i) in
      no (sym (tested_run tables r) ∙ sym so_far ∙ ap is_run parts ∙ run_fails t (drop (suc i) tables) b same h)

  -- after the last one
  pub run_ended : length tables ≤ i → IsRun tables
  run_ended le = run_tested tables (sym so_far ∙ ap is_run (none tables i le))
    where
      none : (ts : List Table) (n : ℕ) → length ts ≤ n → drop n ts ≡ []
      none [] zero h = refl
      none [] (suc n) h = refl
      none (t ∷ ts) zero h = absurd (omega (arith, h))
      none (t ∷ ts) (suc n) h = none ts n (omega (arith, h))
