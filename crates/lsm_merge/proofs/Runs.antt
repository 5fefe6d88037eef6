-- Runs, one or many.
use Rattle.std.proofs.Common.{◌≡◌, ℕ, zero, suc, ◌<◌, ◌≤◌, List, [], ◌∷◌, length, get_or, take, drop, refl, ap, sym, arith}
use Rattle.std.specs.declared.vec.Vec.{Vec}
use Rattle.lsm_codec.specs.Versions.{Version, AreOrdered}
use Rattle.lsm_merge.specs.Inputs.{AreRuns, items_of}

front_of : (n : ℕ) (runs : List (List Version)) → AreRuns runs → AreRuns (take n runs)
front_of zero runs all = _
front_of (suc n) [] all = _
front_of (suc n) (run ∷ runs) all = (all.0, front_of n runs all.1)

back_of : (n : ℕ) (runs : List (List Version)) → AreRuns runs → AreRuns (drop n runs)
back_of zero runs all = all
back_of (suc n) [] all = _
back_of (suc n) (run ∷ runs) all = back_of n runs all.1

pub take-items_of : {X Z : Type 0} (n : ℕ) (vectors : List (Vec X Z)) → items_of (take n vectors) ≡ take n (items_of vectors)
take-items_of zero vectors = refl
take-items_of (suc n) [] = refl
take-items_of (suc n) (v ∷ vectors) = ap (λ l. v.items ∷ l) (take-items_of n vectors)

pub drop-items_of : {X Z : Type 0} (n : ℕ) (vectors : List (Vec X Z)) → items_of (drop n vectors) ≡ drop n (items_of vectors)
drop-items_of zero vectors = refl
drop-items_of (suc n) [] = refl
drop-items_of (suc n) (v ∷ vectors) = drop-items_of n vectors

pub front_runs : {Z : Type 0} (n : ℕ) (vectors front : List (Vec Version Z)) → front ≡ take n vectors → AreRuns (items_of vectors) → AreRuns (items_of front)
front_runs n vectors front is all = rw (is, take-items_of n vectors) (front_of n (items_of vectors) all)

pub back_runs : {Z : Type 0} (n : ℕ) (vectors back : List (Vec Version Z)) → back ≡ drop n vectors → AreRuns (items_of vectors) → AreRuns (items_of back)
back_runs n vectors back is all = rw (is, drop-items_of n vectors) (back_of n (items_of vectors) all)

-- a list of one vector
pub one_vector : {Z : Type 0} (vectors : List (Vec Version Z)) (v : Vec Version Z) → 1 ≤ length vectors → length vectors < 2 → v ≡ get_or vectors 0 v → items_of vectors ≡ v.items ∷ []
one_vector [] v h l e = absurd (omega arith)
one_vector (r ∷ []) v h l e = ap (λ x. x.items ∷ []) (sym e)
one_vector (r ∷ s ∷ rest) v h l e = absurd (omega arith)

pub only_run : (runs : List (List Version)) (run : List Version) → runs ≡ run ∷ [] → AreRuns runs → AreOrdered run
only_run runs run is all = (rw is at all).0

pub first_run : {Z : Type 0} (vectors : List (Vec Version Z)) (v : Vec Version Z) (rest : List (Vec Version Z)) → vectors ≡ v ∷ rest → AreRuns (items_of vectors) → AreOrdered v.items
first_run vectors v rest is all = (rw is at all).0
