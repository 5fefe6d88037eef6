-- The test of tables that lie within a device.
use Rattle.std.proofs.Common.{◌≡◌, ◌↔◌, ℕ, Bool, true, false, ◌&&◌, List, [], ◌∷◌, ◌++◌, IsTrue, Decides, refl, ap, sym, ◌∙◌}
use Rattle.std.specs.List.{list_all}
use Rattle.std.proofs.lemmas.Bool.Decides.{Decides-like}
use Rattle.lsm_codec.proofs.Limits.{at_most-Decides, each-Decides}
use Rattle.lsm_levels.specs.Tables.{Table}
use Rattle.lsm_levels.specs.Stored.{LiesWithin, AreWithin, is_within}

pub within-Decides : (size area : ℕ) (t : Table) → Decides (is_within size area t) (LiesWithin size area t)
within-Decides size area t = Decides-like (is_within size area t) (λ h. record { ends = h }) (λ h. h.ends) (at_most-Decides _ _)

runs-Decides : (size area : ℕ) (runs : List (List Table)) → Decides (list_all (list_all (is_within size area)) runs) (AreWithin size area runs)
runs-Decides size area runs = each-Decides _ _ (each-Decides _ _ (within-Decides size area)) runs

and_assoc : (a b c : Bool) → ((a && b) && c) ≡ (a && (b && c))
and_assoc true b c = refl
and_assoc false b c = refl

all_both : {X : Type 0} (test : X → Bool) (xs ys : List X) → list_all test (xs ++ ys) ≡ (list_all test xs && list_all test ys)
all_both test [] ys = refl
all_both test (x ∷ xs) ys = ap (λ b. test x && b) (all_both test xs ys) ∙ sym (and_assoc (test x) (list_all test xs) (list_all test ys))

-- what is tested of newer runs and of older ones is so of all
pub within_tested : (size area : ℕ) (newer older : List (List Table)) (r : Bool) → r ≡ (list_all (list_all (is_within size area)) newer && list_all (list_all (is_within size area)) older) → IsTrue r ↔ AreWithin size area (newer ++ older)
within_tested size area newer older r e =
    let whole : r ≡ list_all (list_all (is_within size area)) (newer ++ older) = e ∙ sym (all_both (list_all (is_within size area)) newer older) in
    let d = runs-Decides size area (newer ++ older) in
    (λ t. d.0 (sym whole ∙ t), λ all. whole ∙ d.1 all)
