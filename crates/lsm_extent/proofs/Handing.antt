-- An extent is put among those that are handed out, or taken from them.
use Rattle.std.proofs.Common.{ℕ, ◌+◌, ◌<◌, ◌≤◌, zero, suc, ltb, ◌≡◌, List, [], ◌∷◌, ◌++◌, length, take, drop, get_or, refl, sym, ◌∙◌, ap, subst, arith}
use Rattle.std.specs.Prelude.{◌==◌}
use Rattle.std.specs.List.{insert, remove}
use Rattle.std.proofs.lemmas.Bool.{lt-ltb, le-ltb, eq-eqb, ne_eqb, cond-true, cond-false}
use Rattle.std.proofs.lemmas.List.{take-append-drop}
use Rattle.lsm_extent.specs.declared.extent.Extent.{Extent}
use Rattle.lsm_extent.specs.Area.{with_extent, without_extent}
use Rattle.lsm_extent.specs.Laid.{IsLaid, IsGap}
use Rattle.lsm_extent.proofs.Walking.{laid_within, laid_wider, laid_append, laid_first}

pub laid_with : (held : List Extent) (area place : ℕ) (e : Extent) → 0 < e.blocks → IsGap held area place e.first e.blocks → IsLaid 0 area (insert held place e)
laid_with held area place e nonempty gap =
    laid_append 0 e.first area (take place held) (e ∷ drop place held) gap.before (omega arith, nonempty, gap.after)

with_extent_between : (from area : ℕ) (e : Extent) (xs ys : List Extent) → 0 < e.blocks → IsLaid from e.first xs → IsLaid (e.first + e.blocks) area ys → with_extent e (xs ++ ys) ≡ xs ++ e ∷ ys
with_extent_between from area e [] [] nonempty before after = refl
with_extent_between from area e [] (y ∷ ys) nonempty before after =
    cond-true (ltb e.first y.first) (e ∷ y ∷ ys) (y ∷ with_extent e ys) (lt-ltb e.first y.first (omega (arith, after.0)))
with_extent_between from area e (x ∷ xs) ys nonempty before after =
    cond-false (ltb e.first x.first) (e ∷ x ∷ (xs ++ ys)) (x ∷ with_extent e (xs ++ ys)) (le-ltb e.first x.first (omega (arith, laid_within (x.first + x.blocks) e.first xs before.2)))
    ∙ ap (λ (es : List Extent). x ∷ es) (with_extent_between (x.first + x.blocks) area e xs ys nonempty before.2 after)

-- the extent's place in the order of first blocks is that of its gap
pub with_extent_at : (held : List Extent) (area place : ℕ) (e : Extent) → 0 < e.blocks → IsGap held area place e.first e.blocks → with_extent e held ≡ insert held place e
with_extent_at held area place e nonempty gap =
    ap (with_extent e) (sym (take-append-drop place held)) ∙ with_extent_between 0 area e (take place held) (drop place held) nonempty gap.before gap.after

pub laid_without : (from to i : ℕ) (es : List Extent) → IsLaid from to es → i < length es → IsLaid from to (remove es i)
laid_without from to i [] laid within = absurd (omega arith)
laid_without from to zero (e ∷ es) laid within = laid_wider from (e.first + e.blocks) to to es (omega (arith, laid.0)) (omega arith) laid.2
laid_without from to (suc i) (e ∷ es) laid within = (laid.0, laid.1, laid_without (e.first + e.blocks) to i es laid.2 (omega arith))

pub without_extent_at : (from to i : ℕ) (d e : Extent) (es : List Extent) → IsLaid from to es → i < length es → get_or es i d ≡ e → without_extent e es ≡ remove es i
without_extent_at from to i d e [] laid within is = absurd (omega arith)
without_extent_at from to zero d e (x ∷ xs) laid within is =
    cond-true (x.first == e.first) xs (x ∷ without_extent e xs) (eq-eqb x.first e.first (ap (λ (y : Extent). y.first) is))
without_extent_at from to (suc i) d e (x ∷ xs) laid within is =
    let later : x.first + x.blocks ≤ e.first = subst (λ (y : Extent). x.first + x.blocks ≤ y.first) is (laid_first (x.first + x.blocks) to i d xs laid.2 (omega arith)) in
    cond-false (x.first == e.first) xs (x ∷ without_extent e xs) (ne_eqb x.first e.first (λ same. omega (arith, same, later, laid.1)))
    ∙ ap (λ (es : List Extent). x ∷ es) (without_extent_at (x.first + x.blocks) to i d e xs laid.2 (omega arith) is)
