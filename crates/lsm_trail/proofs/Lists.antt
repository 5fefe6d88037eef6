-- Lists, and rows of words.
use Rattle.std.proofs.Common.{◌≡◌, ◌≢◌, ◌⊎◌, ℕ, zero, suc, ◌+◌, ◌<◌, ◌≤◌, List, [], ◌∷◌, ◌++◌, length, set, refl, ap, sym, ◌∙◌, subst, inl, inr, ⊎_elim, arith, append_assoc, eqb, eq-eqb, ne_eqb, get_or-set_other}
use Rattle.std.specs.Prelude.{slice_index}
use mathlib.Core.List.{IsPrefix}
use mathlib.Core.Option.{some, some-ne-none, some-injective}
use lib.ListN.{get_elem?}
use prog.Atomic.{either}
use Rattle.lsm_trail.specs.Rule.{Drafted}

pub prefix_self : {A : Type 0} (xs : List A) → IsPrefix xs xs
prefix_self [] = ([], refl)
prefix_self (x ∷ xs) = (let r = prefix_self xs in r.0, ap (λ ys. x ∷ ys) (prefix_self xs).1)

pub prefix_trans : {A : Type 0} (xs ys zs : List A) → IsPrefix xs ys → IsPrefix ys zs → IsPrefix xs zs
prefix_trans xs ys zs p q = (p.0 ++ q.0, sym (append_assoc xs p.0 q.0) ∙ (ap (λ w. w ++ q.0) p.1 ∙ q.1))

pub prefix_more : {A : Type 0} (xs ys : List A) (e : A) → IsPrefix xs ys → IsPrefix xs (ys ++ e ∷ [])
prefix_more xs ys e p = prefix_trans xs ys (ys ++ e ∷ []) p (e ∷ [], refl)

-- a beginning of a list with one more is a beginning of the list, or all of it
pub prefix_snoc : {A : Type 0} (xs ys : List A) (e : A) → IsPrefix xs (ys ++ e ∷ []) → IsPrefix xs ys ⊎ (xs ≡ ys ++ e ∷ [])
prefix_snoc [] ys e p = inl (ys, refl)
prefix_snoc (x ∷ []) [] e p = inr (cc (p.1))
prefix_snoc (x ∷ x' ∷ xs) [] e p = absurd (cc (p.1))
prefix_snoc (x ∷ xs) (y ∷ ys) e p = ⊎_elim (λ q. inl (q.0, cc (p.1, q.1))) (λ q. inr (cc (p.1, q))) (prefix_snoc xs ys e (p.0, cc (p.1)))

pub at_snoc_at : {A : Type 0} (l : List A) (a b : A) (j : ℕ) → get_elem? (l ++ a ∷ []) j ≡ some b → ((j < length l) × (get_elem? l j ≡ some b)) ⊎ ((j ≡ length l) × (a ≡ b))
at_snoc_at [] a b zero e = inr (refl, some-injective a b e)
at_snoc_at [] a b (suc j) e = absurd (some-ne-none b (sym e))
at_snoc_at (x ∷ xs) a b zero e = inl (omega arith, e)
at_snoc_at (x ∷ xs) a b (suc j) e = ⊎_elim (λ t. let n = t.0 in inl (omega arith, t.1)) (λ t. let n = t.0 in inr (omega arith, t.1)) (at_snoc_at xs a b j e)

pub at_inside : {A : Type 0} (l : List A) (a : A) (j : ℕ) → get_elem? l j ≡ some a → j < length l
at_inside [] a j e = absurd (some-ne-none a (sym e))
at_inside (x ∷ xs) a zero e = omega arith
at_inside (x ∷ xs) a (suc j) e = let n = at_inside xs a j e in omega arith

pub drafted_snoc : (words : List ℕ) (at : ℕ) (ds : List ℕ) (x : ℕ) → Drafted words at ds → slice_index words (at + length ds) ≡ x → Drafted words at (ds ++ x ∷ [])
drafted_snoc words at [] x d e = (subst (λ k. slice_index words k ≡ x) (omega arith) e, tt)
drafted_snoc words at (y ∷ ds) x d e = (d.0, drafted_snoc words (at + 1) ds x d.1 (subst (λ k. slice_index words k ≡ x) (omega arith) e))

pub drafted_set : (words : List ℕ) (at : ℕ) (ds : List ℕ) (i x : ℕ) → at + length ds ≤ i → Drafted words at ds → Drafted (set words i x) at ds
drafted_set words at [] i x far d = tt
drafted_set words at (y ∷ ds) i x far d = (get_or-set_other words i at x 0 (λ e. omega arith) ∙ d.0, drafted_set words (at + 1) ds i x (omega arith) d.1)

-- a function that is changed at one place
abbrev pub placed : (ℕ → ℕ) → ℕ → ℕ → ℕ → ℕ
placed f n at m = either (eqb m n) at (f m)

pub placed_here : (f : ℕ → ℕ) (n at m : ℕ) → m ≡ n → placed f n at m ≡ at
placed_here f n at m e = subst (λ b. either b at (f m) ≡ at) (sym (eq-eqb m n e)) refl

pub placed_else : (f : ℕ → ℕ) (n at m : ℕ) → m ≢ n → placed f n at m ≡ f m
placed_else f n at m ne = subst (λ b. either b at (f m) ≡ f m) (sym (ne_eqb m n ne)) refl
