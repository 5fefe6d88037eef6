-- The numbers of tables in a set.
use Rattle.std.proofs.Common.{◌≡◌, ℕ, suc, ◌+◌, ◌<◌, Bool, true, false, ◌||◌, ◌==◌, eqb, List, [], ◌∷◌, ◌++◌, length, take, get_or, refl, sym, ap, ◌∙◌, subst, arith, append_assoc, take-suc}
use Rattle.std.proofs.lemmas.List.Folds.{list_any-append}
use Rattle.std.proofs.lemmas.Bool.Decides.{nat_tests}
use Rattle.std.specs.FinMap.{nat_cmp-IsAntisymmetric}
use Rattle.std.specs.declared.cmp.Ordering.{Ordering}
use Rattle.std.specs.declared.cmp.Ordering.TheVariants.{Less, Equal, Greater}
use Rattle.std.specs.List.{list_any}
use Rattle.std.specs.Ordering.{nat_cmp, is_eq, match_ordering}
use Rattle.std.specs.BTreeSet.{BTreeSet, contains, insert_key}
use Rattle.std.specs.BTreeMap.{is_at}
use Rattle.lsm_levels.specs.Tables.{Table}
use Rattle.lsm_jobs.specs.Numbers.{AreNumbersOf}

or_swap : (a b c : Bool) → (a || (b || c)) ≡ (b || (a || c))
or_swap true true c = refl
or_swap true false c = refl
or_swap false b c = refl

or_twice : (a b : Bool) → (a || b) ≡ (a || (a || b))
or_twice true b = refl
or_twice false b = refl

-- with one more number
any_inserted : (p : ℕ → Bool) (k : ℕ) (ks : List ℕ) → ((x : ℕ) → nat_cmp k x ≡ Equal → p x ≡ p k) → list_any p (insert_key nat_cmp ks k) ≡ (p k || list_any p ks)
any_inserted p k [] same = refl
any_inserted p k (x ∷ ks) same = by (any_inserted p k ks same) (nat_cmp k x) refl
  where
    by : list_any p (insert_key nat_cmp ks k) ≡ (p k || list_any p ks) → (o : Ordering) → nat_cmp k x ≡ o → list_any p (match_ordering o (k ∷ x ∷ ks) (x ∷ ks) (x ∷ insert_key nat_cmp ks k)) ≡ (p k || (p x || list_any p ks))
    by more Less e = refl
    by more Equal e = or_twice (p x) (list_any p ks) ∙ ap (λ b. b || (p x || list_any p ks)) (same x e)
    by more Greater e = ap (λ b. p x || b) more ∙ or_swap (p x) (p k) (list_any p ks)

-- whether a number is this one, both ways
is_at_number : (n k : ℕ) → is_at (nat_cmp n) k ≡ (k == n)
is_at_number n k = by (eqb k n) refl
  where
    by : (b : Bool) → eqb k n ≡ b → is_eq (nat_cmp n k) ≡ b
    by b e = grind (arith, nat_tests)

found_alike : (n k x : ℕ) → nat_cmp k x ≡ Equal → is_at (nat_cmp n) x ≡ is_at (nat_cmp n) k
found_alike n k x e = ap (is_at (nat_cmp n)) (sym (nat_cmp-IsAntisymmetric k x e))

pub one_more : (old new : BTreeSet ℕ) (tables : List Table) (i : ℕ) (t : Table) → new.keys ≡ insert_key nat_cmp old.keys t.number → (others : List Table) → i < length tables → t ≡ get_or tables i t → AreNumbersOf old (others ++ take i tables) → AreNumbersOf new (others ++ take (i + 1) tables)
one_more old new tables i t keys others inside at h = record {
  same = λ n.
      ap (list_any (is_at (nat_cmp n))) keys
      ∙ any_inserted (is_at (nat_cmp n)) t.number old.keys (found_alike n t.number)
      ∙ ap (λ b. b || contains nat_cmp old n) (is_at_number n t.number)
      ∙ ap (λ b. (t.number == n) || b) (h.same n)
      ∙ sym (ap (list_any (λ u. u.number == n)) (more n) ∙ list_any-append (λ u. u.number == n) (others ++ take i tables) (t ∷ []) ∙ last (list_any (λ u. u.number == n) (others ++ take i tables)) (t.number == n));
}
  where
    more : (n : ℕ) → others ++ take (i + 1) tables ≡ (others ++ take i tables) ++ t ∷ []
    more n =
        let next : i + 1 ≡ suc i = omega arith in
        ap (λ (m : ℕ). others ++ take m tables) next ∙ ap (λ ts. others ++ ts) (take-suc tables i t inside ∙ ap (λ (u : Table). take i tables ++ u ∷ []) (sym at)) ∙ sym (append_assoc others (take i tables) (t ∷ []))

    last : (a b : Bool) → (a || (b || false)) ≡ (b || a)
    last true true = refl
    last true false = refl
    last false true = refl
    last false false = refl

-- the numbers of a list, added to none
pub all_added : (empty new : BTreeSet ℕ) (tables lent : List Table) → empty.keys ≡ [] → lent ≡ tables → ((others : List Table) → AreNumbersOf empty others → AreNumbersOf new (others ++ lent)) → AreNumbersOf new tables
all_added empty new tables lent none is added =
    let start : AreNumbersOf empty [] = record { same = λ n. ap (list_any (is_at (nat_cmp n))) none } in
    subst (AreNumbersOf new) is (added [] start)
