-- The tables of a run that meet a range.
use Rattle.std.proofs.Common.{◌≡◌, inl, inr, true, ◌&&◌, List, [], ◌∷◌, filter, ◌⊎◌, Option, Some, None, refl, sym, ap, ◌∙◌, subst}
use Rattle.lsm_levels.specs.Among.{IsAmong}
use Rattle.lsm_levels.specs.Tables.{Table, KeyRange, range_of, at_most, is_below, hull, meets, meeting, IsRun}
use Rattle.lsm_levels.proofs.KeyOrder.{at_most_trans, below_not, below_at_most, below_then, then_below}
use Rattle.lsm_levels.proofs.Members.{among_passed, passed_among}
use Rattle.lsm_levels.proofs.Ranges.{no, of_all, in_run, run_order, apart_left, apart_right, meets_ends}
use Rattle.lsm_levels.proofs.HullLaws.{Ends, hull_covers, hull_ends}
use Rattle.lsm_levels.proofs.Runs.{run_filter}

-- ---- two runs of the same tables are one

not_behind : (x : Table) (xs : List Table) → IsRun (x ∷ xs) → IsAmong x xs → ⊥
not_behind x xs run a = no (sym run.0 ∙ below_not x.last x.first (of_all (λ u. is_below x.last u.first ≡ true) xs run.1 x a))

-- neither lies before the other
not_both_before : (x y : Table) → at_most x.first x.last ≡ true → at_most y.first y.last ≡ true → is_below x.last y.first ≡ true → is_below y.last x.first ≡ true → ⊥
not_both_before x y own other before behind =
    let up : is_below x.last y.last ≡ true = below_then x.last y.first y.last before other in
    let over : is_below x.last x.first ≡ true = below_then x.last y.last x.first up (below_at_most y.last x.first behind) in
    no (sym own ∙ below_not x.last x.first over)

abbrev AreIn : List Table → List Table → Type 0
AreIn xs ys = (t : Table) → IsAmong t xs → IsAmong t ys

same_head : (x y : Table) (xs ys : List Table) → IsRun (x ∷ xs) → IsRun (y ∷ ys) → AreIn (x ∷ xs) (y ∷ ys) → AreIn (y ∷ ys) (x ∷ xs) → x ≡ y
same_head x y xs ys r s f g = by (f x (inl refl)) (g y (inl refl))
  where
    by : IsAmong x (y ∷ ys) → IsAmong y (x ∷ xs) → x ≡ y
    by (inl e) b = e
    by (inr a) (inl e) = sym e
    by (inr a) (inr b) = absurd (not_both_before x y r.0 s.0 (of_all (λ u. is_below x.last u.first ≡ true) xs r.1 y b) (of_all (λ u. is_below y.last u.first ≡ true) ys s.1 x a))

tail_in : (x y : Table) (xs ys : List Table) → x ≡ y → IsRun (x ∷ xs) → AreIn (x ∷ xs) (y ∷ ys) → AreIn xs ys
tail_in x y xs ys same r f t a = by (f t (inr a))
  where
    by : IsAmong t (y ∷ ys) → IsAmong t ys
    by (inl e) = absurd (not_behind x xs r (subst (λ (u : Table). IsAmong u xs) (e ∙ sym same) a))
    by (inr b) = b

pub same_run : (xs ys : List Table) → IsRun xs → IsRun ys → AreIn xs ys → AreIn ys xs → xs ≡ ys
same_run [] [] r s f g = refl
same_run [] (y ∷ ys) r s f g = absurd (g y (inl refl))
same_run (x ∷ xs) [] r s f g = absurd (f x (inl refl))
same_run (x ∷ xs) (y ∷ ys) r s f g =
    let head = same_head x y xs ys r s f g in
    ap (λ (t : Table). t ∷ xs) head ∙ ap (λ (l : List Table). y ∷ l) (same_run xs ys r.2 s.2 (tail_in x y xs ys head r f) (tail_in y x ys xs (sym head) s g))

-- of a run one table alone meets the range of one
pub one_met : (run : List Table) (t : Table) → IsRun run → IsAmong t run → t ∷ [] ≡ filter (meets (range_of t)) run
one_met run t r a = same_run (t ∷ []) (filter (meets (range_of t)) run) (run_order run r t a, tt, tt) (run_filter (meets (range_of t)) run r)
    (λ u b. subst (λ (x : Table). IsAmong x (filter (meets (range_of t)) run)) (sym (only u b)) (among_passed (meets (range_of t)) t run a itself))
    (λ u b. let both = passed_among (meets (range_of t)) u run b in alone u (in_run run r t u a both.0) both.1)
  where
    only : (u : Table) → IsAmong u (t ∷ []) → u ≡ t
    only u (inl e) = e
    only u (inr none) = absurd none

    itself : meets (range_of t) t ≡ true
    itself = ap (λ b. b && at_most t.first t.last) (run_order run r t a) ∙ run_order run r t a

    alone : (u : Table) → (t ≡ u) ⊎ ((is_below t.last u.first ≡ true) ⊎ (is_below u.last t.first ≡ true)) → meets (range_of t) u ≡ true → IsAmong u (t ∷ [])
    alone u (inl e) met = inl (sym e)
    alone u (inr (inl before)) met = absurd (no (sym met ∙ apart_right (range_of t) u before))
    alone u (inr (inr behind)) met = absurd (no (sym met ∙ apart_left (range_of t) u behind))

-- ---- those that meet a range are those that meet their own hull

module _ (xs : List Table) (q w : KeyRange) (r : IsRun xs) (is : hull (filter (meets q) xs) ≡ Some w) where
  abbrev those : List Table
  those = filter (meets q) xs

  meets_from : (range : KeyRange) (t : Table) → at_most range.first t.last ≡ true → at_most t.first range.last ≡ true → meets range t ≡ true
  meets_from range t left right = ap (λ b. b && at_most t.first range.last) left ∙ right

  in_hull : (t : Table) → IsAmong t those → IsAmong t (filter (meets w) xs)
  in_hull t a =
      let both = passed_among (meets q) t xs a in
      let own = run_order xs r t both.0 in
      let c = hull_covers those w is t a in
      among_passed (meets w) t xs both.0 (meets_from w t (at_most_trans w.first t.first t.last c.0 own) (at_most_trans t.first t.last w.last own c.1))

  -- a table of the hull lies between two of them, or is one
  back : (t : Table) → IsAmong t (filter (meets w) xs) → IsAmong t those
  back t m = from_left (in_run xs r t ends.a there (passed_among (meets q) ends.a xs ends.a_in).0)
    where
      ends : Ends w those
      ends = hull_ends those w is

      both : IsAmong t xs × (meets w t ≡ true)
      both = passed_among (meets w) t xs m

      there : IsAmong t xs
      there = both.0

      met : (at_most w.first t.last ≡ true) × (at_most t.first w.last ≡ true)
      met = meets_ends w t both.1

      own : at_most t.first t.last ≡ true
      own = run_order xs r t there

      between : is_below ends.a.last t.first ≡ true → is_below t.last ends.b.first ≡ true → IsAmong t those
      between left right =
          let over : is_below q.first t.first ≡ true = then_below q.first ends.a.last t.first (meets_ends q ends.a (passed_among (meets q) ends.a xs ends.a_in).1).0 left in
          let under : is_below t.last q.last ≡ true = below_then t.last ends.b.first q.last right (meets_ends q ends.b (passed_among (meets q) ends.b xs ends.b_in).1).1 in
          among_passed (meets q) t xs there
          (meets_from q t (below_at_most q.first t.last (below_then q.first t.first t.last over own)) (below_at_most t.first q.last (then_below t.first t.last q.last own under)))

      from_right : is_below ends.a.last t.first ≡ true → (t ≡ ends.b) ⊎ ((is_below t.last ends.b.first ≡ true) ⊎ (is_below ends.b.last t.first ≡ true)) → IsAmong t those
      from_right left (inl e) = subst (λ (x : Table). IsAmong x those) (sym e) ends.b_in
      from_right left (inr (inl right)) = between left right
      from_right left (inr (inr past)) = absurd (no (sym (subst (λ k. at_most t.first k ≡ true) (sym ends.last) met.1) ∙ below_not ends.b.last t.first past))

      from_left : (t ≡ ends.a) ⊎ ((is_below t.last ends.a.first ≡ true) ⊎ (is_below ends.a.last t.first ≡ true)) → IsAmong t those
      from_left (inl e) = subst (λ (x : Table). IsAmong x those) (sym e) ends.a_in
      from_left (inr (inl past)) = absurd (no (sym (subst (λ k. at_most k t.last ≡ true) (sym ends.first) met.0) ∙ below_not t.last ends.a.first past))
      from_left (inr (inr left)) = from_right left (in_run xs r t ends.b there (passed_among (meets q) ends.b xs ends.b_in).0)

  pub met_hull : filter (meets q) xs ≡ filter (meets w) xs
  met_hull = same_run those (filter (meets w) xs) (run_filter (meets q) xs r) (run_filter (meets w) xs r) in_hull back

pub met_own : (q : KeyRange) (xs : List Table) → IsRun xs → filter (meets q) xs ≡ meeting (hull (filter (meets q) xs)) xs
met_own q xs r = by (hull (filter (meets q) xs)) refl
  where
    none : (l : List Table) → hull l ≡ None → l ≡ []
    none [] e = refl
    none (t ∷ rest) e = absurd cc

    by : (o : Option KeyRange) → hull (filter (meets q) xs) ≡ o → filter (meets q) xs ≡ meeting o xs
    by None is = none (filter (meets q) xs) is
    by (Some w) is = met_hull xs q w r is
