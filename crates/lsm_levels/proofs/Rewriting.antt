-- Which versions the levels have after a rewrite.
use Rattle.std.proofs.Common.{◌≡◌, ◌≢◌, ◌⊎◌, inl, inr, ⊎_elim, ℕ, zero, suc, ◌<◌, ◌≤◌, Bool, true, false, List, [], ◌∷◌, ◌++◌, length, map, get_or, set, Option, Some, refl, sym, ap, ◌∙◌, subst, arith}
use Rattle.std.proofs.lemmas.Bool.{cases_lt}
use Rattle.std.proofs.lemmas.List.{get_or-set_same, get_or-set_other}
use Rattle.lsm_codec.specs.Versions.{Version}
use Rattle.lsm_levels.specs.Among.{IsAmong}
use Rattle.lsm_levels.specs.Tables.{Table, KeyRange, at_most, spanned, hull, meets, put_at, versions_of}
use Rattle.lsm_levels.specs.Levels.{Levels, level, places, with_level}
use Rattle.lsm_levels.specs.Orders.{IsVersionOrder}
use Rattle.lsm_levels.specs.Held.{AreRuns, HasItsTables, IsRanged, HasVersion, MergesVersions}
use Rattle.lsm_levels.proofs.KeyOrder.{at_most_trans}
use Rattle.lsm_levels.proofs.Ranges.{no}
use Rattle.lsm_levels.proofs.HullLaws.{hull_covers}
use Rattle.lsm_levels.proofs.Replacing.{put_cases, put_new, put_stays, same_or_not}
use Rattle.lsm_levels.proofs.Runs.{run_at}
use Rattle.lsm_levels.proofs.PlaceOrders.{AreNewer, order_front, order_from, order_join}
use Rattle.lsm_levels.proofs.LevelVersions.{in_tables, of_table, covers_meets, older_level}

pub hull_some : (xs : List Table) (t : Table) → IsAmong t xs → (w : KeyRange) × (hull xs ≡ Some w)
hull_some [] t a = absurd a
hull_some (x ∷ rest) t a = (spanned x (hull rest), refl)

module _ (levels : Levels) (runs : AreRuns levels) (flag : Bool) (i : ℕ) (lower new : List Table) (h : HasItsTables levels flag i [] lower) where
  abbrev after : Levels
  after = with_level (suc i) h.range new levels

  -- the level of the outputs, and the others
  at_output : level after (suc i) ≡ put_at h.range new (level levels (suc i))
  at_output = get_or-set_same levels.deeper i (put_at h.range new (get_or levels.deeper i [])) [] (omega (arith, runs.four, h.known))

  at_other : (k : ℕ) → k ≢ suc i → level after k ≡ level levels k
  at_other zero other = refl
  at_other (suc m) other = get_or-set_other levels.deeper i m (put_at h.range new (get_or levels.deeper i [])) [] (λ e. other (ap suc e))

  -- a table is an input, or stays
  taken_or_stays : (k : ℕ) (t : Table) → IsAmong t (level levels k) → IsAmong t lower ⊎ IsAmong t (level after k)
  taken_or_stays k t a = ⊎_elim
      (λ (e : k ≡ suc i). low e (subst (λ n. IsAmong t (level levels n)) e a) (meets h.range t) refl)
      (λ (other : k ≢ suc i). inr (subst (IsAmong t) (sym (at_other k other)) a))
      (same_or_not k (suc i))
    where
      low : k ≡ suc i → IsAmong t (level levels (suc i)) → (b : Bool) → meets h.range t ≡ b → IsAmong t lower ⊎ IsAmong t (level after k)
      low e at true met = inl (h.all t at met)
      low e at false apart = inr (subst (λ n. IsAmong t (level after n)) (sym e) (subst (IsAmong t) (sym at_output) (put_stays h.range new (level levels (suc i)) t at apart)))

  -- a table after the merge was there before, apart from the inputs, or is an output
  record Stood (k : ℕ) (t : Table) : Type 0 where
    pub old : IsAmong t (level levels k)
    pub apart : k ≡ suc i → meets h.range t ≡ false

  stood : (k : ℕ) (t : Table) → IsAmong t (level after k) → Stood k t ⊎ ((k ≡ suc i) × IsAmong t new)
  stood k t a = ⊎_elim
      (λ (e : k ≡ suc i). ⊎_elim
      (λ old. inl (record { old = subst (λ n. IsAmong t (level levels n)) (sym e) old.0; apart = λ f. old.1 }))
      (λ made. inr (e, made))
      (put_cases h.range new (level levels (suc i)) t (subst (IsAmong t) at_output (subst (λ n. IsAmong t (level after n)) e a))))
      (λ (other : k ≢ suc i). inl (record { old = subst (IsAmong t) (at_other k other) a; apart = λ e. absurd (other e) }))
      (same_or_not k (suc i))

  -- ---- its versions

  version_stays : (v : Version) → HasVersion levels v → IsAmong v (versions_of lower) ⊎ HasVersion after v
  version_stays v a = ⊎_elim
      (λ b. inl (of_table v a.table lower b a.has))
      (λ b. inr (record { place = a.place; table = a.table; there = b; has = a.has }))
      (taken_or_stays a.place a.table a.there)

  version_new : (v : Version) → IsAmong v (versions_of new) → HasVersion after v
  version_new v a =
      let t = in_tables v new a in
      record { place = suc i; table = t.0; there = subst (IsAmong t.0) (sym at_output) (put_new h.range new (level levels (suc i)) t.0 t.1); has = t.2 }

  version_else : (v : Version) → HasVersion after v → HasVersion levels v ⊎ IsAmong v (versions_of new)
  version_else v a = ⊎_elim
      (λ s. inl (record { place = a.place; table = a.table; there = s.old; has = a.has }))
      (λ n. inr (of_table v a.table new n.1 a.has))
      (stood a.place a.table a.there)

  -- no other table that stays has an older version of an input's key, at the bottom
  module _ (order : IsVersionOrder (map versions_of (places levels))) (ranged : (k : ℕ) (t : Table) → IsAmong t (level levels k) → IsRanged t) (bottom : flag ≡ true) (whole : KeyRange) (whole_is : hull lower ≡ Some whole)
      (t u : Table) (v w : Version) (v_in : IsAmong v t.versions) (w_in : IsAmong w u.versions) (same : w.key ≡ v.key) (older : w.number < v.number) (k : ℕ) (at : Stood k u) where
    none_older : IsAmong t lower → ⊥
    none_older a = by (h.lowers t a) (cases_lt k (suc i)) (cases_lt (suc i) k)
      where
        met : (range : KeyRange) → IsAmong t (level levels (suc i)) → (at_most range.first t.first ≡ true) × (at_most t.last range.last ≡ true) → meets range u ≡ true
        met range there c =
            let mine = (ranged (suc i) t there).within v v_in in
            let others = (ranged k u at.old).within w w_in in
            covers_meets range u v.key (at_most_trans range.first t.first v.key c.0 mine.0) (at_most_trans v.key t.last range.last mine.1 c.1)
            (subst (λ key. at_most u.first key ≡ true) same others.0) (subst (λ key. at_most key u.last ≡ true) same others.1)

        by : IsAmong t (level levels (suc i)) → (k < suc i) ⊎ (suc i ≤ k) → (suc i < k) ⊎ (k ≤ suc i) → ⊥
        by there (inl lt) y = omega (arith, older, older_level levels k (suc i) u t w v lt order at.old there w_in v_in same)
        by there (inr ge) (inl gt) = no (sym (met whole there (hull_covers lower whole whole_is t a)) ∙ h.lowest bottom k u whole gt at.old whole_is)
        by there (inr ge) (inr le) = no (sym (met h.range there (hull_covers lower h.range h.hull_is t a)) ∙ at.apart (let f : k ≡ suc i = omega (arith, ge, le) in f))

  -- what a rewrite makes of the versions
  pub rewriting : MergesVersions levels after flag lower new
  rewriting = record {
    stays = version_stays;
    made = version_new;
    nothing_else = version_else;
    inputs_there = λ t a. (suc i, h.lowers t a);
    lowest = λ ordered bottom v w a b same older.
        let t = in_tables v lower a in
        let whole = hull_some lower t.0 t.1 in
        ⊎_elim
        (λ s. absurd (none_older ordered.order ordered.ranges bottom whole.0 whole.1 t.0 b.table v w t.2 b.has same older b.place s t.1))
        (λ n. of_table w b.table new n.1 b.has)
        (stood b.place b.table b.there);
  }

  -- ---- and of their order

  module _ (order : IsVersionOrder (map versions_of (places levels))) (ranged : (k : ℕ) (t : Table) → IsAmong t (level levels k) → IsRanged t) (from_inputs : (v : Version) → IsAmong v (versions_of new) → IsAmong v (versions_of lower)) where
    -- an output's version stood in the outputs' level
    from : (t : Table) (v : Version) → IsAmong t new → IsAmong v t.versions → (s : Table) × IsAmong s (level levels (suc i)) × IsAmong v s.versions
    from t v a b = let s = in_tables v lower (from_inputs v (of_table v t new a b)) in (s.0, h.lowers s.0 s.1, s.2)

    newer_level : (k l : ℕ) → k < l → AreNewer (level after k) (level after l)
    newer_level k l lt t u v w a b c d same = ⊎_elim
        (λ s. ⊎_elim
        (λ z. older_level levels k l t u v w lt order s.old z.old c d same)
        (λ made. let f = from u w made.1 d in older_level levels k (suc i) t f.0 v w (omega (arith, lt, made.0)) order s.old f.1 c f.2 same)
        (stood l u b))
        (λ made. ⊎_elim
        (λ z. let f = from t v made.1 c in older_level levels (suc i) l f.0 u v w (omega (arith, lt, made.0)) order f.1 z.old f.2 d same)
        (λ also. absurd (omega (arith, lt, made.0, also.0)))
        (stood l u b))
        (stood k t a)

    pub rewritten_order : IsVersionOrder (map versions_of (places after))
    rewritten_order =
        order_join after.runs after.deeper (order_front levels.runs levels.deeper order)
        (order_from after.deeper (λ k l lt. newer_level (suc k) (suc l) (omega (arith, lt))))
        (λ l. newer_level 0 (suc l) (omega arith))

    pub rewritten_ranges : ((t : Table) → IsAmong t new → IsRanged t) → (k : ℕ) (t : Table) → IsAmong t (level after k) → IsRanged t
    rewritten_ranges made k t a = ⊎_elim (λ s. ranged k t s.old) (λ n. made t n.1) (stood k t a)
