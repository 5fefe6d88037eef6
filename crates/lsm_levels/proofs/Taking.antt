-- Which versions the levels have after a merge.
use Rattle.std.proofs.Common.{◌≡◌, ◌≢◌, ◌⊎◌, inl, inr, ⊎_elim, ℕ, zero, suc, ◌<◌, ◌≤◌, Bool, true, false, List, [], ◌∷◌, ◌++◌, length, map, get_or, set, Option, Some, refl, sym, ap, ◌∙◌, subst, arith}
use Rattle.std.specs.List.{AllByRecursion}
use Rattle.std.proofs.lemmas.Bool.{cases_lt}
use Rattle.std.proofs.lemmas.List.{get_or-set_same, get_or-set_other}
use Rattle.lsm_codec.specs.Versions.{Version}
use Rattle.lsm_levels.specs.Among.{IsAmong}
use Rattle.lsm_levels.proofs.Members.{among_left, among_right, among_either, among_passed}
use Rattle.lsm_levels.specs.Tables.{Table, KeyRange, range_of, at_most, spanned, hull, meets, put_at, versions_of}
use Rattle.lsm_levels.specs.Levels.{Levels, all_tables, level, places, newer_runs, flushed, replaced, merged_at}
use Rattle.lsm_levels.specs.Orders.{IsNewerPlace, IsVersionOrder}
use Rattle.lsm_levels.specs.Held.{AreOldest, AreRuns, IsUpper, HasItsTables, IsRanged, HasVersion, AreOrdered, MergesVersions, MergingLaw, OrderLaw, FlushLaw}
use Rattle.lsm_levels.proofs.KeyOrder.{at_most_trans}
use Rattle.lsm_levels.proofs.Ranges.{no, all_of, in_run, apart_left, apart_right}
use Rattle.lsm_levels.proofs.HullLaws.{hull_covers}
use Rattle.lsm_levels.proofs.OldestRuns.{newer_among, newer_oldest, newer_or_oldest}
use Rattle.lsm_levels.proofs.Replacing.{put_cases, put_new, deeper_after, at_upper, at_lower, at_other, same_or_not, stays_after}
use Rattle.lsm_levels.proofs.Runs.{run_at, upper_there, upper_is}
use Rattle.lsm_levels.proofs.LevelVersions.{older_level, newer_runs_order}
use Rattle.lsm_levels.proofs.Rewriting.{hull_some, rewriting, rewritten_order, rewritten_ranges}
use Rattle.lsm_levels.proofs.PlaceOrders.{AreNewer, order_front, order_from, order_join}
pub use Rattle.lsm_levels.proofs.PlaceOrders.{newer_from}
pub use Rattle.lsm_levels.proofs.LevelVersions.{in_tables, of_table, level_of_place, place_of_level, covers_meets, newer_than}

-- ---- a merge

module _ (levels : Levels) (runs : AreRuns levels) (flag : Bool) (i : ℕ) (first : Table) (others lower new : List Table) (h : HasItsTables levels flag i (first ∷ others) lower) where
  abbrev upper : List Table
  upper = first ∷ others

  abbrev after : Levels
  after = replaced i h.range (length upper) new levels

  -- a table is an input, or stays
  taken_or_stays : (k : ℕ) (t : Table) → IsAmong t (level levels k) → IsAmong t (upper ++ lower) ⊎ IsAmong t (level after k)
  taken_or_stays k t a = ⊎_elim
      (λ (e : k ≡ suc i). low e (meets h.range t) refl)
      (λ (other : k ≢ suc i). ⊎_elim (λ (e : k ≡ i). up i refl e h.uppers) (λ (also : k ≢ i). inr (stay (λ e. absurd (other e)) (λ e f. absurd (also e)) (λ e f. absurd (also (e ∙ sym f))))) (same_or_not k i))
      (same_or_not k (suc i))
    where
      stay : (k ≡ suc i → meets h.range t ≡ false) → (k ≡ i → 1 ≤ i → meets h.range t ≡ false) → (k ≡ 0 → i ≡ 0 → IsAmong t (all_tables (newer_runs (length upper) levels.runs))) → IsAmong t (level after k)
      stay x y z = stays_after h.range (length upper) new levels runs.four i h.known k t a x y z

      low : k ≡ suc i → (b : Bool) → meets h.range t ≡ b → IsAmong t (upper ++ lower) ⊎ IsAmong t (level after k)
      low e true met = inl (among_right t upper lower (h.all t (subst (λ n. IsAmong t (level levels n)) e a) met))
      low e false apart = inr (stay (λ f. apart) (λ f g. apart) (λ f g. absurd (omega (arith, e, f, g))))

      up : (n : ℕ) → n ≡ i → k ≡ i → IsUpper levels n upper → IsAmong t (upper ++ lower) ⊎ IsAmong t (level after k)
      up zero e f u = ⊎_elim
          (λ newer. inr (subst (λ n. IsAmong t (level after n)) (sym f) (subst (λ n. IsAmong t (level (replaced n h.range (length upper) new levels) n)) e newer)))
          (λ oldest. inl (among_left t upper lower oldest))
          (newer_or_oldest levels.runs upper runs.some u t (subst (λ n. IsAmong t (level levels n)) (f ∙ sym e) a))
      up (suc m) e f u = by (meets h.range t) refl
        where
          at : IsAmong t (level levels (suc m))
          at = subst (λ n. IsAmong t (level levels n)) (f ∙ sym e) a

          by : (b : Bool) → meets h.range t ≡ b → IsAmong t (upper ++ lower) ⊎ IsAmong t (level after k)
          by true met = inl (among_left t upper lower (subst (IsAmong t) (sym (upper_is levels m upper h.range h.hull_is u)) (among_passed (meets h.range) t (level levels (suc m)) at met)))
          by false apart = inr (stay (λ g. absurd (omega (arith, f, g))) (λ g deep. apart) (λ g z. absurd (omega (arith, e, z))))

  -- an output stands in the output level
  new_stands : (t : Table) → IsAmong t new → IsAmong t (level after (suc i))
  new_stands t a = by i h.known refl
    where
      four : length levels.deeper ≡ 4
      four = runs.four

      by : (n : ℕ) → n ≤ 3 → n ≡ i → IsAmong t (level after (suc i))
      by zero le e = subst (λ n. IsAmong t (level (replaced n h.range (length upper) new levels) (suc n))) e
          (subst (IsAmong t) (sym (get_or-set_same levels.deeper 0 (put_at h.range new (get_or levels.deeper 0 [])) [] (omega (arith, four)))) (put_new h.range new (get_or levels.deeper 0 []) t a))
      by (suc m) le e = subst (λ n. IsAmong t (level (replaced n h.range (length upper) new levels) (suc n))) e
          (subst (IsAmong t) (sym (at_lower h.range new levels.deeper m (omega (arith, four, le)))) (put_new h.range new (get_or levels.deeper (suc m) []) t a))

  -- a table that stands in the upper or the output level doesn't meet the hull of the upper ones, or is an output
  record Stood (k : ℕ) (t : Table) : Type 0 where
    pub old : IsAmong t (level levels k)
    pub lower_apart : k ≡ suc i → meets h.range t ≡ false
    pub upper_apart : k ≡ i → 1 ≤ i → meets h.range t ≡ false
    pub newer : k ≡ 0 → i ≡ 0 → IsAmong t (all_tables (newer_runs (length upper) levels.runs))

  stood : (k : ℕ) (t : Table) → IsAmong t (level after k) → Stood k t ⊎ ((k ≡ suc i) × IsAmong t new)
  stood k t a = by i refl h.known k refl
    where
      four : length levels.deeper ≡ 4
      four = runs.four

      here : (n : ℕ) → n ≡ i → (m : ℕ) → m ≡ k → IsAmong t (level (replaced n h.range (length upper) new levels) m)
      here n e m f = subst (λ x. IsAmong t (level (replaced x h.range (length upper) new levels) m)) (sym e) (subst (λ x. IsAmong t (level after x)) (sym f) a)

      made : (m : ℕ) → m ≡ k → IsAmong t (level levels m) → (k ≡ suc i → meets h.range t ≡ false) → (k ≡ i → 1 ≤ i → meets h.range t ≡ false) → (k ≡ 0 → i ≡ 0 → IsAmong t (all_tables (newer_runs (length upper) levels.runs))) → Stood k t ⊎ ((k ≡ suc i) × IsAmong t new)
      made m f old x y z = inl (record { old = subst (λ n. IsAmong t (level levels n)) f old; lower_apart = x; upper_apart = y; newer = z })

      by : (n : ℕ) → n ≡ i → n ≤ 3 → (m : ℕ) → m ≡ k → Stood k t ⊎ ((k ≡ suc i) × IsAmong t new)
      by zero e le zero f =
          let b = here zero e zero f in
          made zero f (newer_among (length upper) levels.runs t b) (λ g. absurd (omega (arith, f, g))) (λ g deep. absurd (omega (arith, e, deep))) (λ g z. b)
      by zero e le (suc zero) f = ⊎_elim
          (λ old. made (suc zero) f old.0 (λ g. old.1) (λ g deep. absurd (omega (arith, e, deep))) (λ g z. absurd (omega (arith, f, g))))
          (λ n. inr (let g : k ≡ suc i = omega (arith, e, f) in g, n))
          (put_cases h.range new (get_or levels.deeper 0 []) t (subst (IsAmong t) (get_or-set_same levels.deeper 0 (put_at h.range new (get_or levels.deeper 0 [])) [] (omega (arith, four))) (here zero e (suc zero) f)))
      by zero e le (suc (suc m)) f =
          made (suc (suc m)) f (subst (IsAmong t) (get_or-set_other levels.deeper 0 (suc m) (put_at h.range new (get_or levels.deeper 0 [])) [] (λ g. omega (arith, g))) (here zero e (suc (suc m)) f))
          (λ g. absurd (omega (arith, e, f, g))) (λ g deep. absurd (omega (arith, e, deep))) (λ g z. absurd (omega (arith, f, g)))
      by (suc j) e le zero f =
          made zero f (here (suc j) e zero f) (λ g. absurd (omega (arith, f, g))) (λ g deep. absurd (omega (arith, f, g, deep))) (λ g z. absurd (omega (arith, e, z)))
      by (suc j) e le (suc m) f = ⊎_elim
          (λ (q : m ≡ j). ⊎_elim
          (λ old. made (suc m) f (subst (λ n. IsAmong t (get_or levels.deeper n [])) (sym q) old.0) (λ g. absurd (omega (arith, e, f, g, q))) (λ g deep. old.1) (λ g z. absurd (omega (arith, f, g))))
          (λ none. absurd none)
          (put_cases h.range [] (get_or levels.deeper j []) t
          (subst (IsAmong t) (at_upper h.range new levels.deeper j (omega (arith, four, le)) (length_lower j le)) (subst (λ n. IsAmong t (get_or (deeper_after h.range new levels.deeper j) n [])) q (here (suc j) e (suc m) f)))))
          (λ (other : m ≢ j). ⊎_elim
          (λ (q : m ≡ suc j). ⊎_elim
          (λ old. made (suc m) f (subst (λ n. IsAmong t (get_or levels.deeper n [])) (sym q) old.0) (λ g. old.1) (λ g deep. absurd (omega (arith, e, f, g, q))) (λ g z. absurd (omega (arith, f, g))))
          (λ n. inr (let g : k ≡ suc i = omega (arith, e, f, q) in g, n))
          (put_cases h.range new (get_or levels.deeper (suc j) []) t
          (subst (IsAmong t) (at_lower h.range new levels.deeper j (omega (arith, four, le))) (subst (λ n. IsAmong t (get_or (deeper_after h.range new levels.deeper j) n [])) q (here (suc j) e (suc m) f)))))
          (λ (also : m ≢ suc j).
          made (suc m) f (subst (IsAmong t) (at_other h.range new levels.deeper j (omega (arith, four, le)) m other also) (here (suc j) e (suc m) f))
          (λ g. absurd (also (let q : m ≡ suc j = omega (arith, e, f, g) in q))) (λ g deep. absurd (other (let q : m ≡ j = omega (arith, e, f, g) in q))) (λ g z. absurd (omega (arith, f, g))))
          (same_or_not m (suc j)))
          (same_or_not m j)
        where
          length_set : (xs : List (List Table)) (x : ℕ) (y : List Table) → length (set xs x y) ≡ length xs
          length_set [] x y = refl
          length_set (z ∷ xs) zero y = refl
          length_set (z ∷ xs) (suc x) y = ap suc (length_set xs x y)

          length_lower : (n : ℕ) → suc n ≤ 3 → n < length (set levels.deeper (suc n) (put_at h.range new (get_or levels.deeper (suc n) [])))
          length_lower n small = omega (arith, four, small, length_set levels.deeper (suc n) (put_at h.range new (get_or levels.deeper (suc n) [])))

  -- ---- its versions

  -- what stays of level 0 is newer than the upper tables there
  before_oldest : AreOldest levels.runs upper → (t u : Table) (v w : Version) → IsVersionOrder (map versions_of (places levels)) → IsAmong t (all_tables (newer_runs (length upper) levels.runs)) → IsAmong u upper
      → IsAmong v t.versions → IsAmong w u.versions → v.key ≡ w.key → w.number < v.number
  before_oldest o t u v w order a b c d same =
      newer_runs_order o.newer o.oldest levels.deeper t u v w
      (subst (λ (rs : List (List Table)). IsVersionOrder (map versions_of (rs ++ levels.deeper))) o.split order)
      (subst (λ (rs : List (List Table)). IsAmong t (all_tables rs)) (newer_oldest levels.runs upper runs.some o) a)
      (subst (IsAmong u) o.all b) c d same

  pub version_stays : (v : Version) → HasVersion levels v → IsAmong v (versions_of (upper ++ lower)) ⊎ HasVersion after v
  version_stays v a = ⊎_elim
      (λ b. inl (of_table v a.table (upper ++ lower) b a.has))
      (λ b. inr (record { place = a.place; table = a.table; there = b; has = a.has }))
      (taken_or_stays a.place a.table a.there)

  pub version_new : (v : Version) → IsAmong v (versions_of new) → HasVersion after v
  version_new v a = let t = in_tables v new a in record { place = suc i; table = t.0; there = new_stands t.0 t.1; has = t.2 }

  pub version_else : (v : Version) → HasVersion after v → HasVersion levels v ⊎ IsAmong v (versions_of new)
  version_else v a = ⊎_elim
      (λ s. inl (record { place = a.place; table = a.table; there = s.old; has = a.has }))
      (λ n. inr (of_table v a.table new n.1 a.has))
      (stood a.place a.table a.there)

  -- the input tables stand in the upper level and the next
  pub input_there : (t : Table) → IsAmong t (upper ++ lower) → (k : ℕ) × IsAmong t (level levels k)
  input_there t a = ⊎_elim (λ b. (i, upper_there levels i upper h.uppers t b)) (λ b. (suc i, h.lowers t b)) (among_either t upper lower a)

  module _ (order : IsVersionOrder (map versions_of (places levels))) (ranged : (k : ℕ) (t : Table) → IsAmong t (level levels k) → IsRanged t) (bottom : flag ≡ true) (whole : KeyRange) (whole_is : hull (upper ++ lower) ≡ Some whole)
      (t u : Table) (v w : Version) (v_in : IsAmong v t.versions) (w_in : IsAmong w u.versions) (same : w.key ≡ v.key) (older : w.number < v.number) (k : ℕ) (at : Stood k u) where
    -- the version's key is in a range that covers its table
    meets_by : (range : KeyRange) → at_most range.first t.first ≡ true → at_most t.last range.last ≡ true → IsRanged t → meets range u ≡ true
    meets_by range a b r =
        let mine = r.within v v_in in
        let others = (ranged k u at.old).within w w_in in
        covers_meets range u v.key (at_most_trans range.first t.first v.key a mine.0) (at_most_trans v.key t.last range.last mine.1 b)
        (subst (λ key. at_most u.first key ≡ true) same others.0) (subst (λ key. at_most key u.last ≡ true) same others.1)

    not_older : (v.number < w.number) → ⊥
    not_older newer = omega (arith, older, newer)

    below_all : suc i < k → IsAmong t (upper ++ lower) → IsRanged t → ⊥
    below_all deep a r =
        let c = hull_covers (upper ++ lower) whole whole_is t a in
        no (sym (meets_by whole c.0 c.1 r) ∙ h.lowest bottom k u whole deep at.old whole_is)

    -- next to an upper table
    upper_case : (n : ℕ) → n ≡ i → IsUpper levels n upper → IsAmong t upper → ⊥
    upper_case zero e q a =
        let there : IsAmong t (level levels 0) = upper_there levels 0 upper q t a in
        let c = hull_covers upper h.range h.hull_is t a in
        by k refl there c
      where
        by : (m : ℕ) → m ≡ k → IsAmong t (level levels 0) → (at_most h.range.first t.first ≡ true) × (at_most t.last h.range.last ≡ true) → ⊥
        by zero f there c = not_older (before_oldest q u t w v order (at.newer (sym f) (sym e)) a w_in v_in same)
        by (suc zero) f there c = no (sym (meets_by h.range c.0 c.1 (ranged 0 t there)) ∙ at.lower_apart (let g : k ≡ suc i = omega (arith, e, f) in g))
        by (suc (suc m)) f there c = below_all (omega (arith, e, f)) (among_left t upper lower a) (ranged 0 t there)
    upper_case (suc n) e q a =
        let there : IsAmong t (level levels (suc n)) = upper_there levels (suc n) upper q t a in
        let c = hull_covers upper h.range h.hull_is t a in
        by there c (cases_lt k (suc n)) (cases_lt (suc (suc n)) k)
      where
        by : IsAmong t (level levels (suc n)) → (at_most h.range.first t.first ≡ true) × (at_most t.last h.range.last ≡ true) → (k < suc n) ⊎ (suc n ≤ k) → (suc (suc n) < k) ⊎ (k ≤ suc (suc n)) → ⊥
        by there c (inl lt) y = not_older (older_level levels k (suc n) u t w v lt order at.old there w_in v_in same)
        by there c (inr ge) (inl gt) = below_all (omega (arith, e, gt)) (among_left t upper lower a) (ranged (suc n) t there)
        by there c (inr ge) (inr le) = ⊎_elim
            (λ (f : k ≡ suc n). no (sym (meets_by h.range c.0 c.1 (ranged (suc n) t there)) ∙ at.upper_apart (f ∙ e) (omega (arith, e))))
            (λ (other : k ≢ suc n). no (sym (meets_by h.range c.0 c.1 (ranged (suc n) t there)) ∙ at.lower_apart (let g : k ≡ suc i = omega (arith, e, ge, le, other) in g)))
            (same_or_not k (suc n))

    -- next to a lower one
    lower_case : IsAmong t lower → ⊥
    lower_case a = by (h.lowers t a) (cases_lt k (suc i)) (cases_lt (suc i) k)
      where
        by : IsAmong t (level levels (suc i)) → (k < suc i) ⊎ (suc i ≤ k) → (suc i < k) ⊎ (k ≤ suc i) → ⊥
        by there (inl lt) y = not_older (older_level levels k (suc i) u t w v lt order at.old there w_in v_in same)
        by there (inr ge) (inl gt) = below_all gt (among_right t upper lower a) (ranged (suc i) t there)
        by there (inr ge) (inr le) =
            let f : k ≡ suc i = omega (arith, ge, le) in
            let apart = at.lower_apart f in
            let at_one : IsAmong u (level levels (suc i)) = subst (λ n. IsAmong u (level levels n)) f at.old in
            let mine = (ranged (suc i) t there).within v v_in in
            let others = (ranged (suc i) u at_one).within w w_in in
            let met : meets (range_of t) u ≡ true = covers_meets (range_of t) u v.key mine.0 mine.1 (subst (λ key. at_most u.first key ≡ true) same others.0) (subst (λ key. at_most key u.last ≡ true) same others.1) in
            ⊎_elim
            (λ s. no (sym (h.meet t a) ∙ ap (meets h.range) s ∙ apart))
            (λ beside. ⊎_elim
            (λ b. no (sym met ∙ apart_right (range_of t) u b))
            (λ b. no (sym met ∙ apart_left (range_of t) u b))
            beside)
            (in_run (level levels (suc i)) (run_at levels runs i) t u there at_one)

    none_older : IsAmong t (upper ++ lower) → ⊥
    none_older a = ⊎_elim (λ b. upper_case i refl h.uppers b) (λ b. lower_case b) (among_either t upper lower a)

  -- at the bottom, an older version of an input's key that stands after the merge is an output's
  pub version_lowest : IsVersionOrder (map versions_of (places levels)) → ((k : ℕ) (t : Table) → IsAmong t (level levels k) → IsRanged t) → flag ≡ true → (whole : KeyRange) → hull (upper ++ lower) ≡ Some whole
      → (v w : Version) → IsAmong v (versions_of (upper ++ lower)) → HasVersion after w → w.key ≡ v.key → w.number < v.number → IsAmong w (versions_of new)
  version_lowest order ranged bottom whole is v w a b same older =
      let t = in_tables v (upper ++ lower) a in
      ⊎_elim
      (λ s. absurd (none_older order ranged bottom whole is t.0 b.table v w t.2 b.has same older b.place s t.1))
      (λ n. of_table w b.table new n.1 b.has)
      (stood b.place b.table b.there)

-- ---- the order of versions

module _ (levels : Levels) (runs : AreRuns levels) (flag : Bool) (i : ℕ) (first : Table) (others lower new : List Table) (h : HasItsTables levels flag i (first ∷ others) lower)
    (order : IsVersionOrder (map versions_of (places levels))) (ranged : (k : ℕ) (t : Table) → IsAmong t (level levels k) → IsRanged t) (from_inputs : (v : Version) → IsAmong v (versions_of new) → IsAmong v (versions_of ((first ∷ others) ++ lower))) where
  abbrev merged_levels : Levels
  merged_levels = replaced i h.range (length (first ∷ others)) new levels

  -- an output's version stood in an upper table or a lower one
  record From (v : Version) : Type 0 where
    pub source : Table
    pub has : IsAmong v source.versions
    pub place : ℕ
    pub there : IsAmong source (level levels place)
    pub upper_or_lower : ((place ≡ i) × IsAmong source (first ∷ others)) ⊎ ((place ≡ suc i) × IsAmong source lower)

  from : (t : Table) (v : Version) → IsAmong t new → IsAmong v t.versions → From v
  from t v a b =
      let s = in_tables v ((first ∷ others) ++ lower) (from_inputs v (of_table v t new a b)) in
      ⊎_elim
      (λ c. record { source = s.0; has = s.2; place = i; there = upper_there levels i (first ∷ others) h.uppers s.0 c; upper_or_lower = inl (refl, c) })
      (λ c. record { source = s.0; has = s.2; place = suc i; there = h.lowers s.0 c; upper_or_lower = inr (refl, c) })
      (among_either s.0 (first ∷ others) lower s.1)

  -- what stood above the output level, or in the upper one, is newer than the outputs
  newer_than_output : (k : ℕ) (t u : Table) (v w : Version) → Stood levels runs flag i first others lower new h k t → k < suc i → IsAmong u new → IsAmong v t.versions → IsAmong w u.versions → v.key ≡ w.key → w.number < v.number
  newer_than_output k t u v w s lt b c d same = by (from u w b d)
    where
      same_level : (f : From w) → IsAmong f.source (first ∷ others) → k ≡ i → w.number < v.number
      same_level f a e = upper_at i refl h.uppers
        where
          upper_at : (n : ℕ) → n ≡ i → IsUpper levels n (first ∷ others) → w.number < v.number
          upper_at zero g q =
              before_oldest levels runs flag i first others lower new h q t f.source v w order (s.newer (let z : k ≡ 0 = omega (arith, e, g) in z) (sym g)) a c f.has same
          upper_at (suc n) g q =
              let cover = hull_covers (first ∷ others) h.range h.hull_is f.source a in
              let theirs = (ranged f.place f.source f.there).within w f.has in
              let mine = (ranged k t s.old).within v c in
              let met = covers_meets h.range t w.key (at_most_trans h.range.first f.source.first w.key cover.0 theirs.0) (at_most_trans w.key f.source.last h.range.last theirs.1 cover.1)
              (subst (λ key. at_most t.first key ≡ true) same mine.0) (subst (λ key. at_most key t.last ≡ true) same mine.1) in
              absurd (no (sym met ∙ s.upper_apart e (omega (arith, g))))

      by : From w → w.number < v.number
      by f = ⊎_elim
          (λ up. ⊎_elim
          (λ (below : k < i). older_level levels k f.place t f.source v w (omega (arith, below, up.0)) order s.old f.there c f.has same)
          (λ (reached : i ≤ k). same_level f up.1 (let e : k ≡ i = omega (arith, reached, lt) in e))
          (cases_lt k i))
          (λ low. older_level levels k f.place t f.source v w (omega (arith, lt, low.0)) order s.old f.there c f.has same)
          f.upper_or_lower

  -- and the outputs than what stood below
  output_newer : (l : ℕ) (t u : Table) (v w : Version) → IsAmong t new → Stood levels runs flag i first others lower new h l u → suc i < l → IsAmong v t.versions → IsAmong w u.versions → v.key ≡ w.key → w.number < v.number
  output_newer l t u v w a s lt c d same = by (from t v a c)
    where
      by : From v → w.number < v.number
      by f = older_level levels f.place l f.source u v w (⊎_elim (λ up. omega (arith, lt, up.0)) (λ low. omega (arith, lt, low.0)) f.upper_or_lower) order f.there s.old f.has d same

  newer_level : (k l : ℕ) → k < l → AreNewer (level merged_levels k) (level merged_levels l)
  newer_level k l lt t u v w a b c d same = ⊎_elim
      (λ s. ⊎_elim
      (λ z. older_level levels k l t u v w lt order s.old z.old c d same)
      (λ made. newer_than_output k t u v w s (omega (arith, lt, made.0)) made.1 c d same)
      (stood levels runs flag i first others lower new h l u b))
      (λ made. ⊎_elim
      (λ z. output_newer l t u v w made.1 z (omega (arith, lt, made.0)) c d same)
      (λ also. absurd (omega (arith, lt, made.0, also.0)))
      (stood levels runs flag i first others lower new h l u b))
      (stood levels runs flag i first others lower new h k t a)

  runs_order : (n : ℕ) → IsUpper levels n (first ∷ others) → IsVersionOrder (map versions_of (replaced n h.range (length (first ∷ others)) new levels).runs)
  runs_order zero u =
      subst (λ (rs : List (List Table)). IsVersionOrder (map versions_of rs)) (sym (newer_oldest levels.runs (first ∷ others) runs.some u))
      (order_front u.newer u.oldest (subst (λ (rs : List (List Table)). IsVersionOrder (map versions_of rs)) u.split (order_front levels.runs levels.deeper order)))
  runs_order (suc n) u = order_front levels.runs levels.deeper order

  pub merged_order : IsVersionOrder (map versions_of (places merged_levels))
  merged_order =
      order_join merged_levels.runs merged_levels.deeper (runs_order i h.uppers)
      (order_from merged_levels.deeper (λ k l lt. newer_level (suc k) (suc l) (omega (arith, lt))))
      (λ l. newer_level 0 (suc l) (omega arith))

  pub merged_ranges : ((t : Table) → IsAmong t new → IsRanged t) → (k : ℕ) (t : Table) → IsAmong t (level merged_levels k) → IsRanged t
  merged_ranges made k t a = ⊎_elim (λ s. ranged k t s.old) (λ n. made t n.1) (stood levels runs flag i first others lower new h k t a)

-- ---- the law

pub order_law : OrderLaw
order_law levels flag i [] lower new runs h ordered from_inputs made =
    subst (λ (o : Option KeyRange). AreOrdered (merged_at i o 0 new levels)) (sym h.hull_is) (record {
      order = rewritten_order levels runs flag i lower new h ordered.order ordered.ranges from_inputs;
      ranges = rewritten_ranges levels runs flag i lower new h ordered.order ordered.ranges from_inputs made;
    })
order_law levels flag i (first ∷ others) lower new runs h ordered from_inputs made =
    subst (λ (o : Option KeyRange). AreOrdered (merged_at i o (length (first ∷ others)) new levels)) (sym h.hull_is) (record {
      order = merged_order levels runs flag i first others lower new h ordered.order ordered.ranges from_inputs;
      ranges = merged_ranges levels runs flag i first others lower new h ordered.order ordered.ranges from_inputs made;
    })

pub flush_law : FlushLaw
flush_law levels new ordered newer made = record { order = (newer, ordered.order); ranges = ranges }
  where
    ranges : (k : ℕ) (t : Table) → IsAmong t (level (flushed new levels) k) → IsRanged t
    ranges zero t a = ⊎_elim (λ b. made t b) (λ b. ordered.ranges 0 t b) (among_either t new (all_tables levels.runs) a)
    ranges (suc i) t a = ordered.ranges (suc i) t a

pub merging_law : MergingLaw
merging_law levels flag i [] lower new runs h =
    subst (λ (o : Option KeyRange). MergesVersions levels (merged_at i o 0 new levels) flag lower new) (sym h.hull_is) (rewriting levels runs flag i lower new h)
merging_law levels flag i (first ∷ others) lower new runs h =
    let upper : List Table = first ∷ others in
    subst (λ (o : Option KeyRange). MergesVersions levels (merged_at i o (length upper) new levels) flag (upper ++ lower) new) (sym h.hull_is) (record {
      stays = version_stays levels runs flag i first others lower new h;
      made = version_new levels runs flag i first others lower new h;
      nothing_else = version_else levels runs flag i first others lower new h;
      inputs_there = input_there levels runs flag i first others lower new h;
      lowest = λ ordered bottom v w a b same older.
          let t = in_tables v (upper ++ lower) a in
          let whole = hull_some (upper ++ lower) t.0 t.1 in
          version_lowest levels runs flag i first others lower new h ordered.order ordered.ranges bottom whole.0 whole.1 v w a b same older;
    })
