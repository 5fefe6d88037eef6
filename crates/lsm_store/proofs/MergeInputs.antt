-- The tables around a merge: its inputs, what lies between and after them, and the newest versions of its inputs.
use Rattle.std.proofs.Common.{◌≡◌, ⊎_elim, ℕ, zero, suc, ◌≤◌, ◌<◌, Bool, true, false, List, [], ◌∷◌, ◌++◌, length, drop, get_or, Option, Some, None, refl, sym, ap, subst, ◌∙◌, arith}
use Rattle.lsm_codec.specs.Keys.{Bytes}
use Rattle.lsm_codec.specs.Versions.{Version, newest}
use Rattle.lsm_levels.proofs.HullLaws.{hull_covers}
use Rattle.lsm_levels.proofs.KeyOrder.{at_most_trans}
use Rattle.lsm_levels.proofs.Members.{among_either, among_passed, passed_among}
use Rattle.lsm_levels.proofs.Ranges.{no, other_apart}
use Rattle.lsm_levels.proofs.Runs.{run_at, upper_is}
use Rattle.lsm_levels.proofs.Taking.{covers_meets}
use Rattle.lsm_levels.specs.Among.{IsAmong}
use Rattle.lsm_levels.specs.Held.{AreRuns, IsUpper, HasItsTables}
use Rattle.lsm_levels.specs.Levels.{Levels, all_tables, level, reach}
use Rattle.lsm_levels.specs.Tables.{Table, KeyRange, range_of, at_most, spanned, hull, meets}
use Rattle.lsm_machine.proofs.NewestAmong.{key_of, newest_is, none_is}
use Rattle.lsm_store.proofs.UpperRuns.{holding_tables}
use Rattle.lsm_store.specs.InstalledJobs.{that_meet, runs_holding}
use Rattle.lsm_machine.specs.WorkMaps.{IsUnique}

-- ---- lists with the same versions

module _ (all xs ys : List Version) (unique : IsUnique all) (there : (v : Version) → IsAmong v xs → IsAmong v all) (to : (v : Version) → IsAmong v xs → IsAmong v ys) (back : (v : Version) → IsAmong v ys → IsAmong v xs) where
  -- have the same newest versions
  pub same_newest : (key : Bytes) (n : ℕ) → newest key n xs ≡ newest key n ys
  same_newest key n = by (newest key n xs) (newest key n ys) refl refl
    where
      by : (o p : Option Version) → newest key n xs ≡ o → newest key n ys ≡ p → o ≡ p
      by None None e f = refl
      by None (Some w) e f = let is = newest_is key n ys w f in absurd (none_is key n xs e w (back w is.among) is.of)
      by (Some v) None e f = let is = newest_is key n xs v e in absurd (none_is key n ys f v (to v is.among) is.of)
      by (Some v) (Some w) e f =
          let one = newest_is key n xs v e in
          let two = newest_is key n ys w f in
          let up = two.greatest v (to v one.among) one.of in
          let down = one.greatest w (back w two.among) two.of in
          let number : v.number ≡ w.number = omega (arith, up, down) in
          ap (λ (x : Version). Some x) (unique v w (there v one.among) (there w (back w two.among)) (sym (key_of key n v one.of) ∙ key_of key n w two.of) number)

-- ---- the tables of a merge, where they stand

-- the upper inputs in the list of a manifest
abbrev pub uppers_at : Levels → ℕ → KeyRange → ℕ → List Table
uppers_at levels i r zero = []
uppers_at levels zero r (suc more) = all_tables (runs_holding (suc more) levels.runs)
uppers_at levels (suc i) r (suc more) = that_meet r (level levels (suc i))

-- a table whose range has a key in common with none of these
abbrev pub IsBeside : List Table → Table → Type 0
IsBeside tables t = (a : Table) → IsAmong a tables → (k : Bytes) → at_most a.first k ≡ true → at_most k a.last ≡ true → at_most t.first k ≡ true → at_most k t.last ≡ true → ⊥

module _ (levels : Levels) (bottom : Bool) (i : ℕ) (upper lower : List Table) (runs : AreRuns levels) (held : HasItsTables levels bottom i upper lower) where
  abbrev r : KeyRange
  r = held.range

  -- the upper tables are those
  uppers_are : (us : List Table) (j : ℕ) → reach us lower ≡ Some held.range → IsUpper levels j us → uppers_at levels j held.range (length us) ≡ us
  uppers_are [] j reached is = refl
  uppers_are (u ∷ us) zero reached is = holding_tables levels.runs (u ∷ us) runs.some is
  uppers_are (u ∷ us) (suc j) reached is = sym (upper_is levels j (u ∷ us) r reached is)

  pub upper_in : (t : Table) → IsAmong t (uppers_at levels i held.range (length upper)) → IsAmong t upper
  upper_in t a = subst (λ (ts : List Table). IsAmong t ts) (uppers_are upper i held.hull_is held.uppers) a

  pub in_upper : (t : Table) → IsAmong t upper → IsAmong t (uppers_at levels i held.range (length upper))
  in_upper t a = subst (λ (ts : List Table). IsAmong t ts) (sym (uppers_are upper i held.hull_is held.uppers)) a

  -- and the lower ones those that meet the range
  pub lower_in : (t : Table) → IsAmong t (that_meet held.range (level levels (suc i))) → IsAmong t lower
  lower_in t a = let p = passed_among (meets r) t (level levels (suc i)) a in held.all t p.0 p.1

  pub in_lower : (t : Table) → IsAmong t lower → IsAmong t (that_meet held.range (level levels (suc i)))
  in_lower t a = among_passed (meets r) t (level levels (suc i)) (held.lowers t a) (held.meet t a)

  -- a table that doesn't meet the range is apart from the upper ones
  pub beside_upper : (t : Table) → meets held.range t ≡ false → IsBeside upper t
  beside_upper t apart = by upper held.hull_is
    where
      by : (us : List Table) → reach us lower ≡ Some held.range → IsBeside us t
      by [] reached a b k low high first last = absurd b
      by (u ∷ us) reached a b k low high first last =
          let whole = hull_covers (u ∷ us) r reached a b in
          no (sym (covers_meets r t k (at_most_trans r.first a.first k whole.0 low) (at_most_trans k a.last r.last high whole.1) first last) ∙ apart)

  -- another table of the lower level is apart from the lower ones too
  beside_lower : (t : Table) → meets held.range t ≡ false → IsAmong t (level levels (suc i)) → IsBeside lower t
  beside_lower t apart there a b k low high first last =
      no (sym (covers_meets (range_of a) t k low high first last)
      ∙ other_apart (level levels (suc i)) (run_at levels runs i) a t (held.lowers a b) there (λ same. no (sym (held.meet a b) ∙ ap (meets r) same ∙ apart)))

  pub beside_inputs : (t : Table) → meets held.range t ≡ false → IsAmong t (level levels (suc i)) → IsBeside (upper ++ lower) t
  beside_inputs t apart there a b = ⊎_elim (λ c. beside_upper t apart a c) (λ c. beside_lower t apart there a c) (among_either a upper lower b)

  -- at the bottom, so is each table of a lower level
  pub beside_bottom : bottom ≡ true → (k : ℕ) (t : Table) → suc i < k → IsAmong t (level levels k) → IsBeside (upper ++ lower) t
  beside_bottom flag k t below there = by (upper ++ lower) (λ whole is. held.lowest flag k t whole below there is)
    where
      by : (us : List Table) → ((whole : KeyRange) → hull us ≡ Some whole → meets whole t ≡ false) → IsBeside us t
      by [] apart a b key low high first last = absurd b
      by (u ∷ us) apart a b key low high first last =
          let w = spanned u (hull us) in
          let whole = hull_covers (u ∷ us) w refl a b in
          no (sym (covers_meets w t key (at_most_trans w.first a.first key whole.0 low) (at_most_trans key a.last w.last high whole.1) first last) ∙ apart w refl)

-- a table of the lists from one on stands in one of these
pub in_dropped : (t : Table) (j : ℕ) (xs : List (List Table)) → IsAmong t (all_tables (drop j xs)) → (l : ℕ) × (j ≤ l) × IsAmong t (get_or xs l [])
in_dropped t zero [] a = absurd a
in_dropped t zero (x ∷ xs) a = ⊎_elim (λ b. (0, omega arith, b)) (λ b. let more = in_dropped t zero xs b in (suc more.0, omega arith, more.2)) (among_either t x (all_tables xs) a)
in_dropped t (suc j) [] a = absurd a
in_dropped t (suc j) (x ∷ xs) a = let more = in_dropped t j xs a in let le = more.1 in (suc more.0, omega (arith, le), more.2)
