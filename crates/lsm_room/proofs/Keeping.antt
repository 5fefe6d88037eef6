-- What a merge keeps weighs no more than its versions, and with one count it keeps one version of a key.
use Rattle.std.proofs.Common.{◌≡◌, ℕ, ◌+◌, ◌≤◌, Bool, true, false, cond, ◌||◌, List, [], ◌∷◌, length, filter, Option, Some, None, not, ltb, ◌&&◌, is_some, refl, sym, ap, subst, ◌∙◌, arith}
use Rattle.std.specs.Prelude.{sum_by, count_by, is_none, ◌==◌}
use Rattle.std.specs.List.{AllByRecursion, list_any}
use Rattle.std.specs.declared.cmp.Ordering.{Ordering}
use Rattle.std.specs.declared.cmp.Ordering.TheVariants.{Less, Equal}
use Rattle.std.specs.Ordering.{nat_cmp, ordering_then}
use Rattle.std.proofs.lemmas.Bool.{eqb-true, le-ltb}
use Rattle.std.proofs.lemmas.Cmp.{tied_itself, nat_cmp_total, nat_list_cmp_total}
use Rattle.std.proofs.lemmas.List.Elements.{recursion_from_All}
use Rattle.std.proofs.lemmas.List.Sums.{sum_by-cons}
use Rattle.lsm_codec.specs.Keys.{Bytes, byte_order}
use Rattle.lsm_codec.specs.Versions.{Version, AreOrdered, entry_order, is_same_key, newest, one_if_none, deletes_in}
use Rattle.lsm_codec.proofs.KeyOrder.{same_key}
use Rattle.lsm_table.proofs.Ends.{with_key, count-cons}
use Rattle.lsm_mem.specs.Ranges.{is_version}
use Rattle.lsm_mem.proofs.Weights.{ones, placed_one}
use Rattle.lsm_merge.specs.Keeping.{all_placed, in_order, is_newest_at_a_cut, kept_at, is_older_put, deletes_nothing, keep}
use Rattle.lsm_merge.proofs.MapLaws.{keep_law}

-- ---- weights

module _ (weight : Version → ℕ) where
  passed : (test : Version → Bool) (versions : List Version) → sum_by weight (filter test versions) ≤ sum_by weight versions
  passed test [] = omega arith
  passed test (v ∷ versions) = by (test v) (passed test versions)
    where
      by : (b : Bool) → sum_by weight (filter test versions) ≤ sum_by weight versions → sum_by weight (cond b (v ∷ filter test versions) (filter test versions)) ≤ sum_by weight (v ∷ versions)
      by true le = omega (arith, le, sum_by-cons weight v versions, sum_by-cons weight v (filter test versions))
      by false le = omega (arith, le, sum_by-cons weight v versions)

  all_placed_ones : (added versions : List Version) → sum_by weight (all_placed added versions) ≤ sum_by weight added + sum_by weight versions
  all_placed_ones [] versions = omega arith
  all_placed_ones (v ∷ added) versions = omega (arith, placed_one weight v (all_placed added versions), all_placed_ones added versions, sum_by-cons weight v added)

  kept_at_cuts : (cuts : List ℕ) (versions : List Version) → sum_by weight (kept_at cuts versions) ≤ sum_by weight versions
  kept_at_cuts cuts versions = omega (arith, passed (is_newest_at_a_cut cuts versions) (in_order versions), all_placed_ones versions [])

  -- what is kept weighs no more
  pub kept_weighs : (cuts : List ℕ) (bottom : Bool) (versions : List Version) → sum_by weight (keep cuts bottom versions) ≤ sum_by weight versions
  unfolding keep
  kept_weighs cuts false versions = kept_at_cuts cuts versions
  kept_weighs cuts true versions = omega (arith, passed (λ v. not (deletes_nothing (kept_at cuts versions) v)) (kept_at cuts versions), kept_at_cuts cuts versions)

-- no more versions are kept
pub kept_few : (cuts : List ℕ) (bottom : Bool) (versions : List Version) → length (keep cuts bottom versions) ≤ length versions
kept_few cuts bottom versions = omega (arith, kept_weighs (λ v. 1) cuts bottom versions, ones versions, ones (keep cuts bottom versions))

-- ---- with one count

or_false : (b : Bool) → (b || false) ≡ true → b ≡ true
or_false true is = refl
or_false false is = is

same_found : (found : Option Version) (v w : Version) → (is_version v found || false) ≡ true → (is_version w found || false) ≡ true → v.number ≡ w.number
same_found None v w is also = absurd (let clash : false ≡ true = is in cc)
same_found (Some f) v w is also =
    omega (arith, eqb-true f.number v.number (or_false (f.number == v.number) is), eqb-true f.number w.number (or_false (f.number == w.number) also))

-- two versions of one key that are the newest at a count have one number
one_number : (cut : ℕ) (versions : List Version) (v w : Version) → v.key ≡ w.key → is_newest_at_a_cut (cut ∷ []) versions v ≡ true → is_newest_at_a_cut (cut ∷ []) versions w ≡ true → v.number ≡ w.number
one_number cut versions v w same is also =
    same_found (newest v.key cut versions) v w is (subst (λ (k : Bytes). (is_version w (newest k cut versions) || false) ≡ true) (sym same) also)

tied : (v w : Version) → v.key ≡ w.key → v.number ≡ w.number → entry_order v w ≡ Equal
tied v w key number =
    let keys : byte_order v.key w.key ≡ Equal = ap (byte_order v.key) (sym key) ∙ tied_itself nat_list_cmp_total v.key in
    let numbers : nat_cmp w.number v.number ≡ Equal = ap (nat_cmp w.number) number ∙ tied_itself nat_cmp_total w.number in
    ap (λ (o : Ordering). ordering_then o (nat_cmp w.number v.number)) keys ∙ numbers

less_tied : (o : Ordering) → o ≡ Less → o ≡ Equal → ⊥
less_tied o less equal = cc

module _ (cut : ℕ) (versions : List Version) (key : Bytes) where
  abbrev IsAsked : Version → Type 0
  IsAsked v = is_newest_at_a_cut (cut ∷ []) versions v ≡ true

  none_behind : (v : Version) (rest : List Version) → AllByRecursion (λ w. entry_order v w ≡ Less) rest → key ≡ v.key → IsAsked v → AllByRecursion IsAsked rest → count_by (with_key key) rest ≡ 0
  none_behind v [] less is asked all = refl
  none_behind v (w ∷ rest) less is asked all = count-cons (with_key key) w rest ∙ by (none_behind v rest less.1 is asked all.1) (is_same_key key w.key) refl
    where
      by : count_by (with_key key) rest ≡ 0 → (b : Bool) → is_same_key key w.key ≡ b → cond b 1 0 + count_by (with_key key) rest ≡ 0
      by none true same =
          let keys : v.key ≡ w.key = sym is ∙ same_key key w.key same in
          absurd (less_tied (entry_order v w) less.0 (tied v w keys (one_number cut versions v w keys asked all.0)))
      by none false same = omega (arith, none)

  one_asked : (these : List Version) → AreOrdered these → AllByRecursion IsAsked these → count_by (with_key key) these ≤ 1
  one_asked [] ordered all = omega arith
  one_asked (v ∷ these) ordered all = by (one_asked these ordered.1 all.1) (is_same_key key v.key) refl (count-cons (with_key key) v these)
    where
      by : count_by (with_key key) these ≤ 1 → (b : Bool) → is_same_key key v.key ≡ b → count_by (with_key key) (v ∷ these) ≡ cond b 1 0 + count_by (with_key key) these → count_by (with_key key) (v ∷ these) ≤ 1
      by few true same counted = omega (arith, counted, none_behind v these (recursion_from_All (λ w. entry_order v w ≡ Less) these ordered.0) (same_key key v.key same) all.0 all.1)
      by few false same counted = omega (arith, counted, few)

  -- one version of a key is kept
  pub one_kept : (bottom : Bool) → count_by (with_key key) (keep (cut ∷ []) bottom versions) ≤ 1
  one_kept bottom =
      let law = keep_law (cut ∷ []) versions in
      one_asked (keep (cut ∷ []) bottom versions) (law.ordered bottom) (recursion_from_All IsAsked (keep (cut ∷ []) bottom versions) (law.asked_for bottom))

-- ---- at the bottom

-- what isn't passed over has a value, or some other is older
put_left : (value : Option Bytes) (older : Bool) → older ≡ false → (is_none value && not older) ≡ false → is_some value ≡ true
put_left None older none left = absurd (let clash : true ≡ false = sym (ap not none) ∙ left in cc)
put_left (Some value) older none left = refl

older_not : (a b c : Bool) → (a ≡ true → b ≡ false) → ((a && b) && c) ≡ false
older_not true true c none = absurd (let clash : true ≡ false = none refl in cc)
older_not true false c none = refl
older_not false b c none = refl

module _ (cut : ℕ) (versions : List Version) where
  none_older : (v : Version) (these : List Version) → is_newest_at_a_cut (cut ∷ []) versions v ≡ true → AllByRecursion (λ w. is_newest_at_a_cut (cut ∷ []) versions w ≡ true) these → list_any (is_older_put v) these ≡ false
  none_older v [] asked all = refl
  none_older v (w ∷ these) asked all =
      let here : is_older_put v w ≡ false =
      older_not (is_same_key v.key w.key) (ltb w.number v.number) (is_some w.value) (λ same. le-ltb w.number v.number (omega (arith, one_number cut versions v w (same_key v.key w.key same) asked all.0)))
      in ap (λ (b : Bool). b || list_any (is_older_put v) these) here ∙ none_older v these asked all.1

  puts_left : (all these : List Version) → AllByRecursion (λ w. is_newest_at_a_cut (cut ∷ []) versions w ≡ true) all → AllByRecursion (λ w. is_newest_at_a_cut (cut ∷ []) versions w ≡ true) these
      → AllByRecursion (λ v. deletes_nothing all v ≡ false) these → AllByRecursion (λ v. is_some v.value ≡ true) these
  puts_left all [] asked these_asked idle = tt
  puts_left all (v ∷ these) asked these_asked idle =
      (put_left v.value (list_any (is_older_put v) all) (none_older v all these_asked.0 asked) idle.0, puts_left all these asked these_asked.1 idle.1)

  -- only puts are kept
  pub puts_kept : AllByRecursion (λ v. is_some v.value ≡ true) (keep (cut ∷ []) true versions)
  puts_kept =
      let law = keep_law (cut ∷ []) versions in
      let kept : List Version = keep (cut ∷ []) true versions in
      let asked = recursion_from_All (λ v. is_newest_at_a_cut (cut ∷ []) versions v ≡ true) kept (law.asked_for true) in
      puts_left kept kept asked asked (recursion_from_All (λ v. deletes_nothing kept v ≡ false) kept law.no_idle_delete)

-- as many puts as there are no deletes
abbrev pub one_if_some : Version → ℕ
one_if_some v = cond (is_some v.value) 1 0

some_or_none : (value : Option Bytes) → cond (is_some value) 1 0 + one_if_none value ≡ 1
some_or_none None = refl
some_or_none (Some value) = refl

pub puts_and_deletes : (versions : List Version) → sum_by one_if_some versions + deletes_in versions ≡ length versions
puts_and_deletes [] = refl
puts_and_deletes (v ∷ versions) =
    omega (arith, puts_and_deletes versions, some_or_none v.value, sum_by-cons one_if_some v versions, sum_by-cons (λ (w : Version). one_if_none w.value) v versions)

puts_alone : (versions : List Version) → AllByRecursion (λ v. is_some v.value ≡ true) versions → sum_by one_if_some versions ≡ length versions
puts_alone [] all = refl
puts_alone (v ∷ versions) all = omega (arith, puts_alone versions all.1, ap {B = ℕ} (λ (b : Bool). cond b 1 0) all.0, sum_by-cons one_if_some v versions)

-- no more are kept than there are puts
pub few_puts : (cut : ℕ) (versions : List Version) → length (keep (cut ∷ []) true versions) ≤ sum_by one_if_some versions
few_puts cut versions = omega (arith, puts_alone (keep (cut ∷ []) true versions) (puts_kept cut versions), kept_weighs one_if_some (cut ∷ []) true versions)
