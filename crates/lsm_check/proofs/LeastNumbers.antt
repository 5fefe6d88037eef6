-- The least number of each key, and what one version more makes of it.
use Rattle.std.proofs.Common.{◌≡◌, ◌⊎◌, inl, inr, ℕ, ◌+◌, ◌<◌, ◌≤◌, Bool, true, false, cond, ltb, List, [], ◌∷◌, ◌++◌, length, take, get_or, Option, Some, None, refl, ap, sym, ◌∙◌, subst, arith, append_assoc, length-append}
use Rattle.std.specs.Prelude.{min}
use Rattle.std.specs.Bool.{MatchBool}
use Rattle.std.specs.List.{AllByRecursion}
use Rattle.std.specs.Map.{lookup}
use Rattle.std.specs.BTreeMap.{insert_entry, is_at}
use Rattle.std.specs.declared.vec.Vec.{Vec}
use Rattle.std.specs.declared.cmp.Ordering.{Ordering}
use Rattle.std.specs.declared.cmp.Ordering.TheVariants.{Less, Equal, Greater}
use Rattle.std.specs.Ordering.{is_eq, match_ordering}
use Rattle.std.proofs.lemmas.Bool.{cases_lt, ltb-true, ltb-false}
use Rattle.std.proofs.lemmas.List.{take_more}
use Rattle.std.proofs.lemmas.Option.{same_Some}
use Rattle.lsm_codec.specs.Keys.{Bytes, byte_order}
use Rattle.lsm_codec.specs.Versions.{Version, is_same_key}
use Rattle.lsm_codec.proofs.KeyOrder.{same_key, key_itself}
use Rattle.lsm_codec.proofs.Lists.{all_map, all_append, all_at}
use Rattle.lsm_levels.specs.Orders.{IsNewerPlace}
use Rattle.lsm_levels.proofs.NewestOf.{newer_append}
use Rattle.lsm_check.specs.Seen.{Numbers, plain, number_of, least_with, IsCovered, HasVersion, AreLeast, SeenView, IsSeen}

-- ---- the tree's entries as plain lists

module _ {Z : Type 0} where
  abbrev pub vec_order : Vec ℕ Z → Vec ℕ Z → Ordering
  vec_order x y = byte_order x.items y.items

  abbrev pub vec_at : Bytes → Vec ℕ Z → Ordering
  vec_at q k = byte_order q k.items

  plain-insert_entry : (es : List (Vec ℕ Z × ℕ)) (k : Vec ℕ Z) (n : ℕ) → plain (insert_entry vec_order es k n) ≡ insert_entry byte_order (plain es) k.items n
  plain-insert_entry [] k n = refl
  plain-insert_entry (e ∷ es) k n = by (plain-insert_entry es k n) (byte_order k.items e.0.items)
    where
      by : plain (insert_entry vec_order es k n) ≡ insert_entry byte_order (plain es) k.items n → (r : Ordering) → plain (match_ordering r ((k, n) ∷ e ∷ es) ((e.0, n) ∷ es) (e ∷ insert_entry vec_order es k n))
          ≡ match_ordering r ((k.items, n) ∷ plain (e ∷ es)) ((e.0.items, n) ∷ plain es) ((e.0.items, e.1) ∷ insert_entry byte_order (plain es) k.items n)
      by ih Less = refl
      by ih Equal = refl
      by ih Greater = ap (λ l. (e.0.items, e.1) ∷ l) ih

  lookup-plain : (q : Bytes) (es : List (Vec ℕ Z × ℕ)) → number_of q (plain es) ≡ lookup (is_at (vec_at q)) es
  lookup-plain q [] = refl
  lookup-plain q (e ∷ es) = ap (cond (is_eq (byte_order q e.0.items)) (Some e.1)) (lookup-plain q es)

  -- what a look-up in the tree says of a key
  pub number_found : (key q : Bytes) (es : List (Vec ℕ Z × ℕ)) (numbers : Numbers) (o : Option ℕ) → key ≡ q → plain es ≡ numbers → o ≡ lookup (is_at (vec_at key)) es → number_of q numbers ≡ o
  number_found key q es numbers o same view is = ap (λ (k : Bytes). number_of k numbers) (sym same) ∙ ap (number_of key) (sym view) ∙ lookup-plain key es ∙ sym is

  -- what an insertion leaves
  pub number_put : (old new : List (Vec ℕ Z × ℕ)) (key : Vec ℕ Z) (q : Bytes) (n m : ℕ) (numbers : Numbers) → new ≡ insert_entry vec_order old key n → plain old ≡ numbers → key.items ≡ q → n ≡ m → plain new ≡ insert_entry byte_order numbers q m
  number_put old new key q n m numbers is view same number =
      ap plain is ∙ plain-insert_entry old key n ∙ ap (λ (ns : Numbers). insert_entry byte_order ns key.items n) view ∙ ap (λ (k : Bytes). insert_entry byte_order numbers k n) same ∙ ap (insert_entry byte_order numbers q) number

-- ---- a number for a key

-- a key that is found by a query is the query
apart : (q key other : Bytes) → is_same_key q key ≡ true → is_same_key q other ≡ true → byte_order key other ≡ Greater → ⊥
apart q key other one two greater =
    let same : key ≡ other = sym (same_key q key one) ∙ same_key q other two in
    let tied : is_same_key key other ≡ true = subst (λ (k : Bytes). is_same_key key k ≡ true) same (key_itself key) in
    let not_tied : is_same_key key other ≡ false = ap is_eq greater in
    cc

pub number_of-insert : (q key : Bytes) (n : ℕ) (numbers : Numbers) → number_of q (insert_entry byte_order numbers key n) ≡ cond (is_same_key q key) (Some n) (number_of q numbers)
number_of-insert q key n [] = refl
number_of-insert q key n (e ∷ es) = by (number_of-insert q key n es) (byte_order key e.0) refl
  where
    replaced : (a b : Bool) → a ≡ b → cond a (Some n) (number_of q es) ≡ cond b (Some n) (cond a (Some e.1) (number_of q es))
    replaced true true same = refl
    replaced false false same = refl
    replaced true false same = absurd cc
    replaced false true same = absurd cc

    swapped : (a b : Bool) (o : Option ℕ) → (a ≡ true → b ≡ true → ⊥) → o ≡ cond b (Some n) (number_of q es) → cond a (Some e.1) o ≡ cond b (Some n) (cond a (Some e.1) (number_of q es))
    swapped true true o both is = absurd (both refl refl)
    swapped true false o both is = refl
    swapped false b o both is = is

    by : number_of q (insert_entry byte_order es key n) ≡ cond (is_same_key q key) (Some n) (number_of q es) → (r : Ordering) → byte_order key e.0 ≡ r → number_of q (match_ordering r ((key, n) ∷ e ∷ es) ((e.0, n) ∷ es) (e ∷ insert_entry byte_order es key n)) ≡ cond (is_same_key q key) (Some n) (number_of q (e ∷ es))
    by later Less is = refl
    by later Equal is = replaced (is_same_key q e.0) (is_same_key q key) (ap (is_same_key q) (sym (same_key key e.0 (ap is_eq is))))
    by later Greater is = swapped (is_same_key q e.0) (is_same_key q key) (number_of q (insert_entry byte_order es key n)) (λ one two. apart q key e.0 two one is) later

-- ---- one version more

least_at_most : (n : ℕ) (o : Option ℕ) → least_with n o ≤ n
least_at_most n None = omega arith
least_at_most n (Some m) = omega arith

least_below : (n m : ℕ) (o : Option ℕ) → o ≡ Some m → least_with n o ≤ m
least_below n m None is = absurd cc
least_below n m (Some k) is = let same : k ≡ m = same_Some k m is in omega arith

has_left : (key : Bytes) (n : ℕ) (xs ys : List Version) → HasVersion key n xs → HasVersion key n (xs ++ ys)
has_left key n [] ys has = absurd has
has_left key n (x ∷ xs) ys (inl is) = inl is
has_left key n (x ∷ xs) ys (inr later) = inr (has_left key n xs ys later)

has_right : (key : Bytes) (n : ℕ) (xs ys : List Version) → HasVersion key n ys → HasVersion key n (xs ++ ys)
has_right key n [] ys has = has
has_right key n (x ∷ xs) ys has = inr (has_right key n xs ys has)

module _ (numbers : Numbers) (versions : List Version) (v : Version) (are : AreLeast numbers versions) where
  abbrev pub least : ℕ
  least = least_with v.number (number_of v.key numbers)

  abbrev pub more : Numbers
  more = insert_entry byte_order numbers v.key least

  found : (key : Bytes) → number_of key more ≡ cond (is_same_key key v.key) (Some least) (number_of key numbers)
  found key = number_of-insert key v.key least numbers

  still_covered : (w : Version) → IsCovered numbers w → IsCovered more w
  still_covered w was = by (is_same_key w.key v.key) refl
    where
      by : (b : Bool) → is_same_key w.key v.key ≡ b → IsCovered more w
      by true e = (
        least,
        found w.key ∙ ap (λ (x : Bool). cond x (Some least) (number_of w.key numbers)) e,
        let below : least ≤ was.0 = least_below v.number was.0 (number_of v.key numbers) (ap (λ (k : Bytes). number_of k numbers) (sym (same_key w.key v.key e)) ∙ was.1) in omega (arith, below, was.2),
      )
      by false e = (was.0, found w.key ∙ ap (λ (x : Bool). cond x (Some least) (number_of w.key numbers)) e ∙ was.1, was.2)

  itself : IsCovered more v
  itself = (least, found v.key ∙ ap (λ (x : Bool). cond x (Some least) (number_of v.key numbers)) (key_itself v.key), least_at_most v.number (number_of v.key numbers))

  either : (n m : ℕ) (o : Option ℕ) → o ≡ number_of v.key numbers → least_with m o ≡ n → (m ≡ n) ⊎ (number_of v.key numbers ≡ Some n)
  either n m None is e = inl e
  either n m (Some k) is e = elim (cases_lt m k) [ inl lt ↦ inl (omega (arith, lt, e)) | inr le ↦ inr (sym is ∙ ap (λ (x : ℕ). Some x) (least_is m k n le e)) ]
    where
      least_is : (m k n : ℕ) → k ≤ m → min m k ≡ n → k ≡ n
      least_is m k n le e = omega arith

  had : (key : Bytes) (n : ℕ) → number_of key more ≡ Some n → HasVersion key n (versions ++ v ∷ [])
  had key n is = by (is_same_key key v.key) refl (sym (found key) ∙ is)
    where
      new : v.key ≡ key → (v.number ≡ n) ⊎ (number_of v.key numbers ≡ Some n) → HasVersion key n (versions ++ v ∷ [])
      new same (inl number) = has_right key n versions (v ∷ []) (inl (same, number))
      new same (inr old) = has_left key n versions (v ∷ []) (are.had key n (ap (λ (k : Bytes). number_of k numbers) (sym same) ∙ old))

      by : (b : Bool) → is_same_key key v.key ≡ b → cond b (Some least) (number_of key numbers) ≡ Some n → HasVersion key n (versions ++ v ∷ [])
      by true e is = new (sym (same_key key v.key e)) (either n v.number (number_of v.key numbers) refl (same_Some least n is))
      by false e is = has_left key n versions (v ∷ []) (are.had key n is)

  pub least_more : AreLeast more (versions ++ v ∷ [])
  least_more = record { covered = all_append (IsCovered more) versions (v ∷ []) (all_map still_covered versions are.covered) (itself, tt); had = had }

-- ---- whether a version is older

-- of a key without a number there is no version
no_version : (numbers : Numbers) (v : Version) (versions : List Version) → number_of v.key numbers ≡ None → AllByRecursion (IsCovered numbers) versions → IsNewerPlace versions (v ∷ [])
no_version numbers v versions none covered = all_map (λ w has. ((λ same. absurd (let clash : None ≡ Some has.0 = sym none ∙ ap (λ (k : Bytes). number_of k numbers) (sym same) ∙ has.1 in cc)), tt)) versions covered

older : (numbers : Numbers) (v : Version) (n : ℕ) (versions : List Version) → number_of v.key numbers ≡ Some n → v.number < n → AllByRecursion (IsCovered numbers) versions → IsNewerPlace versions (v ∷ [])
older numbers v n versions is below covered = all_map (λ w has. ((λ same. let k : n ≡ has.0 = same_Some n has.0 (sym is ∙ ap (λ (k : Bytes). number_of k numbers) (sym same) ∙ has.1) in omega (arith, k, below, has.2)), tt)) versions covered

newer_than_had : (key : Bytes) (n : ℕ) (v : Version) (versions : List Version) → v.key ≡ key → HasVersion key n versions → IsNewerPlace versions (v ∷ []) → v.number < n
newer_than_had key n v [] same has newer = absurd has
newer_than_had key n v (w ∷ versions) same (inl is) newer = omega (arith, newer.0.0 (is.0 ∙ sym same), is.1)
newer_than_had key n v (w ∷ versions) same (inr later) newer = newer_than_had key n v versions same later newer.1

-- what a comparison with the number of its key says of a version
pub older_if_none : (versions : List Version) (s : SeenView) (v : Version) → IsSeen versions s → number_of v.key s.least ≡ None → IsNewerPlace versions (v ∷ [])
older_if_none versions s v seen none = no_version s.least v versions none seen.least.covered

pub older_by : (versions : List Version) (s : SeenView) (v : Version) (n m : ℕ) → IsSeen versions s → n ≡ v.number → number_of v.key s.least ≡ Some m → MatchBool (ltb n m) (IsNewerPlace versions (v ∷ [])) (IsNewerPlace versions (v ∷ []) → ⊥)
older_by versions s v n m seen number is = elim (ltb n m) as (λ b. ltb n m ≡ b → MatchBool b (IsNewerPlace versions (v ∷ [])) (IsNewerPlace versions (v ∷ []) → ⊥)) [
  | true ↦ λ e. older s.least v m versions is (omega (arith, number, ltb-true n m e)) seen.least.covered
  | false ↦ λ e newer. let below : v.number < m = newer_than_had v.key m v versions refl (seen.least.had v.key m is) newer in omega (arith, number, below, ltb-false n m e)
] refl

-- ---- versions, one after the other

-- one more is seen
pub seen_more : (versions : List Version) (v : Version) (s t : SeenView) → IsSeen versions s → t.least ≡ insert_entry byte_order s.least v.key (least_with v.number (number_of v.key s.least)) → t.entries ≡ s.entries + 1 → IsSeen (versions ++ v ∷ []) t
seen_more versions v s t seen least entries = record {
  least = subst (λ (ns : Numbers). AreLeast ns (versions ++ v ∷ [])) (sym least) (least_more s.least versions v seen.least);
  entries = omega (arith, entries, seen.entries, length-append versions (v ∷ []));
}

pub joined_more : (xs ys : List Version) (i : ℕ) (y : Version) → i < length ys → y ≡ get_or ys i y → (xs ++ take i ys) ++ y ∷ [] ≡ xs ++ take (i + 1) ys
joined_more xs ys i y lt is = append_assoc xs (take i ys) (y ∷ []) ∙ ap (λ (l : List Version). xs ++ l) (ap (λ (v : Version). take i ys ++ v ∷ []) is ∙ sym (take_more ys i y lt))

-- one more is older
pub older_more : (versions entries : List Version) (i : ℕ) (v : Version) → i < length entries → v ≡ get_or entries i v → IsNewerPlace versions (take i entries) → IsNewerPlace versions (v ∷ []) → IsNewerPlace versions (take (i + 1) entries)
older_more versions entries i v lt is before here = subst (IsNewerPlace versions) (joined_more [] entries i v lt is) (newer_append versions (take i entries) (v ∷ []) before here)

-- one of those that are older
pub older_one : (versions entries : List Version) (i : ℕ) (v : Version) → i < length entries → v ≡ get_or entries i v → IsNewerPlace versions entries → IsNewerPlace versions (v ∷ [])
older_one versions entries i v lt is all =
    all_map (λ w each. (subst (λ (x : Version). w.key ≡ x.key → x.number < w.number) (sym is) (all_at (λ (x : Version). w.key ≡ x.key → x.number < w.number) entries i v each lt), tt)) versions all
