-- The versions of tables that stand, in the order of entries and in the ranges of their tables.
use Rattle.std.proofs.Common.{◌≡◌, ℕ, Bool, true, false, cond, leb, List, [], ◌∷◌, ◌++◌, Some, None, inl, inr, refl, sym, ap, subst, ◌∙◌, arith}
use Rattle.std.specs.List.{AllByRecursion}
use Rattle.std.specs.declared.cmp.Ordering.{Ordering}
use Rattle.std.specs.Ordering.{nat_cmp, ordering_then}
use Rattle.std.proofs.lemmas.Bool.{and_parts, and_from, le-leb}
use Rattle.std.proofs.lemmas.List.Elements.{All-from_recursion}
use Rattle.lsm_codec.specs.Keys.{Bytes, byte_order}
use Rattle.lsm_codec.specs.Versions.{Version, is_same_key, is_version_of, newer_of, newest, AreOrdered}
use Rattle.lsm_codec.proofs.KeyOrder.{is_lt_Less, key_itself}
use Rattle.lsm_codec.proofs.Lists.{all_append}
use Rattle.lsm_table.proofs.Orders.{Before, befores}
use Rattle.lsm_levels.specs.Among.{IsAmong}
use Rattle.lsm_levels.specs.Tables.{Table, IsRun, at_most, is_below, versions_of}
use Rattle.lsm_levels.specs.Asking.{covers}
use Rattle.lsm_levels.specs.Held.{IsRanged}
use Rattle.lsm_levels.specs.Stored.{IsStored}
use Rattle.lsm_levels.proofs.KeyOrder.{then_below, below_then}
use Rattle.lsm_levels.proofs.Ranges.{all_of, of_all}
use Rattle.lsm_levels.proofs.StoredLaws.{outside}
use Rattle.lsm_levels.proofs.Taking.{in_tables}

-- ---- a table's range

some_none : (v : Version) → Some v ≡ None → ⊥
some_none v e = cc

-- a version that is there is found
pub is_there : (key : Bytes) (n : ℕ) (vs : List Version) (v : Version) → IsAmong v vs → is_version_of key n v ≡ true → newest key n vs ≡ None → ⊥
is_there key n [] v a is none = a
is_there key n (w ∷ vs) v (inl e) is none = some_none (newer_of w (newest key n vs)) (sym (ap (λ b. cond b (Some (newer_of w (newest key n vs))) (newest key n vs)) (sym (ap (is_version_of key n) e) ∙ is)) ∙ none)
is_there key n (w ∷ vs) v (inr a) is none = by (is_there key n vs v a is) (is_version_of key n w) none
  where
    by : (newest key n vs ≡ None → ⊥) → (b : Bool) → cond b (Some (newer_of w (newest key n vs))) (newest key n vs) ≡ None → ⊥
    by later true e = some_none (newer_of w (newest key n vs)) e
    by later false e = later e

pub stored_ranged : (sectors : List (List ℕ)) (area : ℕ) (t : Table) → IsStored sectors area t → IsRanged t
stored_ranged sectors area t s = record { within = λ v a. by v a (covers v.key t) refl }
  where
    by : (v : Version) → IsAmong v t.versions → (b : Bool) → covers v.key t ≡ b → (at_most t.first v.key ≡ true) × (at_most v.key t.last ≡ true)
    by v a true e = let p = and_parts (at_most v.key t.last) (at_most t.first v.key) e in (p.1, p.0)
    by v a false e =
        let is : is_version_of v.key v.number v ≡ true = and_from (is_same_key v.key v.key) (leb v.number v.number) (key_itself v.key) (le-leb v.number v.number (omega arith)) in
        absurd (is_there v.key v.number t.versions v a is (outside sectors area v.key v.number t s e))

-- ---- a run's versions

ordered_append : (xs ys : List Version) → AreOrdered xs → AreOrdered ys → ((x y : Version) → IsAmong x xs → IsAmong y ys → Before x y) → AreOrdered (xs ++ ys)
ordered_append [] ys one two between = two
ordered_append (x ∷ xs) ys one two between =
    (All-from_recursion (Before x) (xs ++ ys) (all_append (Before x) xs ys (befores x xs one) (all_of (Before x) ys (λ y a. between x y (inl refl) a))), ordered_append xs ys one.1 two (λ u y a b. between u y (inr a) b))

lower_key : (v w : Version) → is_below v.key w.key ≡ true → Before v w
lower_key v w h = ap (λ (o : Ordering). ordering_then o (nat_cmp w.number v.number)) (is_lt_Less (byte_order v.key w.key) h)

pub run_ordered : (sectors : List (List ℕ)) (area : ℕ) (run : List Table) → IsRun run → AllByRecursion (IsStored sectors area) run → AreOrdered (versions_of run)
run_ordered sectors area [] r all = tt
run_ordered sectors area (t ∷ rest) r all = ordered_append t.versions (versions_of rest) own (run_ordered sectors area rest r.2 all.1) between
  where
    own : AreOrdered t.versions
    own = subst AreOrdered (sym (ap (λ (u : Table). u.versions) all.0.told)) all.0.sorted.ordered

    between : (v w : Version) → IsAmong v t.versions → IsAmong w (versions_of rest) → Before v w
    between v w a b =
        let p = in_tables w rest b in
        let u = p.0 in
        let apart : is_below t.last u.first ≡ true = of_all (λ (x : Table). is_below t.last x.first ≡ true) rest r.1 u p.1 in
        let high = ((stored_ranged sectors area t all.0).within v a).1 in
        let low = ((stored_ranged sectors area u (of_all (IsStored sectors area) rest all.1 u p.1)).within w p.2).0 in
        lower_key v w (below_then v.key u.first w.key (then_below v.key t.last u.first high apart) low)
