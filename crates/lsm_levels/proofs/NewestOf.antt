-- The newest version of a key in lists that are joined.
use Rattle.std.proofs.Common.{◌≡◌, ℕ, ◌<◌, Bool, true, false, cond, ◌&&◌, leb, ltb, List, [], ◌∷◌, ◌++◌, Option, Some, None, refl, ap, sym, ◌∙◌, arith}
use Rattle.std.specs.Option.{option_or}
use Rattle.std.specs.List.{AllByRecursion}
use Rattle.std.proofs.lemmas.Bool.{ltb-true}
use Rattle.lsm_codec.specs.Keys.{Bytes}
use Rattle.lsm_codec.specs.Versions.{Version, is_same_key, newer_of, newest}
use Rattle.lsm_codec.proofs.KeyOrder.{same_key}
use Rattle.lsm_codec.proofs.Lists.{all_append}
use Rattle.lsm_mem.specs.Versions.{joined}
use Rattle.lsm_levels.specs.Orders.{IsNewerPlace, IsVersionOrder}

-- what is said of a version that may be there
abbrev IfThere : (Version → Type 0) → Option Version → Type 0
IfThere P None = Unit {0}
IfThere P (Some v) = P v

-- the newest is of the key, and what holds of each version holds of it
newest_has : (key : Bytes) (n : ℕ) (P : Version → Type 0) (vs : List Version) → AllByRecursion P vs → IfThere (λ v. P v × (is_same_key key v.key ≡ true)) (newest key n vs)
newest_has key n P [] h = tt
newest_has key n P (v ∷ vs) h = by (newest key n vs) (newest_has key n P vs h.1) (is_same_key key v.key) (leb v.number n) refl
  where
    chosen : (o : Option Version) → IfThere (λ v. P v × (is_same_key key v.key ≡ true)) o → is_same_key key v.key ≡ true → P (newer_of v o) × (is_same_key key (newer_of v o).key ≡ true)
    chosen None k e = (h.0, e)
    chosen (Some w) k e = pick (ltb v.number w.number)
      where
        pick : (b : Bool) → P (cond b w v) × (is_same_key key (cond b w v).key ≡ true)
        pick true = k
        pick false = (h.0, e)

    by : (o : Option Version) → IfThere (λ v. P v × (is_same_key key v.key ≡ true)) o → (a b : Bool) → is_same_key key v.key ≡ a → IfThere (λ v. P v × (is_same_key key v.key ≡ true)) (cond (a && b) (Some (newer_of v o)) o)
    by o k true true e = chosen o k e
    by o k true false e = k
    by o k false b e = k

-- the newest in a newer place and an older one
pub newest_in_order : (key : Bytes) (n : ℕ) (xs ys : List Version) → IsNewerPlace xs ys → newest key n (xs ++ ys) ≡ option_or (newest key n xs) (newest key n ys)
newest_in_order key n [] ys h = refl
newest_in_order key n (v ∷ xs) ys h =
    by (newest key n (xs ++ ys)) (newest key n xs) (newest key n ys) (is_same_key key v.key) (leb v.number n) refl (newest_in_order key n xs ys h.1) (newest_has key n (λ w. v.key ≡ w.key → w.number < v.number) ys h.0)
  where
    older : (w : Version) → w.number < v.number → (b : Bool) → ltb v.number w.number ≡ b → cond b w v ≡ v
    older w k true e = absurd (omega (arith, ltb-true v.number w.number e))
    older w k false e = refl

    alone : (o : Option Version) → is_same_key key v.key ≡ true → IfThere (λ w. (v.key ≡ w.key → w.number < v.number) × (is_same_key key w.key ≡ true)) o → newer_of v o ≡ v
    alone None e k = refl
    alone (Some w) e k = older w (k.0 (sym (same_key key v.key e) ∙ same_key key w.key k.1)) (ltb v.number w.number) refl

    first : (o p : Option Version) → is_same_key key v.key ≡ true → IfThere (λ w. (v.key ≡ w.key → w.number < v.number) × (is_same_key key w.key ≡ true)) p → newer_of v (option_or o p) ≡ newer_of v o
    first (Some x) p e k = refl
    first None p e k = alone p e k

    by : (all o p : Option Version) (a b : Bool) → is_same_key key v.key ≡ a → all ≡ option_or o p → IfThere (λ w. (v.key ≡ w.key → w.number < v.number) × (is_same_key key w.key ≡ true)) p
        → cond (a && b) (Some (newer_of v all)) all ≡ option_or (cond (a && b) (Some (newer_of v o)) o) p
    by all o p true true e q k = ap (λ t. Some (newer_of v t)) q ∙ ap (λ (x : Version). Some x) (first o p e k)
    by all o p true false e q k = q
    by all o p false b e q k = q

-- a place that is newer than two is newer than both joined
pub newer_append : (xs ys zs : List Version) → IsNewerPlace xs ys → IsNewerPlace xs zs → IsNewerPlace xs (ys ++ zs)
newer_append [] ys zs h k = tt
newer_append (x ∷ xs) ys zs h k = (all_append (λ w. x.key ≡ w.key → w.number < x.number) ys zs h.0 k.0, newer_append xs ys zs h.1 k.1)

pub newer_none : (xs : List Version) → IsNewerPlace xs []
newer_none [] = tt
newer_none (x ∷ xs) = (tt, newer_none xs)

pub newer_than_all : (xs : List Version) (older : List (List Version)) → AllByRecursion (IsNewerPlace xs) older → IsNewerPlace xs (joined older)
newer_than_all xs [] h = newer_none xs
newer_than_all xs (ys ∷ older) h = newer_append xs ys (joined older) h.0 (newer_than_all xs older h.1)

-- the newest of all places is the first that there is, from the newer place on
pub newest_place : (key : Bytes) (n : ℕ) (place : List Version) (older : List (List Version)) → IsVersionOrder (place ∷ older) → newest key n (joined (place ∷ older)) ≡ option_or (newest key n place) (newest key n (joined older))
newest_place key n place older order = newest_in_order key n place (joined older) (newer_than_all place older order.0)
