-- What a merge puts in the place of its inputs stands for the same map.
use Rattle.std.proofs.Common.{◌≡◌, inl, inr, ℕ, ◌<◌, Bool, true, false, cond, ltb, leb, List, [], ◌∷◌, ◌++◌, Option, Some, None, refl, ap, sym, ◌∙◌, subst, arith, option_and_then}
use Rattle.std.specs.List.{AllByRecursion}
use Rattle.std.proofs.lemmas.Bool.{le-ltb, and_parts}
use Rattle.lsm_codec.specs.Keys.{Bytes}
use Rattle.lsm_codec.specs.Versions.{Version, is_same_key, is_version_of, newer_of, newest}
use Rattle.lsm_levels.specs.Among.{IsAmong}
use Rattle.lsm_levels.specs.Orders.{IsNewerPlace}
use Rattle.lsm_mem.specs.Versions.{value_at}
use Rattle.lsm_merge.specs.Laws.{HaveSameMap}
use Rattle.lsm_table.specs.Division.{ShareNoKey}
use Rattle.lsm_codec.proofs.KeyOrder.{same_key}
use Rattle.lsm_codec.proofs.Lists.{all_map, all_append, all_left, all_right}
use Rattle.lsm_open.specs.Replacing.{HaveSameNewest, AreAmong}
use Rattle.lsm_open.proofs.NewestFound.{newer_found, newer_joins, newest-append}

abbrev Versions : Type 0
Versions = List Version

-- ---- what is found

abbrev OnSome : (Version → Type 0) → Option Version → Type 0
OnSome P None = Unit {0}
OnSome P (Some v) = P v

newer_has : (P : Version → Type 0) (v : Version) (o : Option Version) → P v → OnSome P o → OnSome P (Some (newer_of v o))
newer_has P v None here later = here
newer_has P v (Some w) here later = elim (ltb v.number w.number) as (λ b. OnSome P (Some (cond b w v))) [ true ↦ later | false ↦ here ]

newest_has : (P : Version → Type 0) (q : Bytes) (n : ℕ) (vs : List Version) → AllByRecursion (λ v. is_version_of q n v ≡ true → P v) vs → OnSome P (newest q n vs)
newest_has P q n [] h = tt
newest_has P q n (v ∷ vs) h = by (is_version_of q n v) refl (newest_has P q n vs h.1)
  where
    by : (b : Bool) → is_version_of q n v ≡ b → OnSome P (newest q n vs) → OnSome P (cond b (Some (newer_of v (newest q n vs))) (newest q n vs))
    by true e later = newer_has P v (newest q n vs) (h.0 e) later
    by false e later = later

abbrev OnBoth : (Version → Version → Type 0) → Option Version → Option Version → Type 0
OnBoth R None w = Unit {0}
OnBoth R (Some v) None = Unit {0}
OnBoth R (Some v) (Some w) = R v w

key_is : (q : Bytes) (n : ℕ) (v : Version) → is_version_of q n v ≡ true → q ≡ v.key
key_is q n v e = same_key q v.key (and_parts (is_same_key q v.key) (leb v.number n) e).0

-- what holds of each two versions of one key holds of the two that are found
both_found : (R : Version → Version → Type 0) (q : Bytes) (n : ℕ) (xs ys : List Version) → AllByRecursion (λ v. AllByRecursion (λ w. v.key ≡ w.key → R v w) ys) xs → OnBoth R (newest q n xs) (newest q n ys)
both_found R q n xs ys h = by (newest q n xs) (newest_has P q n xs (all_map (λ v all e. (key_is q n v e, all)) xs h))
  where
    P : Version → Type 0
    P v = (q ≡ v.key) × AllByRecursion (λ w. v.key ≡ w.key → R v w) ys

    on_both : (v : Version) (o : Option Version) → OnSome (R v) o → OnBoth R (Some v) o
    on_both v None h = tt
    on_both v (Some w) h = h

    by : (o : Option Version) → OnSome P o → OnBoth R o (newest q n ys)
    by None found = tt
    by (Some v) found = on_both v (newest q n ys) (newest_has (R v) q n ys (all_map (λ w r e. r (sym found.0 ∙ key_is q n w e)) ys found.1))

abbrev Never : Version → Version → Type 0
Never v w = ⊥

abbrev Over : Version → Version → Type 0
Over v w = w.number < v.number

-- ---- the upper inputs and what lies between

swapped : (u f : Option Version) → OnBoth Never u f → newer_found u f ≡ newer_found f u
swapped None None h = refl
swapped None (Some w) h = refl
swapped (Some v) None h = refl
swapped (Some v) (Some w) h = absurd h

-- the inputs after what lies between
pub inputs_together : (q : Bytes) (n : ℕ) (a u f l d : List Version) → ShareNoKey u f → newest q n (a ++ (u ++ (f ++ (l ++ d)))) ≡ newest q n ((a ++ f) ++ ((u ++ l) ++ d))
inputs_together q n a u f l d apart =
    let U = newest q n u in
    let F = newest q n f in
    let L = newest q n l in
    let D = newest q n d in
    let A = newest q n a in
    newest-append q n a (u ++ (f ++ (l ++ d)))
    ∙ ap (newer_found A) (newest-append q n u (f ++ (l ++ d)) ∙ ap (newer_found U) (newest-append q n f (l ++ d) ∙ ap (newer_found F) (newest-append q n l d))
    ∙ newer_joins U F (newer_found L D) ∙ ap (λ (o : Option Version). newer_found o (newer_found L D)) (swapped U F (both_found Never q n u f apart)) ∙ sym (newer_joins F U (newer_found L D))
    ∙ ap (newer_found F) (newer_joins U L D))
    ∙ newer_joins A F (newer_found (newer_found U L) D)
    ∙ sym (newest-append q n (a ++ f) ((u ++ l) ++ d)
    ∙ ap (λ (o : Option Version). newer_found o (newest q n ((u ++ l) ++ d))) (newest-append q n a f)
    ∙ ap (newer_found (newer_found A F)) (newest-append q n (u ++ l) d ∙ ap (λ (o : Option Version). newer_found o D) (newest-append q n u l)))

-- ---- without the bottom flag

pub same_newest_within : (n : ℕ) (front those these behind : List Version) → HaveSameNewest n those these → HaveSameNewest n (front ++ (those ++ behind)) (front ++ (these ++ behind))
same_newest_within n front those these behind same = record {
  found = λ q.
      newest-append q n front (these ++ behind)
      ∙ ap (newer_found (newest q n front)) (newest-append q n these behind ∙ ap (λ (o : Option Version). newer_found o (newest q n behind)) (same.found q) ∙ sym (newest-append q n those behind))
      ∙ sym (newest-append q n front (those ++ behind));
}

-- ---- with the bottom flag

value_of : Option Version → Option Bytes
value_of o = option_and_then (λ v. v.value) o

newer_none : (o : Option Version) → newer_found o None ≡ o
newer_none None = refl
newer_none (Some v) = refl

over_is : (v : Version) (j : Option Version) → OnBoth Over (Some v) j → newer_of v j ≡ v
over_is v None h = refl
over_is v (Some w) h = ap (λ (b : Bool). cond b w v) (le-ltb v.number w.number (omega (arith, h)))

module _ (x i k e : Option Version) (same : option_and_then (λ (v : Version). v.value) k ≡ option_and_then (λ (v : Version). v.value) i) (over_i : OnBoth Over x i) (over_k : OnBoth Over x k) where
  alone : (x i k : Option Version) → option_and_then (λ (v : Version). v.value) k ≡ option_and_then (λ (v : Version). v.value) i → OnBoth Over x i → OnBoth Over x k
      → option_and_then (λ (v : Version). v.value) (newer_found x k) ≡ option_and_then (λ (v : Version). v.value) (newer_found x i)
  alone None i k same oi ok = same
  alone (Some v) i k same oi ok = ap (λ (w : Version). w.value) (over_is v k ok ∙ sym (over_is v i oi))

  nothing_behind : e ≡ None → option_and_then (λ (v : Version). v.value) (newer_found x (newer_found k e)) ≡ option_and_then (λ (v : Version). v.value) (newer_found x (newer_found i e))
  nothing_behind none =
      ap (λ (o : Option Version). option_and_then (λ (v : Version). v.value) (newer_found x (newer_found k o))) none
      ∙ ap (λ (o : Option Version). option_and_then (λ (v : Version). v.value) (newer_found x o)) (newer_none k)
      ∙ alone x i k same over_i over_k
      ∙ sym (ap (λ (o : Option Version). option_and_then (λ (v : Version). v.value) (newer_found x (newer_found i o))) none
      ∙ ap (λ (o : Option Version). option_and_then (λ (v : Version). v.value) (newer_found x o)) (newer_none i))

none_behind : (v : Version) (e : Option Version) → OnBoth Never (Some v) e → e ≡ None
none_behind v None h = refl
none_behind v (Some w) h = absurd h

bottom_value : (x i k e : Option Version) → option_and_then (λ (v : Version). v.value) k ≡ option_and_then (λ (v : Version). v.value) i → OnBoth Over x i → OnBoth Over x k → OnBoth Never i e → OnBoth Never k e
    → option_and_then (λ (v : Version). v.value) (newer_found x (newer_found k e)) ≡ option_and_then (λ (v : Version). v.value) (newer_found x (newer_found i e))
bottom_value x None None e same oi ok ni nk = refl
bottom_value x None (Some w) e same oi ok ni nk = nothing_behind x None (Some w) e same oi ok (none_behind w e nk)
bottom_value x (Some v) k e same oi ok ni nk = nothing_behind x (Some v) k e same oi ok (none_behind v e ni)

pub same_map_at_bottom : (n : ℕ) (front those these behind : List Version) → HaveSameMap n those these → IsNewerPlace front those → IsNewerPlace front these → ShareNoKey those behind → ShareNoKey these behind
    → (q : Bytes) → value_at (front ++ (these ++ behind)) n q ≡ value_at (front ++ (those ++ behind)) n q
same_map_at_bottom n front those these behind same over_those over_these apart_those apart_these q =
    let x = newest q n front in
    let i = newest q n those in
    let k = newest q n these in
    let e = newest q n behind in
    ap (option_and_then (λ (v : Version). v.value)) (newest-append q n front (these ++ behind) ∙ ap (newer_found x) (newest-append q n these behind))
    ∙ bottom_value x i k e (same.values q) (both_found Over q n front those over_those) (both_found Over q n front these over_these) (both_found Never q n those behind apart_those) (both_found Never q n these behind apart_these)
    ∙ sym (ap (option_and_then (λ (v : Version). v.value)) (newest-append q n front (those ++ behind) ∙ ap (newer_found x) (newest-append q n those behind)))

-- ---- one of the inputs

pub of_one : (P : Version → Type 0) (v : Version) (all : List Version) → IsAmong v all → AllByRecursion P all → P v
of_one P v [] among h = absurd among
of_one P v (w ∷ rest) (inl e) h = subst P (sym e) h.0
of_one P v (w ∷ rest) (inr later) h = of_one P v rest later h.1

pub of_all : (P : Version → Type 0) (these all : List Version) → AreAmong these all → AllByRecursion P all → AllByRecursion P these
of_all P these all among h = all_map (λ v a. of_one P v all a h) these among

-- newer than all inputs is newer than what is among them
pub newer_than_among : (front these all : List Version) → AreAmong these all → IsNewerPlace front all → IsNewerPlace front these
newer_than_among front these all among h = all_map (λ v older. of_all (λ w. v.key ≡ w.key → w.number < v.number) these all among older) front h

pub among_newer_than : (these all behind : List Version) → AreAmong these all → IsNewerPlace all behind → IsNewerPlace these behind
among_newer_than these all behind among h = of_all (λ v. AllByRecursion (λ w. v.key ≡ w.key → w.number < v.number) behind) these all among h

pub among_apart : (these all behind : List Version) → AreAmong these all → ShareNoKey all behind → ShareNoKey these behind
among_apart these all behind among h = of_all (λ v. AllByRecursion (λ w. v.key ≡ w.key → ⊥) behind) these all among h

-- places that share no key are in any order
pub apart_is_newer : (xs ys : List Version) → ShareNoKey xs ys → IsNewerPlace xs ys
apart_is_newer xs ys h = all_map (λ v others. all_map (λ w no e. absurd (no e)) ys others) xs h

pub newer_than_left : (xs ys zs : List Version) → IsNewerPlace xs (ys ++ zs) → IsNewerPlace xs ys
newer_than_left [] ys zs h = tt
newer_than_left (x ∷ xs) ys zs h = (all_left (λ (w : Version). x.key ≡ w.key → w.number < x.number) ys zs h.0, newer_than_left xs ys zs h.1)

pub newer_than_right : (xs ys zs : List Version) → IsNewerPlace xs (ys ++ zs) → IsNewerPlace xs zs
newer_than_right [] ys zs h = tt
newer_than_right (x ∷ xs) ys zs h = (all_right (λ (w : Version). x.key ≡ w.key → w.number < x.number) ys zs h.0, newer_than_right xs ys zs h.1)

pub both_newer_than : (xs ys zs : List Version) → IsNewerPlace xs zs → IsNewerPlace ys zs → IsNewerPlace (xs ++ ys) zs
both_newer_than xs ys zs h k = all_append (λ (v : Version). AllByRecursion (λ w. v.key ≡ w.key → w.number < v.number) zs) xs ys h k
