-- The newest version among joined lists, and the map of versions of batches and tables.
use Rattle.std.proofs.Common.{◌≡◌, ℕ, ◌+◌, ◌<◌, ◌≤◌, Bool, true, false, cond, ltb, List, [], ◌∷◌, ◌++◌, length, Option, Some, None, refl, ap, sym, ◌∙◌, subst, arith}
use Rattle.std.proofs.lemmas.Bool.{le-ltb, ltb-true, ltb-false}
use Rattle.lsm_codec.specs.Keys.{Bytes}
use Rattle.lsm_codec.specs.Map.{Operation, apply, apply_all}
use Rattle.lsm_codec.specs.Versions.{Version, is_same_key, is_version_of, newer_of, newest}
use Rattle.lsm_mem.specs.Versions.{map_of, NumberedAtMost}
use Rattle.lsm_mem.specs.EntryOrder.{placed, version_by, with_batch, with_batches}
use Rattle.lsm_mem.proofs.Batches.{at_most_placed, at_most_with_batch, below_from_at_most}
use Rattle.lsm_codec.proofs.Lists.{all_map, all_append}
use Rattle.lsm_mem.proofs.Maps.{map_of-newest, map_of-with_batch}
use Rattle.lsm_mem.proofs.Newest.{newest-placed}

-- of two found versions the newer; of two with one number the first
abbrev pub newer_found : Option Version → Option Version → Option Version
newer_found None w = w
newer_found (Some v) w = Some (newer_of v w)

newer_none : (o : Option Version) → newer_found o None ≡ o
newer_none None = refl
newer_none (Some v) = refl

newer_first : (v w x : Version) (a b c : Bool) → ltb v.number w.number ≡ a → ltb w.number x.number ≡ b → ltb v.number x.number ≡ c
    → newer_of v (Some (newer_of w (Some x))) ≡ newer_of (newer_of v (Some w)) (Some x)
newer_first v w x true true c p q r =
    let up : v.number < x.number = omega (arith, ltb-true v.number w.number p, ltb-true w.number x.number q) in
    ap (λ (b : Bool). newer_of v (Some (cond b x w))) q ∙ ap (λ (b : Bool). cond b x v) (lt_ltb' v.number x.number up)
    ∙ sym (ap (λ (b : Bool). newer_of (cond b w v) (Some x)) p ∙ ap (λ (b : Bool). cond b x w) q)
  where
    lt_ltb' : (a b : ℕ) → a < b → ltb a b ≡ true
    lt_ltb' a b lt = Rattle.std.proofs.lemmas.Bool.lt-ltb a b lt
newer_first v w x true false c p q r =
    ap (λ (b : Bool). newer_of v (Some (cond b x w))) q
    ∙ ap (λ (b : Bool). cond b w v) p
    ∙ sym (ap (λ (b : Bool). newer_of (cond b w v) (Some x)) p ∙ ap (λ (b : Bool). cond b x w) q)
newer_first v w x false true c p q r =
    ap (λ (b : Bool). newer_of v (Some (cond b x w))) q
    ∙ sym (ap (λ (b : Bool). newer_of (cond b w v) (Some x)) p)
newer_first v w x false false c p q r =
    let low : x.number ≤ v.number = omega (arith, ltb-false v.number w.number p, ltb-false w.number x.number q) in
    ap (λ (b : Bool). newer_of v (Some (cond b x w))) q ∙ ap (λ (b : Bool). cond b w v) p
    ∙ sym (ap (λ (b : Bool). newer_of (cond b w v) (Some x)) p ∙ ap (λ (b : Bool). cond b x v) (le-ltb v.number x.number low))

pub newer_joins : (a b c : Option Version) → newer_found a (newer_found b c) ≡ newer_found (newer_found a b) c
newer_joins None b c = refl
newer_joins (Some v) None c = refl
newer_joins (Some v) (Some w) None = refl
newer_joins (Some v) (Some w) (Some x) = ap (λ (y : Version). Some y) (newer_first v w x (ltb v.number w.number) (ltb w.number x.number) (ltb v.number x.number) refl refl refl)

-- the newest of joined lists is the newer of their newest
pub newest-append : (q : Bytes) (n : ℕ) (vs ws : List Version) → newest q n (vs ++ ws) ≡ newer_found (newest q n vs) (newest q n ws)
newest-append q n [] ws = refl
newest-append q n (v ∷ vs) ws = by (is_version_of q n v) (newest-append q n vs ws)
  where
    by : (b : Bool) → newest q n (vs ++ ws) ≡ newer_found (newest q n vs) (newest q n ws)
        → cond b (Some (newer_of v (newest q n (vs ++ ws)))) (newest q n (vs ++ ws)) ≡ newer_found (cond b (Some (newer_of v (newest q n vs))) (newest q n vs)) (newest q n ws)
    by true later = ap (λ (o : Option Version). Some (newer_of v o)) later ∙ newer_joins (Some v) (newest q n vs) (newest q n ws)
    by false later = later

-- a found version is numbered at most the count
abbrev IsUpTo : ℕ → Option Version → Type 0
IsUpTo n None = Unit {0}
IsUpTo n (Some v) = v.number ≤ n

newer_up_to : (n : ℕ) (v : Version) (o : Option Version) → v.number ≤ n → IsUpTo n o → IsUpTo n (Some (newer_of v o))
newer_up_to n v None h k = h
newer_up_to n v (Some w) h k = elim (ltb v.number w.number) as (λ b. IsUpTo n (Some (cond b w v))) [ true ↦ k | false ↦ h ]

newest_up_to : (q : Bytes) (n : ℕ) (vs : List Version) → NumberedAtMost n vs → IsUpTo n (newest q n vs)
newest_up_to q n [] h = tt
newest_up_to q n (v ∷ vs) h = by (is_version_of q n v) (newest_up_to q n vs h.1)
  where
    by : (b : Bool) → IsUpTo n (newest q n vs) → IsUpTo n (cond b (Some (newer_of v (newest q n vs))) (newest q n vs))
    by true later = newer_up_to n v (newest q n vs) h.0 later
    by false later = later

-- a version of the greatest number is the newer
newer_is : (v : Version) (o : Option Version) → IsUpTo v.number o → newer_of v o ≡ v
newer_is v None h = refl
newer_is v (Some w) h = ap (λ (b : Bool). cond b w v) (le-ltb v.number w.number h)

-- ---- a batch in front of tables

-- followed by the tables, some lists give the same newest versions as others
abbrev Alike : ℕ → List Version → List Version → List Version → Type 0
Alike n tables xs ys = (q : Bytes) → newest q n (xs ++ tables) ≡ newest q n ys

placed_alike : (n : ℕ) (v : Version) (tables xs ys : List Version) → v.number ≡ n → NumberedAtMost n xs → NumberedAtMost n ys → NumberedAtMost n tables
    → Alike n tables xs ys → Alike n tables (placed v xs) (placed v ys)
placed_alike n v tables xs ys is hx hy ht alike q =
    newest-append q n (placed v xs) tables
    ∙ ap (λ (o : Option Version). newer_found o (newest q n tables)) (newest-placed n v q xs is hx)
    ∙ by (is_same_key q v.key)
    ∙ ap (cond (is_same_key q v.key) (Some v)) (sym (newest-append q n xs tables) ∙ alike q)
    ∙ sym (newest-placed n v q ys is hy)
  where
    by : (b : Bool) → newer_found (cond b (Some v) (newest q n xs)) (newest q n tables) ≡ cond b (Some v) (newer_found (newest q n xs) (newest q n tables))
    by true = ap (λ (w : Version). Some w) (newer_is v (newest q n tables) (subst (λ (k : ℕ). IsUpTo k (newest q n tables)) (sym is) (newest_up_to q n tables ht)))
    by false = refl

batch_alike : (n : ℕ) (batch : List Operation) (tables xs ys : List Version) → NumberedAtMost n xs → NumberedAtMost n ys → NumberedAtMost n tables
    → Alike n tables xs ys → Alike n tables (with_batch n batch xs) (with_batch n batch ys)
batch_alike n [] tables xs ys hx hy ht alike = alike
batch_alike n (operation ∷ rest) tables xs ys hx hy ht alike =
    batch_alike n rest tables (placed (version_by n operation) xs) (placed (version_by n operation) ys) (at_most_placed n operation xs hx) (at_most_placed n operation ys hy) ht
    (placed_alike n (version_by n operation) tables xs ys refl hx hy ht alike)

at_most_more : (n : ℕ) (vs : List Version) → NumberedAtMost n vs → NumberedAtMost (n + 1) vs
at_most_more n vs h = all_map (λ v le. omega (arith, le)) vs h

-- one batch more
map_of_batch : (n : ℕ) (batch : List Operation) (vs tables : List Version) → NumberedAtMost n vs → NumberedAtMost n tables
    → map_of (with_batch (n + 1) batch vs ++ tables) (n + 1) ≡ apply (map_of (vs ++ tables) n) batch
map_of_batch n batch vs tables hv ht =
    let all = all_append (λ (v : Version). v.number ≤ n) vs tables hv ht in
    map_of-newest (n + 1) (n + 1) (with_batch (n + 1) batch vs ++ tables) (with_batch (n + 1) batch (vs ++ tables))
    (batch_alike (n + 1) batch tables vs (vs ++ tables) (at_most_more n vs hv) (at_most_more n (vs ++ tables) all) (at_most_more n tables ht) (λ q. refl))
    ∙ map_of-with_batch n batch (vs ++ tables) (below_from_at_most n (vs ++ tables) all)

pub map_of_batches : (n : ℕ) (batches : List (List Operation)) (vs tables : List Version) → NumberedAtMost n vs → NumberedAtMost n tables
    → map_of (with_batches n batches vs ++ tables) (n + length batches) ≡ apply_all (map_of (vs ++ tables) n) batches
map_of_batches n [] vs tables hv ht = ap (map_of (vs ++ tables)) (let same : n + 0 ≡ n = omega arith in same)
map_of_batches n (batch ∷ rest) vs tables hv ht =
    let same : n + length (batch ∷ rest) ≡ (n + 1) + length rest = omega arith in
    ap (map_of (with_batches (n + 1) rest (with_batch (n + 1) batch vs) ++ tables)) same
    ∙ map_of_batches (n + 1) rest (with_batch (n + 1) batch vs) tables (at_most_with_batch (n + 1) batch vs (at_most_more n vs hv)) (at_most_more n tables ht)
    ∙ ap (λ m. apply_all m rest) (map_of_batch n batch vs tables hv ht)
