-- The newest version of a key, by what is among versions.
use Rattle.std.proofs.Common.{◌≡◌, inl, inr, ⊎_elim, ℕ, ◌≤◌, ◌<◌, Bool, true, false, cond, leb, ltb, List, [], ◌∷◌, Option, Some, None, refl, sym, ap, ◌∙◌, subst, arith}
use Rattle.std.proofs.lemmas.Bool.{and_parts, leb-true, ltb-true, ltb-false, false≢true}
use Rattle.lsm_codec.specs.Keys.{Bytes}
use Rattle.lsm_codec.specs.Versions.{Version, is_same_key, is_version_of, newer_of, newest}
use Rattle.lsm_codec.proofs.KeyOrder.{same_key}
use Rattle.lsm_levels.specs.Among.{IsAmong}

pub key_of : (key : Bytes) (n : ℕ) (v : Version) → is_version_of key n v ≡ true → key ≡ v.key
key_of key n v h = same_key key v.key (and_parts (is_same_key key v.key) (leb v.number n) h).0

pub number_of : (key : Bytes) (n : ℕ) (v : Version) → is_version_of key n v ≡ true → v.number ≤ n
number_of key n v h = leb-true v.number n (and_parts (is_same_key key v.key) (leb v.number n) h).1

-- it is one of a key, numbered at most n, and none of these is newer
pub record IsNewest (key : Bytes) (n : ℕ) (versions : List Version) (v : Version) : Type 0 where
  pub among : IsAmong v versions
  pub of : is_version_of key n v ≡ true
  pub greatest : (w : Version) → IsAmong w versions → is_version_of key n w ≡ true → w.number ≤ v.number

abbrev Found : Bytes → ℕ → List Version → Option Version → Type 0
Found key n versions (Some v) = IsNewest key n versions v
Found key n versions None = (w : Version) → IsAmong w versions → is_version_of key n w ≡ true → ⊥

module _ (key : Bytes) (n : ℕ) where
  skipped : (v : Version) (rest : List Version) (o : Option Version) → is_version_of key n v ≡ false → Found key n rest o → Found key n (v ∷ rest) o
  skipped v rest (Some x) not_of found = record {
    among = inr found.among;
    of = found.of;
    greatest = λ w a is. ⊎_elim (λ e. absurd (false≢true (sym not_of ∙ ap (is_version_of key n) (sym e) ∙ is))) (λ later. found.greatest w later is) a;
  }
  skipped v rest None not_of found = λ w a is. ⊎_elim (λ e. absurd (false≢true (sym not_of ∙ ap (is_version_of key n) (sym e) ∙ is))) (λ later. found w later is) a

  taken : (v : Version) (rest : List Version) (o : Option Version) → is_version_of key n v ≡ true → Found key n rest o → Found key n (v ∷ rest) (Some (newer_of v o))
  taken v rest None is found = record {
    among = inl refl;
    of = is;
    greatest = λ w a of. ⊎_elim (λ e. let same : w.number ≡ v.number = ap (λ (u : Version). u.number) e in omega (arith, same)) (λ later. absurd (found w later of)) a;
  }
  taken v rest (Some x) is found = by (ltb v.number x.number) refl
    where
      by : (b : Bool) → ltb v.number x.number ≡ b → IsNewest key n (v ∷ rest) (cond b x v)
      by true e =
          let below : v.number < x.number = ltb-true v.number x.number e in
          record {
            among = inr found.among;
            of = found.of;
            greatest = λ w a of. ⊎_elim (λ e. let same : w.number ≡ v.number = ap (λ (u : Version). u.number) e in omega (arith, same, below)) (λ later. found.greatest w later of) a;
          }
      by false e =
          let least : x.number ≤ v.number = ltb-false v.number x.number e in
          record {
            among = inl refl;
            of = is;
            greatest = λ w a of. ⊎_elim (λ e. let same : w.number ≡ v.number = ap (λ (u : Version). u.number) e in omega (arith, same)) (λ later. let le = found.greatest w later of in omega (arith, le, least)) a;
          }

  found : (versions : List Version) → Found key n versions (newest key n versions)
  found [] = λ w a is. absurd a
  found (v ∷ rest) = by (found rest) (is_version_of key n v) refl
    where
      by : Found key n rest (newest key n rest) → (b : Bool) → is_version_of key n v ≡ b → Found key n (v ∷ rest) (cond b (Some (newer_of v (newest key n rest))) (newest key n rest))
      by later true is = taken v rest (newest key n rest) is later
      by later false is = skipped v rest (newest key n rest) is later

  pub newest_is : (versions : List Version) (v : Version) → newest key n versions ≡ Some v → IsNewest key n versions v
  newest_is versions v e = subst (Found key n versions) e (found versions)

  pub none_is : (versions : List Version) → newest key n versions ≡ None → (w : Version) → IsAmong w versions → is_version_of key n w ≡ true → ⊥
  none_is versions e = subst (Found key n versions) e (found versions)
