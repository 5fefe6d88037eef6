-- The least-numbered table, looked for from the left.
use Rattle.std.proofs.Common.{◌≡◌, ℕ, ◌<◌, ◌≤◌, Bool, true, false, cond, leb, ltb, List, ◌∷◌, filter, Option, Some, None, refl, ap, sym, ◌∙◌, arith}
use Rattle.std.proofs.lemmas.Bool.{ltb-true, leb-true, le-leb}
use Rattle.std.proofs.lemmas.Bool.Decides.{nat_tests}
use Rattle.lsm_levels.specs.Tables.{Table}
use Rattle.lsm_levels.specs.Pick.{lesser, least_numbered}
use Rattle.lsm_levels.specs.Picks.{is_less}

-- the least of what was found and what is to come
abbrev pub with_rest : Option Table → Option Table → Option Table
with_rest None rest = rest
with_rest (Some t) rest = Some (lesser t rest)

pub with_none : (o : Option Table) → with_rest o None ≡ o
with_none None = refl
with_none (Some t) = refl

passes : (p : Table → Bool) (t : Table) (rest : List Table) (b : Bool) → p t ≡ b → least_numbered (filter p (t ∷ rest)) ≡ cond b (Some (lesser t (least_numbered (filter p rest)))) (least_numbered (filter p rest))
passes p t rest true e = ap (λ b. least_numbered (cond b (t ∷ filter p rest) (filter p rest))) e
passes p t rest false e = ap (λ b. least_numbered (cond b (t ∷ filter p rest) (filter p rest))) e

not_below : (a b : ℕ) → a < b → leb b a ≡ false
not_below a b h = by (leb b a) refl
  where
    by : (x : Bool) → leb b a ≡ x → leb b a ≡ false
    by true e = absurd (omega (arith, leb-true b a e))
    by false e = e

pub not_less : (a b : ℕ) → ltb a b ≡ false → b ≤ a
not_less a b e = grind (arith, nat_tests)

-- a lesser one in front: what was found before it is not the least
takes : (o t : Table) (rest : Option Table) → ltb t.number o.number ≡ true → lesser o (Some (lesser t rest)) ≡ lesser t rest
takes o t None l = ap (λ b. cond b o t) (not_below t.number o.number (ltb-true t.number o.number l))
takes o t (Some u) l = by (leb t.number u.number) refl
  where
    by : (b : Bool) → leb t.number u.number ≡ b → cond (leb o.number (cond b t u).number) o (cond b t u) ≡ cond b t u
    by true e = ap (λ b. cond b o t) (not_below t.number o.number (ltb-true t.number o.number l))
    by false e = ap (λ b. cond b o u) (not_below u.number o.number (below (ltb-true t.number o.number l) e))
      where
        below : t.number < o.number → leb t.number u.number ≡ false → u.number < o.number
        below h f = grind (arith, nat_tests)

-- one that is not less, in front
leaves : (o t : Table) (rest : Option Table) → o.number ≤ t.number → lesser o (Some (lesser t rest)) ≡ lesser o rest
leaves o t None l = ap (λ b. cond b o t) (le-leb o.number t.number l)
leaves o t (Some u) l = by (leb t.number u.number) refl
  where
    by : (b : Bool) → leb t.number u.number ≡ b → cond (leb o.number (cond b t u).number) o (cond b t u) ≡ cond (leb o.number u.number) o u
    by true e = ap (λ b. cond b o t) (le-leb o.number t.number l) ∙ sym (ap (λ b. cond b o u) (le-leb o.number u.number (omega (arith, l, leb-true t.number u.number e))))
    by false e = refl

-- a table that passes and is less takes the place of what was found
pub step_taken : (p : Table → Bool) (o : Option Table) (t : Table) (rest : List Table) → is_less t o ≡ true → p t ≡ true
    → with_rest (Some t) (least_numbered (filter p rest)) ≡ with_rest o (least_numbered (filter p (t ∷ rest)))
step_taken p None t rest l h = sym (passes p t rest true h)
step_taken p (Some o) t rest l h = sym (ap (λ r. Some (lesser o r)) (passes p t rest true h) ∙ ap Some (takes o t (least_numbered (filter p rest)) l))

-- else what was found stays
pub step_fails : (p : Table → Bool) (o : Option Table) (t : Table) (rest : List Table) → p t ≡ false
    → with_rest o (least_numbered (filter p rest)) ≡ with_rest o (least_numbered (filter p (t ∷ rest)))
step_fails p o t rest h = sym (ap (with_rest o) (passes p t rest false h))

pub step_stays : (p : Table → Bool) (o : Option Table) (t : Table) (rest : List Table) → is_less t o ≡ false
    → with_rest o (least_numbered (filter p rest)) ≡ with_rest o (least_numbered (filter p (t ∷ rest)))
step_stays p None t rest h = absurd cc
step_stays p (Some o) t rest h = by (p t) refl
  where
    by : (b : Bool) → p t ≡ b → Some (lesser o (least_numbered (filter p rest))) ≡ Some (lesser o (least_numbered (filter p (t ∷ rest))))
    by true e = sym (ap (λ r. Some (lesser o r)) (passes p t rest true e) ∙ ap Some (leaves o t (least_numbered (filter p rest)) (not_less t.number o.number h)))
    by false e = sym (ap (λ r. Some (lesser o r)) (passes p t rest false e))
