-- All clients together have made as many calls as the history has.
use Rattle.std.proofs.Common.{◌≡◌, ◌≢◌, ◌⊎◌, ℕ, zero, suc, ◌+◌, ◌<◌, ◌≤◌, ◌==◌, Bool, true, false, List, [], ◌∷◌, length, if◌then◌else◌, refl, ap, sym, ◌∙◌, ⊎_elim, arith, inl, inr, ltb, eq-eqb, ne_eqb}
use Rattle.std.proofs.lemmas.Bool.Decides.{nat_tests}
use Rattle.lsm_trail.specs.History.{Event, entries_by}
use Rattle.lsm_trail.specs.Knowledge.{Known}
use Rattle.lsm_shared.specs.Clients.{AgreesWith, has_client, AreAll, entries_made}

abbrev one_if : Bool → ℕ
one_if b = if b then 1 else 0

-- how many of the clients have this number
abbrev hits : List Known → ℕ → ℕ
hits [] x = 0
hits (c ∷ cs) x = one_if (x == c.number) + hits cs x

-- f of each number below n, added up
abbrev below : ℕ → (ℕ → ℕ) → ℕ
below zero f = 0
below (suc n) f = f n + below n f

below_none : (n : ℕ) → below n (λ _. 0) ≡ 0
below_none zero = refl
below_none (suc n) = omega (arith, below_none n)

below_both : (n : ℕ) (f g : ℕ → ℕ) → below n (λ k. f k + g k) ≡ below n f + below n g
below_both zero f g = refl
below_both (suc n) f g = omega (arith, below_both n f g)

other : (k x : ℕ) → k ≢ x → one_if (k == x) ≡ 0
other k x apart = ap one_if (ne_eqb k x apart)

one_if_small : (b : Bool) → one_if b ≤ 1
one_if_small true = omega arith
one_if_small false = omega arith

none_below : (n x : ℕ) → n ≤ x → below n (λ k. one_if (k == x)) ≡ 0
none_below zero x far = refl
none_below (suc n) x far = omega (arith, other n x (λ same. omega arith), none_below n x (omega arith))

same_or : (k x : ℕ) → (k ≡ x) ⊎ (one_if (k == x) ≡ 0)
same_or k x = cases (k == x) refl
  where
    cases : (b : Bool) → (k == x) ≡ b → (k ≡ x) ⊎ (one_if (k == x) ≡ 0)
    cases true is = inl (grind (arith, nat_tests))
    cases false is = inr (ap one_if is)

one_below : (n x : ℕ) → below n (λ k. one_if (k == x)) ≤ 1
one_below zero x = omega arith
one_below (suc n) x = ⊎_elim
    (λ (same : n ≡ x). omega (arith, one_if_small (n == x), none_below n x (omega arith)))
    (λ (none : one_if (n == x) ≡ 0). omega (arith, one_below n x))
    (same_or n x)

few_hits : (n : ℕ) (cs : List Known) → below n (hits cs) ≤ length cs
few_hits n [] = omega (arith, below_none n)
few_hits n (c ∷ cs) = omega (arith, below_both n (λ k. one_if (k == c.number)) (hits cs), one_below n c.number, few_hits n cs)

at_least : (n : ℕ) (f : ℕ → ℕ) → ((x : ℕ) → x < n → 1 ≤ f x) → n ≤ below n f
at_least zero f each = omega arith
at_least (suc n) f each = omega (arith, each n (omega arith), at_least n f (λ x lt. each x (omega arith)))

crowded : (n : ℕ) (f : ℕ → ℕ) (k : ℕ) → ((x : ℕ) → x < n → 1 ≤ f x) → k < n → f k + n ≤ below n f + 1
crowded zero f k each lt = absurd (omega arith)
crowded (suc n) f k each lt = ⊎_elim
    (λ (same : k ≡ n). omega (arith, ap f same, at_least n f (λ x less. each x (omega arith))))
    (λ (less : k < n). omega (arith, each n (omega arith), crowded n f k (λ x few. each x (omega arith)) less))
    (last_or k n lt)
  where
    last_or : (k n : ℕ) → k < suc n → (k ≡ n) ⊎ (k < n)
    last_or k n lt = cases (k == n) refl
      where
        cases : (b : Bool) → (k == n) ≡ b → (k ≡ n) ⊎ (k < n)
        cases true is = inl (grind (arith, nat_tests))
        cases false is = inr (grind (arith, nat_tests))

is_hit : (cs : List Known) (x : ℕ) → has_client x cs ≡ true → 1 ≤ hits cs x
is_hit [] x has = absurd (cc has)
is_hit (c ∷ cs) x has = cases (c.number == x) refl has (is_hit cs x)
  where
    cases : (b : Bool) → (c.number == x) ≡ b → (if b then true else has_client x cs) ≡ true → (has_client x cs ≡ true → 1 ≤ hits cs x) → 1 ≤ one_if (x == c.number) + hits cs x
    cases true is _ _ =
        let same : x ≡ c.number = grind (arith, nat_tests) in
        let one : one_if (x == c.number) ≡ 1 = ap one_if (eq-eqb x c.number same) in
        omega (arith, one)
    cases false is rest more = omega (arith, more rest)

-- each number is one client's alone
hit_once : (n : ℕ) (cs : List Known) (x : ℕ) → AreAll n cs → x < n → hits cs x ≡ 1
hit_once n cs x all lt = omega (arith, is_hit cs x (all.1 x lt), few_hits n cs, all.0, crowded n (hits cs) x (λ k less. is_hit cs k (all.1 k less)) lt)

-- the calls that the history has of these clients
abbrev calls_in : List Event → List Known → ℕ
calls_in log [] = 0
calls_in log (c ∷ cs) = length (entries_by c.number log) + calls_in log cs

longer_if : (b : Bool) (e : Event) (log : List Event) → length (if b then e ∷ log else log) ≡ one_if b + length log
longer_if true e log = omega arith
longer_if false e log = omega arith

calls_in-more : (e : Event) (log : List Event) (cs : List Known) → calls_in (e ∷ log) cs ≡ hits cs e.client + calls_in log cs
calls_in-more e log [] = refl
calls_in-more e log (c ∷ cs) = omega (arith, longer_if (e.client == c.number) e (entries_by c.number log), calls_in-more e log cs)

-- whoever is no client has made no call
abbrev Strangers : ℕ → List Event → Type 0
Strangers n log = (x : ℕ) → n ≤ x → entries_by x log ≡ []

no_stranger : (n : ℕ) (e : Event) (log : List Event) → Strangers n (e ∷ log) → (e.client < n) × Strangers n log
no_stranger n e log strangers = (known (ltb e.client n) refl, λ x far. rest x (e.client == x) refl (strangers x far))
  where
    known : (b : Bool) → ltb e.client n ≡ b → e.client < n
    known true is = grind (arith, nat_tests)
    known false is =
        let far : n ≤ e.client = grind (arith, nat_tests) in
        absurd (cc (sym (ap (λ (b : Bool). if b then e ∷ entries_by e.client log else entries_by e.client log) (eq-eqb e.client e.client refl)) ∙ strangers e.client far))

    rest : (x : ℕ) (b : Bool) → (e.client == x) ≡ b → (if b then e ∷ entries_by x log else entries_by x log) ≡ [] → entries_by x log ≡ []
    rest x true is none = absurd (cc none)
    rest x false is none = none

all_calls : (n : ℕ) (cs : List Known) (log : List Event) → AreAll n cs → Strangers n log → calls_in log cs ≡ length log
all_calls n cs [] all strangers = none cs
  where
    none : (ks : List Known) → calls_in [] ks ≡ 0
    none [] = refl
    none (k ∷ ks) = omega (arith, none ks)
all_calls n cs (e ∷ log) all strangers =
    let s = no_stranger n e log strangers in
    omega (arith, calls_in-more e log cs, hit_once n cs e.client all s.0, all_calls n cs log all s.1)

made_in : (log : List Event) (cs : List Known) → AgreesWith log cs → entries_made cs ≡ calls_in log cs
made_in log [] told = refl
made_in log (c ∷ cs) told = omega (arith, ap length told.1, made_in log cs told.2)

pub counted : (n : ℕ) (cs : List Known) (log : List Event) → AreAll n cs → AgreesWith log cs → Strangers n log → entries_made cs ≡ length log
counted n cs log all told strangers = made_in log cs told ∙ all_calls n cs log all strangers
