-- Extents that are handed out, counted with those of tables.
use Rattle.std.proofs.Common.{◌≡◌, ◌≢◌, ◌⊎◌, inl, inr, ℕ, zero, suc, ◌+◌, ◌<◌, ◌≤◌, Bool, true, false, cond, leb, ltb, List, [], ◌∷◌, ◌++◌, length, get_or, map, filter, Contains, refl, sym, ap, ◌∙◌, subst, arith, All}
use Rattle.std.specs.Prelude.{◌==◌, count_by}
use Rattle.std.specs.List.{AllByRecursion, list_any}
use Rattle.std.proofs.lemmas.Bool.{and_from, and_parts, eqb-true, eqb-false, eq-eqb, leb-true, ltb-true, cases_lt, cond_both}
use Rattle.std.proofs.lemmas.List.{length-append}
use Rattle.std.proofs.lemmas.List.Elements.{All-head, All-tail, filter-append}
use Rattle.std.proofs.lemmas.List.Sums.{sum_by-cons}
use Rattle.lsm_extent.specs.declared.extent.Extent.{Extent}
use Rattle.lsm_extent.specs.Area.{Area, IsPartition, covers, is_held, with_extent, without_extent, handed_out}
use Rattle.lsm_levels.specs.Among.{IsAmong}
use Rattle.lsm_levels.specs.Tables.{Table}
use Rattle.lsm_levels.proofs.Members.{any_of, of_any}
use Rattle.lsm_levels.proofs.Ranges.{all_of, of_all}
use Rattle.lsm_jobs.specs.Placing.{extent_of, all_handed_out, all_given_back, AreHandedOut}
use Rattle.lsm_machine.specs.Accounts.{is_same_extent, extents_like, tables_like, LieApart, AllLieApart, ArePlacedIn}
use Rattle.lsm_extent.proofs.Counting.{covers_inside}

-- ---- counting

abbrev pub one_if : Bool → ℕ
one_if true = 1
one_if false = 0

pub count_cons : {X : Type 0} (p : X → Bool) (x : X) (xs : List X) → length (filter p (x ∷ xs)) ≡ one_if (p x) + length (filter p xs)
count_cons p x xs = by (p x)
  where
    by : (b : Bool) → length (cond b (x ∷ filter p xs) (filter p xs)) ≡ one_if b + length (filter p xs)
    by true = omega arith
    by false = omega arith

pub count_append : {X : Type 0} (p : X → Bool) (xs ys : List X) → length (filter p (xs ++ ys)) ≡ length (filter p xs) + length (filter p ys)
count_append p xs ys = ap length (filter-append p xs ys) ∙ length-append (filter p xs) (filter p ys)

unless : (b : Bool) → (b ≡ true → ⊥) → b ≡ false
unless true f = absurd (f refl)
unless false f = refl

-- what passes is counted
count_passed : {X : Type 0} (p : X → Bool) (x : X) (xs : List X) → IsAmong x xs → p x ≡ true → 1 ≤ length (filter p xs)
count_passed p x [] a h = absurd a
count_passed p x (y ∷ ys) (inl e) h = omega (arith, count_cons p y ys, ap one_if (sym (ap p e) ∙ h))
count_passed p x (y ∷ ys) (inr a) h = omega (arith, count_cons p y ys, count_passed p x ys a h)

-- and where some are counted one passes
passed_some : {X : Type 0} (p : X → Bool) (xs : List X) → 1 ≤ length (filter p xs) → (x : X) × IsAmong x xs × (p x ≡ true)
passed_some p [] some = absurd (omega (arith, some))
passed_some p (y ∷ ys) some = by (passed_some p ys) (p y) refl
  where
    by : (1 ≤ length (filter p ys) → (x : _) × IsAmong x ys × (p x ≡ true)) → (b : Bool) → p y ≡ b → (x : _) × IsAmong x (y ∷ ys) × (p x ≡ true)
    by more true e = (y, inl refl, e)
    by more false e = let later = more (omega (arith, some, count_cons p y ys, ap one_if e)) in (later.0, inr later.1, later.2)

none_counted : {X : Type 0} (p : X → Bool) (xs : List X) → AllByRecursion (λ x. p x ≡ false) xs → length (filter p xs) ≡ 0
none_counted p [] h = refl
none_counted p (x ∷ xs) h = omega (arith, count_cons p x xs, ap one_if h.0, none_counted p xs h.1)

-- ---- one extent

same_first : (e x : Extent) → is_same_extent e x ≡ true → e.first ≡ x.first
same_first e x h = eqb-true e.first x.first (and_parts (e.first == x.first) (e.blocks == x.blocks) h).0

same_extent : (e x : Extent) → is_same_extent e x ≡ true → e ≡ x
same_extent e x h =
    let parts = and_parts (e.first == x.first) (e.blocks == x.blocks) h in
    λ i. record { first = eqb-true e.first x.first parts.0 i; blocks = eqb-true e.blocks x.blocks parts.1 i }

itself : (e : Extent) → is_same_extent e e ≡ true
itself e = and_from (e.first == e.first) (e.blocks == e.blocks) (eq-eqb e.first e.first refl) (eq-eqb e.blocks e.blocks refl)

among_like : (e : Extent) (es : List Extent) → 1 ≤ extents_like e es → IsAmong e es
among_like e es some = let found = passed_some (is_same_extent e) es some in subst (λ (x : Extent). IsAmong x es) (sym (same_extent e found.0 found.2)) found.1

like_among : (e : Extent) (es : List Extent) → IsAmong e es → 1 ≤ extents_like e es
like_among e es a = count_passed (is_same_extent e) e es a (itself e)

table_like : (e : Extent) (ts : List Table) → 1 ≤ tables_like e ts → (t : Table) × IsAmong t ts × (extent_of t ≡ e)
table_like e ts some = let found = passed_some (λ (t : Table). is_same_extent e (extent_of t)) ts some in (found.0, found.1, sym (same_extent e (extent_of found.0) found.2))

like_table : (t : Table) (ts : List Table) → IsAmong t ts → 1 ≤ tables_like (extent_of t) ts
like_table t ts a = count_passed (λ (u : Table). is_same_extent (extent_of t) (extent_of u)) t ts a (itself (extent_of t))

contains_among : (e : Extent) (es : List Extent) → IsAmong e es → Contains es e
contains_among e [] a = absurd a
contains_among e (x ∷ xs) (inl same) = (0, omega arith, sym same)
contains_among e (x ∷ xs) (inr a) = let more = contains_among e xs a in (suc more.0, omega (arith, more.1), more.2)

pub among_contains : (e : Extent) (es : List Extent) → Contains es e → IsAmong e es
among_contains e es has = at es has.0 has.1 has.2
  where
    at : (xs : List Extent) (k : ℕ) → k < length xs → get_or xs k e ≡ e → IsAmong e xs
    at [] k lt is = absurd (omega (arith, lt))
    at (x ∷ xs) zero lt is = inl (sym is)
    at (x ∷ xs) (suc k) lt is = inr (at xs k (omega (arith, lt)) is)

-- ---- what is handed out

with_like : (e x : Extent) (es : List Extent) → extents_like e (with_extent x es) ≡ one_if (is_same_extent e x) + extents_like e es
with_like e x [] = count_cons (is_same_extent e) x []
with_like e x (y ∷ ys) =
    cond_both (ltb x.first y.first) (x ∷ y ∷ ys) (y ∷ with_extent x ys) (λ (es : List Extent). extents_like e es ≡ one_if (is_same_extent e x) + extents_like e (y ∷ ys))
    (λ _. count_cons (is_same_extent e) x (y ∷ ys))
    (λ _. omega (arith, count_cons (is_same_extent e) y (with_extent x ys), count_cons (is_same_extent e) y ys, with_like e x ys))

pub all_out_like : (e : Extent) (ts : List Table) (area : Area) → extents_like e (all_handed_out ts area).held ≡ extents_like e area.held + tables_like e ts
all_out_like e [] area = omega arith
all_out_like e (t ∷ rest) area =
    omega (arith, all_out_like e rest (handed_out (extent_of t) area), with_like e (extent_of t) area.held, count_cons (λ (u : Table). is_same_extent e (extent_of u)) t rest)

-- ---- extents that begin at different blocks

abbrev pub BeginApart : List Extent → Type 0
BeginApart [] = Unit {0}
BeginApart (x ∷ xs) = AllByRecursion (λ y. y.first ≢ x.first) xs × BeginApart xs

one_first : (x y : Extent) (es : List Extent) → BeginApart es → IsAmong x es → IsAmong y es → x.first ≡ y.first → x ≡ y
one_first x y [] apart a b same = absurd a
one_first x y (z ∷ zs) apart (inl e) (inl f) same = e ∙ sym f
one_first x y (z ∷ zs) apart (inl e) (inr b) same = absurd (of_all (λ (w : Extent). w.first ≢ z.first) zs apart.0 y b (sym same ∙ ap (λ (w : Extent). w.first) e))
one_first x y (z ∷ zs) apart (inr a) (inl f) same = absurd (of_all (λ (w : Extent). w.first ≢ z.first) zs apart.0 x a (same ∙ ap (λ (w : Extent). w.first) f))
one_first x y (z ∷ zs) apart (inr a) (inr b) same = one_first x y zs apart.1 a b same

like_once : (e : Extent) (es : List Extent) → BeginApart es → extents_like e es ≤ 1
like_once e [] apart = omega arith
like_once e (x ∷ xs) apart = by (like_once e xs apart.1) (is_same_extent e x) refl
  where
    by : extents_like e xs ≤ 1 → (b : Bool) → is_same_extent e x ≡ b → extents_like e (x ∷ xs) ≤ 1
    by more false f = omega (arith, count_cons (is_same_extent e) x xs, ap one_if f, more)
    by more true f =
        let none : AllByRecursion (λ y. is_same_extent e y ≡ false) xs =
        all_of (λ y. is_same_extent e y ≡ false) xs (λ y a. unless (is_same_extent e y) (λ h. of_all (λ (w : Extent). w.first ≢ x.first) xs apart.0 y a (sym (same_first e y h) ∙ same_first e x f))) in
        omega (arith, count_cons (is_same_extent e) x xs, ap one_if f, none_counted (is_same_extent e) xs none)

all_without : (P : Extent → Type 0) (x : Extent) (es : List Extent) → AllByRecursion P es → AllByRecursion P (without_extent x es)
all_without P x [] all = tt
all_without P x (y ∷ ys) all = cond_both (y.first == x.first) ys (y ∷ without_extent x ys) (AllByRecursion P) (λ _. all.1) (λ _. (all.0, all_without P x ys all.1))

-- Without one that is among them there is one less like it, and they begin at different blocks.
abbrev LeftBy : Extent → List Extent → List Extent → Type 0
LeftBy x es left = ((e : Extent) → extents_like e es ≡ one_if (is_same_extent e x) + extents_like e left) × BeginApart left

without_like : (x : Extent) (es : List Extent) → BeginApart es → IsAmong x es → LeftBy x es (without_extent x es)
without_like x [] apart a = absurd a
without_like x (y ∷ ys) apart a = by a (λ b. without_like x ys apart.1 b)
  where
    here : x ≡ y → LeftBy x (y ∷ ys) ys
    here same = (λ e. count_cons (is_same_extent e) y ys ∙ ap (λ (z : Extent). one_if (is_same_extent e z) + extents_like e ys) (sym same), apart.1)

    later : LeftBy x ys (without_extent x ys) → LeftBy x (y ∷ ys) (y ∷ without_extent x ys)
    later more = (
      λ e. omega (arith, count_cons (is_same_extent e) y ys, count_cons (is_same_extent e) y (without_extent x ys), more.0 e),
      (all_without (λ (w : Extent). w.first ≢ y.first) x ys apart.0, more.1),
    )

    by : IsAmong x (y ∷ ys) → (IsAmong x ys → LeftBy x ys (without_extent x ys)) → LeftBy x (y ∷ ys) (without_extent x (y ∷ ys))
    by (inl same) more = cond_both (y.first == x.first) ys (y ∷ without_extent x ys) (LeftBy x (y ∷ ys)) (λ _. here same)
        (λ other. absurd (eqb-false y.first x.first other (ap (λ (z : Extent). z.first) (sym same))))
    by (inr b) more = cond_both (y.first == x.first) ys (y ∷ without_extent x ys) (LeftBy x (y ∷ ys))
        (λ first. absurd (of_all (λ (w : Extent). w.first ≢ y.first) ys apart.0 x b (sym (eqb-true y.first x.first first))))
        (λ _. later (more b))

-- Tables that stand among extents, counted with those that are alike.
abbrev pub StandAmong : List Table → List Extent → Type 0
StandAmong ts es = (e : Extent) → tables_like e ts ≤ extents_like e es

rest_stand : (t : Table) (rest : List Table) (es : List Extent) → StandAmong (t ∷ rest) es → StandAmong rest es
rest_stand t rest es all = λ e. omega (arith, all e, count_cons (λ (u : Table). is_same_extent e (extent_of u)) t rest)

abbrev Back : List Table → List Extent → List Extent → Type 0
Back ts es left = ((e : Extent) → extents_like e left + tables_like e ts ≡ extents_like e es) × BeginApart left

pub all_back_like : (ts : List Table) (area : Area) → BeginApart area.held → StandAmong ts area.held → Back ts area.held (all_given_back ts area).held
all_back_like [] area apart all = (λ e. omega arith, apart)
all_back_like (t ∷ rest) area apart all =
    let more = all_back_like rest area apart (rest_stand t rest area.held all) in
    let mid = (all_given_back rest area).held in
    let own = extent_of t in
    let some : 1 ≤ extents_like own mid = omega (arith, all own, count_cons (λ (u : Table). is_same_extent own (extent_of u)) t rest, ap one_if (itself own), more.0 own) in
    let left = without_like own mid more.1 (among_like own mid some) in
    (λ e. omega (arith, left.0 e, more.0 e, count_cons (λ (u : Table). is_same_extent e (extent_of u)) t rest), left.1)

-- ---- tables with extents of their own

other_starts : (t : Table) (rest : List Table) (es : List Extent) → BeginApart es → StandAmong (t ∷ rest) es → AllByRecursion (λ u. u.start ≢ t.start) rest
other_starts t rest es apart all = all_of (λ u. u.start ≢ t.start) rest (λ u a same. by u a same)
  where
    own : Extent
    own = extent_of t

    there : (u : Table) → IsAmong u (t ∷ rest) → IsAmong (extent_of u) es
    there u a = among_like (extent_of u) es (omega (arith, all (extent_of u), like_table u (t ∷ rest) a))

    by : (u : Table) → IsAmong u rest → u.start ≡ t.start → ⊥
    by u a same =
        let one : extent_of u ≡ own = one_first (extent_of u) own es apart (there u (inr a)) (there t (inl refl)) same in
        let again : 1 ≤ tables_like own rest = subst (λ (e : Extent). 1 ≤ tables_like e rest) one (like_table u rest a) in
        omega (arith, again, all own, like_once own es apart, count_cons (λ (w : Table). is_same_extent own (extent_of w)) t rest, ap one_if (itself own))

pub stand_out : (ts : List Table) (area : Area) → BeginApart area.held → StandAmong ts area.held → AreHandedOut ts area
stand_out [] area apart all = tt
stand_out (t ∷ rest) area apart all = (
  contains_among (extent_of t) area.held (among_like (extent_of t) area.held (omega (arith, all (extent_of t), like_table t (t ∷ rest) (inl refl)))),
  other_starts t rest area.held apart all,
  stand_out rest area apart (rest_stand t rest area.held all),
)

-- ---- a partition

covered_by : (k : ℕ) (x : Extent) → covers k x ≡ true → (x.first ≤ k) × (k < x.first + x.blocks)
covered_by k x h =
    let parts = and_parts (leb x.first k) (ltb k (x.first + x.blocks)) h in
    (leb-true x.first k parts.0, ltb-true k (x.first + x.blocks) parts.1)

count_by_cons : (k : ℕ) (x : Extent) (xs : List Extent) → count_by (covers k) (x ∷ xs) ≡ cond (covers k x) 1 0 + count_by (covers k) xs
count_by_cons k x xs = sum_by-cons (λ (y : Extent). cond (covers k y) 1 0) x xs

count_by_yes : (k : ℕ) (x : Extent) (xs : List Extent) → covers k x ≡ true → count_by (covers k) (x ∷ xs) ≡ 1 + count_by (covers k) xs
count_by_yes k x xs h = count_by_cons k x xs ∙ ap (λ (b : Bool). cond b 1 0 + count_by (covers k) xs) h

count_by_some : (k : ℕ) (x : Extent) (xs : List Extent) → count_by (covers k) xs ≤ count_by (covers k) (x ∷ xs)
count_by_some k x xs = omega (arith, count_by_cons k x xs)

once_counted : (k : ℕ) (x : Extent) (xs : List Extent) → IsAmong x xs → covers k x ≡ true → 1 ≤ count_by (covers k) xs
once_counted k x [] a h = absurd a
once_counted k x (y ∷ ys) (inl e) h = omega (arith, count_by_yes k y ys (sym (ap (covers k) e) ∙ h))
once_counted k x (y ∷ ys) (inr a) h = omega (arith, count_by_some k y ys, once_counted k x ys a h)

-- two that begin at different blocks are both counted
twice_counted : (k : ℕ) (x y : Extent) (zs : List Extent) → x.first ≢ y.first → IsAmong x zs → IsAmong y zs → covers k x ≡ true → covers k y ≡ true → 2 ≤ count_by (covers k) zs
twice_counted k x y [] other a b h g = absurd a
twice_counted k x y (z ∷ zs) other (inl e) (inl f) h g = absurd (other (ap (λ (w : Extent). w.first) (e ∙ sym f)))
twice_counted k x y (z ∷ zs) other (inl e) (inr b) h g = omega (arith, count_by_yes k z zs (sym (ap (covers k) e) ∙ h), once_counted k y zs b g)
twice_counted k x y (z ∷ zs) other (inr a) (inl f) h g = omega (arith, count_by_yes k z zs (sym (ap (covers k) f) ∙ g), once_counted k x zs a h)
twice_counted k x y (z ∷ zs) other (inr a) (inr b) h g = omega (arith, count_by_some k z zs, twice_counted k x y zs other a b h g)

abbrev IsInside : ℕ → Extent → Type 0
IsInside blocks x = (0 < x.blocks) × (x.first + x.blocks ≤ blocks)

begin_apart : (blocks : ℕ) (es : List Extent) → ((k : ℕ) → k < blocks → count_by (covers k) es ≤ 1) → AllByRecursion (IsInside blocks) es → BeginApart es
begin_apart blocks [] once inside = tt
begin_apart blocks (x ∷ xs) once inside = (
  all_of (λ y. y.first ≢ x.first) xs (λ y a same. by y a same),
  begin_apart blocks xs (λ k lt. omega (arith, once k lt, count_by_some k x xs)) inside.1,
)
  where
    by : (y : Extent) → IsAmong y xs → y.first ≡ x.first → ⊥
    by y a same =
        let its = of_all (IsInside blocks) xs inside.1 y a in
        let own : covers x.first x ≡ true = covers_inside x.first x (omega arith) (omega (arith, inside.0.0)) in
        let also : covers x.first y ≡ true = covers_inside x.first y (omega (arith, same)) (omega (arith, same, its.0)) in
        omega (arith, once x.first (omega (arith, inside.0.0, inside.0.1)), count_by_yes x.first x xs own, once_counted x.first y xs a also)

module _ (area : Area) (whole : IsPartition area) where
  each_inside : AllByRecursion (IsInside area.blocks) area.held
  each_inside = go area.held whole.nonempty whole.inside
    where
      go : (es : List Extent) → All (λ x. 0 < x.blocks) es → All (λ x. x.first + x.blocks ≤ area.blocks) es → AllByRecursion (IsInside area.blocks) es
      go [] some inside = tt
      go (x ∷ xs) some inside = (
        (All-head (λ (y : Extent). 0 < y.blocks) x xs some, All-head (λ (y : Extent). y.first + y.blocks ≤ area.blocks) x xs inside),
        go xs (All-tail (λ (y : Extent). 0 < y.blocks) x xs some) (All-tail (λ (y : Extent). y.first + y.blocks ≤ area.blocks) x xs inside),
      )

  covered_once : (k : ℕ) → k < area.blocks → count_by (covers k) area.held ≤ 1
  covered_once k lt = omega (arith, whole.once k lt)

  pub partition_apart : BeginApart area.held
  partition_apart = begin_apart area.blocks area.held covered_once each_inside

  -- two that are handed out have no block in common
  lie_apart : (x y : Extent) → IsAmong x area.held → IsAmong y area.held → x.first ≢ y.first → (x.first + x.blocks ≤ y.first) ⊎ (y.first + y.blocks ≤ x.first)
  lie_apart x y a b other = by (cases_lt x.first (y.first + y.blocks)) (cases_lt y.first (x.first + x.blocks))
    where
      mine : IsInside area.blocks x
      mine = of_all (IsInside area.blocks) area.held each_inside x a

      its : IsInside area.blocks y
      its = of_all (IsInside area.blocks) area.held each_inside y b

      both : (k : ℕ) → covers k x ≡ true → covers k y ≡ true → k < area.blocks → ⊥
      both k h g lt = omega (arith, covered_once k lt, twice_counted k x y area.held other a b h g)

      shared : x.first < y.first + y.blocks → y.first < x.first + x.blocks → (x.first < y.first) ⊎ (y.first ≤ x.first) → ⊥
      shared p q (inl lt) = both y.first (covers_inside y.first x (omega (arith, lt)) q) (covers_inside y.first y (omega arith) (omega (arith, its.0))) (omega (arith, its.0, its.1))
      shared p q (inr le) = both x.first (covers_inside x.first x (omega arith) (omega (arith, mine.0))) (covers_inside x.first y le p) (omega (arith, mine.0, mine.1))

      by : (x.first < y.first + y.blocks) ⊎ (y.first + y.blocks ≤ x.first) → (y.first < x.first + x.blocks) ⊎ (x.first + x.blocks ≤ y.first) → (x.first + x.blocks ≤ y.first) ⊎ (y.first + y.blocks ≤ x.first)
      by (inr behind) q = inr behind
      by (inl p) (inr before) = inl before
      by (inl p) (inl q) = absurd (shared p q (cases_lt x.first y.first))

  module _ (ts : List Table) (all : StandAmong ts area.held) where
    there : (t : Table) → IsAmong t ts → IsAmong (extent_of t) area.held
    there t a = among_like (extent_of t) area.held (omega (arith, all (extent_of t), like_table t ts a))

    pub tables_inside : AllByRecursion (λ t. (0 < t.blocks) × (t.start + t.blocks ≤ area.blocks)) ts
    tables_inside = all_of (λ t. (0 < t.blocks) × (t.start + t.blocks ≤ area.blocks)) ts (λ t a. of_all (IsInside area.blocks) area.held each_inside (extent_of t) (there t a))

  pub tables_apart : (ts : List Table) → StandAmong ts area.held → AllLieApart ts
  tables_apart [] all = tt
  tables_apart (t ∷ rest) all = (
    all_of (LieApart t) rest (λ u a.
        lie_apart (extent_of t) (extent_of u) (there (t ∷ rest) all t (inl refl)) (there (t ∷ rest) all u (inr a))
        (λ same. of_all (λ u. u.start ≢ t.start) rest (other_starts t rest area.held partition_apart all) u a (sym same))),
    tables_apart rest (rest_stand t rest area.held all),
  )

  -- a block is held where a table has it, if there are just the tables' extents
  just_held : (ts : List Table) → ((e : Extent) → extents_like e area.held ≡ tables_like e ts) → (k : ℕ) → is_held area.held k ≡ list_any (λ t. covers k (extent_of t)) ts
  just_held ts same k = alike (is_held area.held k) (list_any (λ (t : Table). covers k (extent_of t)) ts) one other
    where
      alike : (a b : Bool) → (a ≡ true → b ≡ true) → (b ≡ true → a ≡ true) → a ≡ b
      alike true b f g = sym (f refl)
      alike false true f g = g refl
      alike false false f g = refl

      one : is_held area.held k ≡ true → list_any (λ (t : Table). covers k (extent_of t)) ts ≡ true
      one h =
          let found = of_any (covers k) area.held h in
          let t = table_like found.0 ts (omega (arith, same found.0, like_among found.0 area.held found.1)) in
          any_of (λ (u : Table). covers k (extent_of u)) t.0 ts t.1 (ap (covers k) t.2 ∙ found.2)

      other : list_any (λ (t : Table). covers k (extent_of t)) ts ≡ true → is_held area.held k ≡ true
      other h =
          let found = of_any (λ (u : Table). covers k (extent_of u)) ts h in
          any_of (covers k) (extent_of found.0) area.held (among_like (extent_of found.0) area.held (omega (arith, same (extent_of found.0), like_table found.0 ts found.1))) found.2

  pub placed_in : (ts : List Table) → ((e : Extent) → extents_like e area.held ≡ tables_like e ts) → ArePlacedIn ts area
  placed_in ts same =
      let all : StandAmong ts area.held = λ e. omega (arith, same e) in
      record {
        out = stand_out ts area partition_apart all;
        apart = tables_apart ts all;
        inside = tables_inside ts all;
        only = just_held ts same;
      }

  -- two lists of extents that begin apart have the same ones, where each of the one is handed out and just their blocks are held
  pub same_counts : (es : List Extent) → BeginApart es → ((e : Extent) → IsAmong e es → IsAmong e area.held) → ((k : ℕ) → is_held area.held k ≡ list_any (covers k) es) → (e : Extent) → extents_like e area.held ≡ extents_like e es
  same_counts es apart among only e = alike (extents_like e area.held) (extents_like e es) (like_once e area.held partition_apart) (like_once e es apart) one other
    where
      alike : (a b : ℕ) → a ≤ 1 → b ≤ 1 → (1 ≤ a → 1 ≤ b) → (1 ≤ b → 1 ≤ a) → a ≡ b
      alike zero zero p q f g = refl
      alike zero (suc b) p q f g = absurd (let x = g (omega arith) in omega (arith, x))
      alike (suc a) zero p q f g = absurd (let x = f (omega arith) in omega (arith, x))
      alike (suc a) (suc b) p q f g = omega (arith, p, q)

      -- one of them has the first block, and is that one
      found : IsAmong e area.held → (x : Extent) × IsAmong x es × (covers e.first x ≡ true) → IsAmong e es
      found a x =
          let own = of_all (IsInside area.blocks) area.held each_inside e a in
          let here : covers e.first e ≡ true = covers_inside e.first e (omega arith) (omega (arith, own.0)) in
          let first : x.0.first ≡ e.first = equal (x.0.first == e.first) refl (λ differ. omega (arith, covered_once e.first (omega (arith, own.0, own.1)), twice_counted e.first x.0 e area.held differ (among x.0 x.1) a x.2 here)) in
          subst (λ (y : Extent). IsAmong y es) (one_first x.0 e area.held partition_apart (among x.0 x.1) a first) x.1
        where
          equal : (b : Bool) → (x.0.first == e.first) ≡ b → ((x.0.first ≡ e.first → ⊥) → ⊥) → x.0.first ≡ e.first
          equal true h f = eqb-true x.0.first e.first h
          equal false h f = absurd (f (eqb-false x.0.first e.first h))

      one : 1 ≤ extents_like e area.held → 1 ≤ extents_like e es
      one some =
          let a = among_like e area.held some in
          let own = of_all (IsInside area.blocks) area.held each_inside e a in
          let here : covers e.first e ≡ true = covers_inside e.first e (omega arith) (omega (arith, own.0)) in
          like_among e es (found a (of_any (covers e.first) es (sym (only e.first) ∙ any_of (covers e.first) e area.held a here)))

      other : 1 ≤ extents_like e es → 1 ≤ extents_like e area.held
      other some = like_among e area.held (among e (among_like e es some))

-- counted by their extents
pub tables_extents : (e : Extent) (ts : List Table) → tables_like e ts ≡ extents_like e (map extent_of ts)
tables_extents e [] = refl
tables_extents e (t ∷ rest) =
    count_cons (λ (u : Table). is_same_extent e (extent_of u)) t rest ∙ ap (λ (n : ℕ). one_if (is_same_extent e (extent_of t)) + n) (tables_extents e rest)
    ∙ sym (count_cons (is_same_extent e) (extent_of t) (map extent_of rest))

-- ---- the size of the area

pub back_blocks : (tables : List Table) (area : Area) → (all_given_back tables area).blocks ≡ area.blocks
back_blocks [] area = refl
back_blocks (t ∷ rest) area = back_blocks rest area
