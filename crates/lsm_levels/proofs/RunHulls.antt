-- The hull of a run.
use Rattle.std.proofs.Common.{◌≡◌, ℕ, zero, suc, ◌+◌, ◌<◌, Bool, true, false, cond, List, [], ◌∷◌, ◌++◌, length, get_or, Option, Some, None, refl, ap, sym, ◌∙◌, arith, append-nil}
use Rattle.lsm_codec.specs.Keys.{Bytes}
use Rattle.lsm_levels.specs.Tables.{Table, KeyRange, at_most, least, greatest, IsRun, hull, spanned}
use Rattle.lsm_levels.specs.Hulls.{hull_onto}
use Rattle.lsm_levels.specs.Levels.{all_tables}
use Rattle.lsm_levels.proofs.OldestRuns.{tables_append}
use Rattle.lsm_levels.proofs.KeyOrder.{at_most_trans, below_at_most}

abbrev pub final : Table → List Table → Table
final t [] = t
final t (u ∷ rest) = final u rest

pub final_after : (t : Table) (rest : List Table) → IsRun (t ∷ rest) → at_most t.first (final t rest).last ≡ true
final_after t [] r = r.0
final_after t (u ∷ rest) r = at_most_trans t.first t.last (final u rest).last r.0 (at_most_trans t.last u.first (final u rest).last (below_at_most t.last u.first r.1.0) (final_after u rest r.2))

pub hull_run : (t : Table) (rest : List Table) → IsRun (t ∷ rest) → hull (t ∷ rest) ≡ Some (record { first = t.first; last = (final t rest).last })
hull_run t [] r = refl
hull_run t (u ∷ rest) r =
    ap (λ h. Some (spanned t h)) (hull_run u rest r.2)
    ∙ ap (λ b. Some (record { first = cond b t.first u.first; last = greatest t.last (final u rest).last })) (at_most_trans t.first t.last u.first r.0 (below_at_most t.last u.first r.1.0))
    ∙ ap (λ b. Some (record { first = t.first; last = cond b (final u rest).last t.last })) (at_most_trans t.last u.first (final u rest).last (below_at_most t.last u.first r.1.0) (final_after u rest r.2))

final_get : (t : Table) (rest : List Table) (i : ℕ) (d : Table) → i + 1 ≡ length (t ∷ rest) → get_or (t ∷ rest) i d ≡ final t rest
final_get t [] zero d e = refl
final_get t [] (suc i) d e = absurd (omega arith)
final_get t (u ∷ rest) zero d e = absurd (omega arith)
final_get t (u ∷ rest) (suc i) d e = final_get u rest i d (omega arith)

-- the hull by a run's first and last table
pub hull_by_ends : (run : List Table) (a b : Table) (i : ℕ) → IsRun run → i + 1 ≡ length run → a ≡ get_or run 0 a → b ≡ get_or run i b → Some (record { first = a.first; last = b.last }) ≡ hull run
hull_by_ends [] a b i r e f h = absurd (omega arith)
hull_by_ends (t ∷ rest) a b i r e f h =
    sym (hull_run t rest r ∙ ap (λ u. Some (record { first = u.first; last = (final t rest).last })) (sym f) ∙ ap (λ u. Some (record { first = a.first; last = u.last })) (sym (h ∙ final_get t rest i b e)))

-- a run with tables has a hull
pub run_hull_some : (run : List Table) → None ≡ hull run → 0 < length run → ⊥
run_hull_some [] e h = omega arith
run_hull_some (t ∷ rest) e h = cc

-- ---- with a range after it

least_over : (a b c : Bytes) → at_most a b ≡ true → least a (least b c) ≡ least a c
least_over a b c le = by (at_most b c) refl
  where
    by : (x : Bool) → at_most b c ≡ x → least a (cond x b c) ≡ least a c
    by true e = ap (λ x. cond x a b) le ∙ sym (ap (λ x. cond x a c) (at_most_trans a b c le e))
    by false e = refl

greatest_over : (a b c : Bytes) → at_most a b ≡ true → greatest a (greatest b c) ≡ greatest b c
greatest_over a b c le = by (at_most b c) refl
  where
    by : (x : Bool) → at_most b c ≡ x → greatest a (cond x c b) ≡ cond x c b
    by true e = ap (λ x. cond x c a) (at_most_trans a b c le e)
    by false e = ap (λ x. cond x b a) le

run_onto : (t : Table) (rest : List Table) (w : KeyRange) → IsRun (t ∷ rest) → hull_onto (t ∷ rest) (Some w) ≡ Some (record { first = least t.first w.first; last = greatest (final t rest).last w.last })
run_onto t [] w r = refl
run_onto t (u ∷ rest) w r =
    let over : at_most t.last (final u rest).last ≡ true = at_most_trans t.last u.first (final u rest).last (below_at_most t.last u.first r.1.0) (final_after u rest r.2) in
    ap (λ h. Some (spanned t h)) (run_onto u rest w r.2)
    ∙ ap (λ (a : Bytes). Some (record { first = a; last = greatest t.last (greatest (final u rest).last w.last) }))
    (least_over t.first u.first w.first (at_most_trans t.first t.last u.first r.0 (below_at_most t.last u.first r.1.0)))
    ∙ ap (λ (a : Bytes). Some (record { first = least t.first w.first; last = a })) (greatest_over t.last (final u rest).last w.last over)

-- the hull of a run and a range, by the run's hull
pub onto_by_ends : (run : List Table) (r w : KeyRange) → IsRun run → Some r ≡ hull run → Some (record { first = least r.first w.first; last = greatest r.last w.last }) ≡ hull_onto run (Some w)
onto_by_ends [] r w is e = absurd (no r e)
  where
    no : (a : KeyRange) → Some a ≡ None → ⊥
    no a f = cc
onto_by_ends (t ∷ rest) r w is e =
    let same : r ≡ record { first = t.first; last = (final t rest).last } = by r _ (e ∙ hull_run t rest is) in
    ap (λ (h : KeyRange). Some (record { first = least h.first w.first; last = greatest h.last w.last })) same ∙ sym (run_onto t rest w is)
  where
    by : (a b : KeyRange) → Some a ≡ Some b → a ≡ b
    by a b f = cc

pub onto_none : (tables : List Table) → hull_onto tables None ≡ hull tables
onto_none [] = refl
onto_none (t ∷ rest) = ap (λ (o : Option KeyRange). Some (spanned t o)) (onto_none rest)

pub onto_empty : (run : List Table) (rest : Option KeyRange) → None ≡ hull run → rest ≡ hull_onto run rest
onto_empty [] rest e = refl
onto_empty (t ∷ run) rest e = absurd (no _ e)
  where
    no : (a : KeyRange) → None ≡ Some a → ⊥
    no a f = cc

onto_append : (xs ys : List Table) (rest : Option KeyRange) → hull_onto (xs ++ ys) rest ≡ hull_onto xs (hull_onto ys rest)
onto_append [] ys rest = refl
onto_append (t ∷ xs) ys rest = ap (λ (o : Option KeyRange). Some (spanned t o)) (onto_append xs ys rest)

-- a step towards the first run
pub onto_runs_step : (left more : List (List Table)) (run : List Table) (rest next : Option KeyRange) → next ≡ hull_onto run rest → more ≡ left ++ run ∷ []
    → hull_onto (all_tables left) next ≡ hull_onto (all_tables more) rest
onto_runs_step left more run rest next is parts =
    ap (hull_onto (all_tables left)) is ∙ sym (onto_append (all_tables left) run rest)
    ∙ ap (λ (ts : List Table). hull_onto (all_tables left ++ ts) rest) (sym (append-nil run))
    ∙ ap (λ (ts : List Table). hull_onto ts rest) (sym (tables_append left (run ∷ [])))
    ∙ ap (λ (rs : List (List Table)). hull_onto (all_tables rs) rest) (sym parts)
