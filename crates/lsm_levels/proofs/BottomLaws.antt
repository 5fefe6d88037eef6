-- The bottom flag, by the hull of a job's inputs and the levels below its outputs.
use Rattle.std.proofs.Common.{◌≡◌, ℕ, zero, suc, ◌+◌, ◌-◌, ◌<◌, ◌≤◌, Bool, not, ◌||◌, List, [], ◌∷◌, ◌++◌, length, take, drop, Option, Some, None, refl, sym, ap, ◌∙◌, arith, append-nil}
use Rattle.std.proofs.lemmas.List.Folds.{list_any-append}
use Rattle.std.specs.List.{list_any}
use Rattle.lsm_levels.specs.Tables.{Table, KeyRange, spanned, hull, meets}
use Rattle.lsm_levels.specs.Hulls.{hull_onto}
use Rattle.lsm_levels.specs.Levels.{Levels, all_tables}
use Rattle.lsm_levels.specs.Pick.{Merge, below_output, meets_none, is_bottom}
use Rattle.lsm_levels.proofs.RunHulls.{onto_none}
use Rattle.lsm_levels.proofs.RunTests.{all_behind}

-- the hull of tables and of others
pub hull_of_both : (xs ys : List Table) → hull_onto xs (hull_onto ys None) ≡ hull (xs ++ ys)
hull_of_both [] ys = onto_none ys
hull_of_both (t ∷ xs) ys = ap (λ (o : Option KeyRange). Some (spanned t o)) (hull_of_both xs ys)

-- with one table more after them
onto_last : (front : List Table) (t : Table) (rest : Option KeyRange) → hull_onto (front ++ t ∷ []) rest ≡ hull_onto front (Some (spanned t rest))
onto_last [] t rest = refl
onto_last (x ∷ front) t rest = ap (λ (o : Option KeyRange). Some (spanned x o)) (onto_last front t rest)

-- a step towards the first table
pub onto_step : (left more : List Table) (t : Table) (rest : Option KeyRange) (range : KeyRange) → range ≡ spanned t rest → more ≡ left ++ t ∷ [] → hull_onto left (Some range) ≡ hull_onto more rest
onto_step left more t rest range is parts = ap (λ (r : KeyRange). hull_onto left (Some r)) is ∙ sym (onto_last left t rest) ∙ ap (λ (ts : List Table). hull_onto ts rest) (sym parts)

-- what holds of four runs holds of the deeper levels
by_four : (P : List (List Table) → Type 0) → ((a b c d : List Table) → P (a ∷ b ∷ c ∷ d ∷ [])) → (runs : List (List Table)) → length runs ≡ 4 → P runs
by_four P f [] e = absurd (omega (arith, e))
by_four P f (a ∷ []) e = absurd (omega (arith, e))
by_four P f (a ∷ b ∷ []) e = absurd (omega (arith, e))
by_four P f (a ∷ b ∷ c ∷ []) e = absurd (omega (arith, e))
by_four P f (a ∷ b ∷ c ∷ d ∷ []) e = f a b c d
by_four P f (a ∷ b ∷ c ∷ d ∷ x ∷ rest) e = absurd (omega (arith, e))

abbrev runs_below : (Table → Bool) → List (List Table) → ℕ → List (List Table) → Type 0
runs_below p runs i deeper = list_any p (all_tables (drop (suc i) deeper)) ≡ list_any p (below_output (record { runs = runs; deeper = deeper }) i)

-- the runs below the outputs are those after its own
pub any_below : (p : Table → Bool) (levels : Levels) (i : ℕ) → length levels.deeper ≡ 4 → i < 3 → list_any p (all_tables (drop (suc i) levels.deeper)) ≡ list_any p (below_output levels i)
any_below p levels zero four small = by_four (runs_below p levels.runs zero) (λ a b c d. ap (λ t. list_any p (b ++ (c ++ t))) (append-nil d)) levels.deeper four
any_below p levels (suc zero) four small = by_four (runs_below p levels.runs (suc zero)) (λ a b c d. ap (λ t. list_any p (c ++ t)) (append-nil d)) levels.deeper four
any_below p levels (suc (suc zero)) four small = by_four (runs_below p levels.runs (suc (suc zero))) (λ a b c d. ap (list_any p) (append-nil d)) levels.deeper four
any_below p levels (suc (suc (suc i))) four small = absurd (omega (arith, small))

-- below the last level there is none
pub none_below : (levels : Levels) (i : ℕ) → 3 ≤ i → below_output levels i ≡ []
none_below levels zero deep = absurd (omega (arith, deep))
none_below levels (suc zero) deep = absurd (omega (arith, deep))
none_below levels (suc (suc zero)) deep = absurd (omega (arith, deep))
none_below levels (suc (suc (suc i))) deep = refl

-- a test of the tables of runs, from one run on
pub any_in_runs : (p : Table → Bool) (run : List Table) (rest : List (List Table)) → list_any p (all_tables (run ∷ rest)) ≡ (list_any p run || list_any p (all_tables rest))
any_in_runs p run rest = list_any-append p run (all_tables rest)

-- the flag, by what is met of the runs after it
pub none_met : (levels : Levels) (i : ℕ) (range : KeyRange) (inputs : Option KeyRange) (b : Bool) (deeper : List (List Table)) → inputs ≡ Some range → deeper ≡ levels.deeper → length deeper ≡ 4 → i < 3
    → b ≡ list_any (meets range) (all_tables (take (length deeper - (i + 1)) (drop (i + 1) deeper))) → not b ≡ meets_none inputs (below_output levels i)
none_met levels i range inputs b deeper is same four small e =
    let met : b ≡ list_any (meets range) (below_output levels i) =
    e ∙ ap (λ runs. list_any (meets range) (all_tables runs)) (all_behind deeper i ∙ ap (drop (suc i)) same) ∙ any_below (meets range) levels i (sym (ap length same) ∙ four) small in
    ap not met ∙ sym (ap (λ (o : Option KeyRange). meets_none o (below_output levels i)) is)

-- and so for the job
pub flag_is : (levels : Levels) (i : ℕ) (upper lower : List Table) (inner outer : Option KeyRange) (b : Bool) → inner ≡ hull_onto lower None → outer ≡ hull_onto upper inner → b ≡ meets_none outer (below_output levels i)
    → b ≡ is_bottom levels (Merge i upper lower)
flag_is levels i upper lower inner outer b is_inner is_outer e =
    e ∙ ap (λ (o : Option KeyRange). meets_none o (below_output levels i)) (is_outer ∙ ap (hull_onto upper) is_inner ∙ hull_of_both upper lower)
