-- What surely finds room, and how many tables there are.
use Rattle.std.proofs.Common.{◌≡◌, ℕ, ◌+◌, ◌<◌, ◌≤◌, List, [], ◌∷◌, ◌++◌, length, sym, ap, ◌∙◌, arith, sum}
use Prim.Native.Nat.{min}
use Rattle.std.specs.List.{AllByRecursion}
use Rattle.std.proofs.lemmas.List.Sums.{sum_by-append, sum_by-cons}
use Rattle.std.proofs.lemmas.List.{length-append}
use Rattle.lsm_extent.specs.Area.{Area}
use Rattle.lsm_extent.specs.Gaps.{SurelyFit, FindRoom}
use Rattle.lsm_levels.specs.Tables.{Table}
use Rattle.lsm_levels.specs.Levels.{Levels, all_tables}
use Rattle.lsm_levels.specs.Moving.{table_count}
use Rattle.lsm_policy.specs.Room.{blocks_of, taken_blocks}
use Rattle.lsm_levels.proofs.OldestRuns.{tables_append}

-- sizes of `total` blocks in all have no more each
narrowed : (sizes : List ℕ) (total largest : ℕ) → AllByRecursion (λ n. (0 < n) × (n ≤ largest)) sizes → sum sizes ≤ total → AllByRecursion (λ n. (0 < n) × (n ≤ min largest total)) sizes
narrowed [] total largest each within = tt
narrowed (n ∷ rest) total largest (h, hs) within =
    let adds : sum (n ∷ rest) ≡ n + sum rest = sum_by-cons (λ x. x) n rest in
    ((h.0, omega (arith, adds, h.1, within)), narrowed rest total largest hs (omega (arith, adds, within)))

-- so it is enough that the largest of these is no larger than all of them
pub of_least : (area : Area) (total largest least : ℕ) → least ≡ min largest total → SurelyFit area total least → SurelyFit area total largest
of_least area total largest least is fit =
    record { find = λ sizes each within. fit.find sizes (rw is (narrowed sizes total largest each within)) within }

nothing_fits : (area : Area) (largest : ℕ) (sizes : List ℕ) → AllByRecursion (λ n. (0 < n) × (n ≤ largest)) sizes → sum sizes ≤ 0 → FindRoom area sizes
nothing_fits area largest [] each within = tt
nothing_fits area largest (n ∷ rest) (h, hs) within =
    let adds : sum (n ∷ rest) ≡ n + sum rest = sum_by-cons (λ x. x) n rest in
    absurd (omega (arith, adds, h.0, within))

-- nothing finds room
pub of_none : (area : Area) (total largest : ℕ) → total ≡ 0 → SurelyFit area total largest
of_none area total largest none = record { find = λ sizes each within. nothing_fits area largest sizes each (omega (arith, none, within)) }

-- the number of tables in all levels, up to a limit
pub all_counted : (levels : Levels) (runs deeper : List (List Table)) → runs ≡ levels.runs → deeper ≡ levels.deeper → (limit first both : ℕ)
    → first ≡ min (0 + length (all_tables runs)) limit → both ≡ min (first + length (all_tables deeper)) limit → both ≡ min (table_count levels) limit
all_counted levels runs deeper runs_are deeper_are limit first both first_is both_is =
    let whole : length (all_tables runs) + length (all_tables deeper) ≡ table_count levels =
    sym (length-append (all_tables runs) (all_tables deeper)) ∙ ap length (sym (tables_append runs deeper)) ∙ (λ i. length (all_tables (runs_are i ++ deeper_are i)))
    in omega (arith, first_is, both_is, whole)

-- the number of blocks in all tables, up to a limit
pub all_taken : (levels : Levels) (runs deeper : List (List Table)) → runs ≡ levels.runs → deeper ≡ levels.deeper → (limit first both : ℕ)
    → first ≡ min (0 + blocks_of (all_tables runs)) limit → both ≡ min (first + blocks_of (all_tables deeper)) limit → both ≡ min (taken_blocks levels) limit
all_taken levels runs deeper runs_are deeper_are limit first both first_is both_is =
    let whole : blocks_of (all_tables runs) + blocks_of (all_tables deeper) ≡ taken_blocks levels =
    sym (sum_by-append (λ t. t.blocks) (all_tables runs) (all_tables deeper)) ∙ ap blocks_of (sym (tables_append runs deeper)) ∙ (λ i. blocks_of (all_tables (runs_are i ++ deeper_are i)))
    in omega (arith, first_is, both_is, whole)
