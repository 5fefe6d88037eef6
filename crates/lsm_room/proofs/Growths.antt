-- How many blocks and entries parts of the levels have.
use Rattle.std.proofs.Common.{◌≡◌, ℕ, ◌+◌, List, ◌∷◌, ◌++◌, length, sym, ap, ◌∙◌}
use Rattle.std.proofs.lemmas.List.Sums.{sum_by-append}
use Rattle.std.proofs.lemmas.List.{length-append}
use Rattle.lsm_levels.specs.Tables.{Table}
use Rattle.lsm_levels.specs.Levels.{Levels, all_tables, places}
use Rattle.lsm_levels.proofs.OldestRuns.{tables_append}
use Rattle.lsm_policy.specs.Room.{blocks_of}

-- the blocks and the number of the tables of runs
pub record Has (runs : List (List Table)) (blocks tables : ℕ) : Type 0 where
  pub blocks_are : blocks_of (all_tables runs) ≡ blocks
  pub number : length (all_tables runs) ≡ tables

-- runs in two parts
both : (first second : List (List Table)) → Has (first ++ second) (blocks_of (all_tables first) + blocks_of (all_tables second)) (length (all_tables first) + length (all_tables second))
both first second = record {
  blocks_are = ap blocks_of (tables_append first second) ∙ sum_by-append (λ t. t.blocks) (all_tables first) (all_tables second);
  number = ap length (tables_append first second) ∙ length-append (all_tables first) (all_tables second);
}

-- the runs of level 0, some levels, and the others
pub in_parts : (levels : Levels) (runs front back : List (List Table)) → runs ≡ levels.runs → front ++ back ≡ levels.deeper
    → Has (places levels)
    (blocks_of (all_tables runs) + (blocks_of (all_tables front) + blocks_of (all_tables back)))
    (length (all_tables runs) + (length (all_tables front) + length (all_tables back)))
in_parts levels runs front back runs_are parts =
    let whole : runs ++ (front ++ back) ≡ places levels = λ i. runs_are i ++ parts i in
    let all = both runs (front ++ back) in
    let deeper = both front back in
    record {
      blocks_are = ap (λ (rs : List (List Table)). blocks_of (all_tables rs)) (sym whole) ∙ all.blocks_are ∙ ap (λ n. blocks_of (all_tables runs) + n) deeper.blocks_are;
      number = ap (λ (rs : List (List Table)). length (all_tables rs)) (sym whole) ∙ all.number ∙ ap (λ n. length (all_tables runs) + n) deeper.number;
    }

-- a level and those after it
pub with_first : (level : List Table) (rest : List (List Table)) → Has (level ∷ rest) (blocks_of level + blocks_of (all_tables rest)) (length level + length (all_tables rest))
with_first level rest = record {
  blocks_are = sum_by-append (λ t. t.blocks) level (all_tables rest);
  number = length-append level (all_tables rest);
}
