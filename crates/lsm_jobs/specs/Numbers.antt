-- The tables that a merge takes in, and the set of their numbers.
use Rattle.std.specs.Prelude.{◌≡◌, ℕ, ◌==◌, List}
use Rattle.std.specs.List.{list_any}
use Rattle.std.specs.Ordering.{nat_cmp}
use Rattle.std.specs.BTreeSet.{BTreeSet, contains}
use Rattle.lsm_levels.specs.Tables.{Table}
use Rattle.lsm_levels.specs.Pick.{Job, Merge}

-- tables of a level, with those of the next level that they meet
pub record Inputs : Type 0 where
  pub level : ℕ
  pub upper : List Table
  pub lower : List Table

-- the merge of them
abbrev pub merge_of : Inputs → Job
merge_of i = Merge i.level i.upper i.lower

-- a set has just the numbers of tables
pub record AreNumbersOf (numbers : BTreeSet ℕ) (tables : List Table) : Type 0 where
  pub same : (n : ℕ) → contains nat_cmp numbers n ≡ list_any (λ t. t.number == n) tables
