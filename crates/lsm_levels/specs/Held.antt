-- What holds of a job from its taking to its install, whatever other jobs install meanwhile.
use Rattle.std.specs.Prelude.{◌≡◌, ◌≢◌, ◌⊎◌, ℕ, zero, suc, ◌<◌, ◌≤◌, Bool, true, false, List, [], ◌∷◌, ◌++◌, length, map, Some}
use Rattle.std.specs.List.{AllByRecursion}
use Rattle.lsm_codec.specs.Versions.{Version}
use Rattle.lsm_levels.specs.Among.{IsAmong}
use Rattle.lsm_levels.specs.Tables.{Table, KeyRange, at_most, hull, meets, meeting, IsRun, versions_of}
use Rattle.lsm_levels.specs.Levels.{Levels, all_tables, level, places, reach}
use Rattle.lsm_levels.specs.Orders.{IsNewerPlace, IsVersionOrder}
use Rattle.lsm_levels.specs.Pick.{Job, Flush, Merge, inputs, is_flush, is_several, pick, is_bottom, installed_levels}
use Rattle.lsm_levels.specs.Choices.{chosen}
use Rattle.lsm_levels.specs.declared.choosing.Choice.{Choice}

-- There are four deeper levels, and each run is one; those of level 0 have a table at least.
pub record AreRuns (levels : Levels) : Type 0 where
  pub four : length levels.deeper ≡ 4
  pub runs : AllByRecursion IsRun levels.runs
  pub deeper : AllByRecursion IsRun levels.deeper
  pub some : AllByRecursion (λ run. 0 < length run) levels.runs

-- Tables are those of the oldest runs, of one run at least.
pub record AreOldest (runs : List (List Table)) (tables : List Table) : Type 0 where
  pub newer : List (List Table)
  pub oldest : List (List Table)
  pub split : runs ≡ newer ++ oldest
  pub one : 1 ≤ length oldest
  pub all : tables ≡ all_tables oldest

-- where the upper tables stand, if there are any: they are the oldest runs of level 0, or all of another level that meet their hull
abbrev pub IsUpper : Levels → ℕ → List Table → Type 0
IsUpper levels zero [] = Unit {0}
IsUpper levels zero (t ∷ rest) = AreOldest levels.runs (t ∷ rest)
IsUpper levels (suc i) upper = upper ≡ meeting (hull upper) (level levels (suc i))

-- A merge still has what it was taken with: its upper tables in their level, its lower ones in the next, a run, which are all
-- there that meet the hull of the upper ones, or their own where there are no upper ones; and with the bottom flag nothing below
-- meets the hull of all its inputs.
pub record HasItsTables (levels : Levels) (bottom : Bool) (i : ℕ) (upper lower : List Table) : Type 0 where
  pub known : i ≤ 3
  pub range : KeyRange
  pub hull_is : reach upper lower ≡ Some range
  pub uppers : IsUpper levels i upper
  pub lowers : (t : Table) → IsAmong t lower → IsAmong t (level levels (suc i))
  pub lower_run : IsRun lower
  pub meet : (t : Table) → IsAmong t lower → meets range t ≡ true
  pub all : (t : Table) → IsAmong t (level levels (suc i)) → meets range t ≡ true → IsAmong t lower
  pub lowest : bottom ≡ true → (k : ℕ) (t : Table) (whole : KeyRange) → suc i < k → IsAmong t (level levels k) → hull (upper ++ lower) ≡ Some whole → meets whole t ≡ false

abbrev pub IsHeld : Levels → Bool → Job → Type 0
IsHeld levels bottom Flush = bottom ≡ false
IsHeld levels bottom (Merge i upper lower) = HasItsTables levels bottom i upper lower

-- Two jobs share no input, and only one is a flush. No other merge runs with a merge of several tables: its outputs could
-- come between these, and be taken out with them. Nor does one run with a rewrite.
pub record AreApart (a b : Job) : Type 0 where
  pub tables : (t u : Table) → IsAmong t (inputs a) → IsAmong u (inputs b) → t.number ≢ u.number
  pub one_flush : is_flush a ≡ true → is_flush b ≡ true → ⊥
  pub alone : is_several a ≡ true → is_flush b ≡ true
  pub others_alone : is_several b ≡ true → is_flush a ≡ true

-- An output of a merge lies within its inputs: its first key in one of them, its last in one of them.
pub record IsWithin (tables : List Table) (t : Table) : Type 0 where
  pub order : at_most t.first t.last ≡ true
  pub a : Table
  pub b : Table
  pub first_in : IsAmong a tables
  pub first_from : at_most a.first t.first ≡ true
  pub last_in : IsAmong b tables
  pub last_to : at_most t.last b.last ≡ true

-- tables that a job may put in: a flush a table at least
abbrev pub AreOutputs : Job → List Table → Type 0
AreOutputs Flush new = IsRun new × (0 < length new)
AreOutputs (Merge i upper lower) new = IsRun new × AllByRecursion (IsWithin (upper ++ lower)) new

-- each version of a table is in its range
pub record IsRanged (t : Table) : Type 0 where
  pub within : (v : Version) → IsAmong v t.versions → (at_most t.first v.key ≡ true) × (at_most v.key t.last ≡ true)

-- so it is of these tables
abbrev pub AreRanged : List Table → Type 0
AreRanged tables = (t : Table) → IsAmong t tables → IsRanged t

-- each version of tables is one of a merge's inputs'
abbrev pub AreVersionsOf : List Table → List Table → List Table → Type 0
AreVersionsOf upper lower new = (v : Version) → IsAmong v (versions_of new) → IsAmong v (versions_of (upper ++ lower))

-- a table of some level has a version
pub record HasVersion (levels : Levels) (v : Version) : Type 0 where
  pub place : ℕ
  pub table : Table
  pub there : IsAmong table (level levels place)
  pub has : IsAmong v table.versions

-- A job may be taken while others are held: it has its tables, and shares none with them.
pub record MayTake (levels : Levels) (jobs : List Job) (job : Job) : Type 0 where
  pub held : IsHeld levels (is_bottom levels job) job
  pub apart : (other : Job) → IsAmong other jobs → AreApart job other

-- So the job that comes next may be taken,
abbrev pub PickLaw : Type 0
PickLaw = (waiting : Bool) (levels : Levels) (jobs : List Job) (job : Job) → AreRuns levels → pick waiting levels jobs ≡ Some job → MayTake levels jobs job

-- and so may one that is chosen.
abbrev pub ChoiceLaw : Type 0
ChoiceLaw = (levels : Levels) (jobs : List Job) (choice : Choice) (job : Job) → AreRuns levels → chosen levels jobs choice ≡ Some job → MayTake levels jobs job

abbrev pub SurvivalLaw : Type 0
SurvivalLaw = (levels : Levels) (bottom flag : Bool) (job other : Job) (new : List Table) → AreRuns levels → IsHeld levels bottom job → IsHeld levels flag other → AreApart job other → AreOutputs other new
    → IsHeld (installed_levels levels other new) bottom job

abbrev pub RunsLaw : Type 0
RunsLaw = (levels : Levels) (flag : Bool) (job : Job) (new : List Table) → AreRuns levels → IsHeld levels flag job → AreOutputs job new → AreRuns (installed_levels levels job new)

-- The versions in the levels are in their order, and in the ranges of their tables.
pub record AreOrdered (levels : Levels) : Type 0 where
  pub order : IsVersionOrder (map versions_of (places levels))
  pub ranges : (k : ℕ) → AreRanged (level levels k)

-- A merge keeps that, where its outputs have versions of its inputs, in their tables' ranges.
abbrev pub OrderLaw : Type 0
OrderLaw = (levels : Levels) (flag : Bool) (i : ℕ) (upper lower new : List Table) → AreRuns levels → IsHeld levels flag (Merge i upper lower) → AreOrdered levels
    → AreVersionsOf upper lower new → AreRanged new → AreOrdered (installed_levels levels (Merge i upper lower) new)

-- And so does a flush, where its outputs have versions that are newer than those of their keys in all levels, in their
-- tables' ranges.
abbrev pub FlushLaw : Type 0
FlushLaw = (levels : Levels) (new : List Table) → AreOrdered levels → AllByRecursion (IsNewerPlace (versions_of new)) (map versions_of (places levels)) → AreRanged new → AreOrdered (installed_levels levels Flush new)

-- What a merge makes of the versions in the levels: each stays, but for the inputs', and the outputs' are new. At the bottom,
-- what stays of an input's key and is older is an output's.
pub record MergesVersions (levels after : Levels) (flag : Bool) (inputs new : List Table) : Type 0 where
  pub stays : (v : Version) → HasVersion levels v → IsAmong v (versions_of inputs) ⊎ HasVersion after v
  pub made : (v : Version) → IsAmong v (versions_of new) → HasVersion after v
  pub nothing_else : (v : Version) → HasVersion after v → HasVersion levels v ⊎ IsAmong v (versions_of new)
  pub inputs_there : (t : Table) → IsAmong t inputs → (k : ℕ) × IsAmong t (level levels k)
  pub lowest : AreOrdered levels → flag ≡ true
      → (v w : Version) → IsAmong v (versions_of inputs) → HasVersion after w → w.key ≡ v.key → w.number < v.number → IsAmong w (versions_of new)

abbrev pub MergingLaw : Type 0
MergingLaw = (levels : Levels) (flag : Bool) (i : ℕ) (upper lower new : List Table) → AreRuns levels → IsHeld levels flag (Merge i upper lower) → MergesVersions levels (installed_levels levels (Merge i upper lower) new) flag (upper ++ lower) new
