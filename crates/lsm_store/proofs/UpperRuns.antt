-- The runs of level 0 that a merge takes in.
use Rattle.std.proofs.Common.{◌≡◌, ℕ, ◌<◌, Bool, true, false, cond, leb, List, [], ◌∷◌, ◌++◌, length, drop, refl, sym, ap, ◌∙◌}
use Rattle.std.specs.List.{AllByRecursion}
use Rattle.std.proofs.lemmas.List.Prefix.{front_rest}
use Rattle.lsm_codec.proofs.Lists.{all_append}
use Rattle.lsm_levels.specs.Held.{AreOldest}
use Rattle.lsm_levels.specs.Levels.{all_tables, newer_runs}
use Rattle.lsm_levels.specs.Tables.{Table}
use Rattle.lsm_levels.proofs.OldestRuns.{newer_oldest}
use Rattle.lsm_store.specs.InstalledJobs.{runs_holding}

abbrev Runs : Type 0
Runs = List (List Table)

-- all runs are the newer ones, and then those
pub runs_split : (tables : ℕ) (runs : List (List Table)) → runs ≡ newer_runs tables runs ++ runs_holding tables runs
runs_split tables [] = refl
runs_split tables (run ∷ rest) = by (leb (length (all_tables (run ∷ rest))) tables) (ap (λ (l : Runs). run ∷ l) (runs_split tables rest))
  where
    by : (b : Bool) → run ∷ rest ≡ run ∷ (newer_runs tables rest ++ runs_holding tables rest)
        → run ∷ rest ≡ cond b [] (run ∷ newer_runs tables rest) ++ drop (length (cond b [] (run ∷ newer_runs tables rest))) (run ∷ rest)
    by true more = refl
    by false more = more

-- where upper tables are those of the oldest runs, those runs hold them
pub holding_tables : (runs : List (List Table)) (upper : List Table) → AllByRecursion (λ run. 0 < length run) runs → AreOldest runs upper → all_tables (runs_holding (length upper) runs) ≡ upper
holding_tables runs upper some is =
    ap (λ (newer : Runs). all_tables (drop (length newer) runs)) (newer_oldest runs upper some is)
    ∙ ap all_tables (front_rest runs is.newer is.oldest is.split)
    ∙ sym is.all

-- what holds of the tables of each run holds of all tables
pub all_in_runs : (P : Table → Type 0) (runs : List (List Table)) → AllByRecursion (AllByRecursion P) runs → AllByRecursion P (all_tables runs)
all_in_runs P [] all = tt
all_in_runs P (run ∷ rest) all = all_append P run (all_tables rest) all.0 (all_in_runs P rest all.1)
