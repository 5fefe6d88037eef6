-- The input that a job of stored tables reads.
use Rattle.std.proofs.Common.{◌≡◌, ℕ, ◌<◌, Bool, true, false, ◌&&◌, List, [], ◌∷◌, ◌++◌, length, map, inl, refl, sym, subst, arith}
use Rattle.std.specs.Prelude.{not}
use Rattle.std.specs.List.{AllByRecursion}
use Rattle.std.proofs.lemmas.Bool.{and_from}
use Rattle.lsm_codec.specs.Versions.{deletes_in}
use Rattle.lsm_codec.proofs.Lists.{all_left, all_right}
use Rattle.lsm_table.specs.Division.{TableBlocks, entries_of}
use Rattle.lsm_table.specs.Outlines.{outline_in}
use Rattle.lsm_levels.specs.Tables.{Table, IsRun, at_most, is_below, is_run, table_at, versions_of}
use Rattle.lsm_levels.specs.Levels.{all_tables}
use Rattle.lsm_levels.specs.Stored.{IsStored}
use Rattle.lsm_levels.specs.Among.{IsAmong}
use Rattle.lsm_levels.proofs.KeyOrder.{at_most_trans}
use Rattle.lsm_levels.proofs.RunOrders.{stored_ranged, run_ordered}
use Rattle.lsm_levels.proofs.RunTests.{run_tested, tested_run}
use Rattle.lsm_merge.specs.Inputs.{AreRuns}
use Rattle.lsm_jobs.specs.Gathering.{ends_run, with_first, ascending_runs}
use Rattle.lsm_jobs.specs.StoredJobs.{StoredTakingLaw}
use Rattle.lsm_jobs.proofs.GatheredRuns.{led_by, tables_of_runs}

not_ended : (b : Bool) → not b ≡ false → b ≡ true
not_ended true e = refl
not_ended false e = absurd cc

module _ (sectors : List (List ℕ)) (area : ℕ) where
  -- a table that stands begins where it ends, or before
  stored_range : (t : Table) → IsStored sectors area t → at_most t.first t.last ≡ true
  stored_range t s = by s.blocks s.told s.sorted.nonempty
    where
      by : (blocks : TableBlocks) → t ≡ table_at (outline_in t.number t.outline.filter blocks) t.start (deletes_in (entries_of blocks)) (entries_of blocks) → AllByRecursion (λ block. 0 < length block) blocks → at_most t.first t.last ≡ true
      by [] told some = subst (λ (u : Table). at_most u.first u.last ≡ true) (sym told) refl
      by ([] ∷ blocks) told some = absurd (omega (arith, some.0))
      by ((v ∷ block) ∷ blocks) told some =
          let there : IsAmong v t.versions = subst (λ (u : Table). IsAmong v u.versions) (sym told) (inl refl) in
          let ends = (stored_ranged sectors area t s).within v there in
          at_most_trans t.first v.key t.last ends.0 ends.1

  -- a table before the first of a run, which it ends before
  before_run : (t : Table) (rest : List Table) → at_most t.first t.last ≡ true → ends_run t rest ≡ false → AllByRecursion IsRun (ascending_runs rest) → AllByRecursion IsRun (with_first false t (ascending_runs rest))
  before_run t [] own e runs = absurd cc
  before_run t (u ∷ rest) own e runs =
      let p = led_by u rest in
      let each : AllByRecursion IsRun ((u ∷ p.0) ∷ p.1) = subst (AllByRecursion IsRun) p.2 runs in
      let next = and_from (is_below t.last u.first) (is_run (u ∷ p.0)) (not_ended (is_below t.last u.first) e) (tested_run (u ∷ p.0) each.0) in
      let tested : is_run (t ∷ u ∷ p.0) ≡ true = and_from (at_most t.first t.last) (is_below t.last u.first && is_run (u ∷ p.0)) own next in
      subst (λ (rs : List (List Table)). AllByRecursion IsRun (with_first false t rs)) (sym p.2) (run_tested (t ∷ u ∷ p.0) tested, each.1)

  -- the runs of tables that stand are runs
  are_runs : (tables : List Table) → AllByRecursion (IsStored sectors area) tables → AllByRecursion IsRun (ascending_runs tables)
  are_runs [] all = tt
  are_runs (t ∷ rest) all = by (ends_run t rest) refl (are_runs rest all.1)
    where
      own : at_most t.first t.last ≡ true
      own = stored_range t all.0

      by : (b : Bool) → ends_run t rest ≡ b → AllByRecursion IsRun (ascending_runs rest) → AllByRecursion IsRun (with_first b t (ascending_runs rest))
      by true e runs = ((own, tt, tt), runs)
      by false e runs = before_run t rest own e runs

  runs_ordered : (runs : List (List Table)) → AllByRecursion IsRun runs → AllByRecursion (IsStored sectors area) (all_tables runs) → AreRuns (map versions_of runs)
  runs_ordered [] are stand = tt
  runs_ordered (run ∷ runs) are stand =
      (run_ordered sectors area run are.0 (all_left (IsStored sectors area) run (all_tables runs) stand), runs_ordered runs are.1 (all_right (IsStored sectors area) run (all_tables runs) stand))

pub stored_taking_law : StoredTakingLaw
stored_taking_law sectors area number level sealed cuts bottom upper lower stand =
    let tables = upper ++ lower in
    record {
      tables = stand;
      ordered = runs_ordered sectors area (ascending_runs tables) (are_runs sectors area tables stand) (subst (AllByRecursion (IsStored sectors area)) (sym (tables_of_runs tables)) stand);
    }
