-- How many runs and tables a store has, from an opening on.
use Rattle.std.proofs.Common.{◌≡◌, ℕ, suc, List, [], ◌∷◌, length, map, Option, ap, refl, arith}
use Rattle.std.proofs.lemmas.List.{length-append, length-map}
use Rattle.lsm_codec.specs.Versions.{Version}
use Rattle.lsm_extent.specs.Area.{Area}
use Rattle.lsm_levels.specs.Levels.{Levels, all_tables, places}
use Rattle.lsm_levels.specs.Tables.{Table, record_of}
use Rattle.lsm_levels.proofs.OldestRuns.{tables_append}
use Rattle.lsm_open.specs.Placements.{Placement}
use Rattle.lsm_open.specs.Recovering.{AreWithinLimits}
use Rattle.lsm_open.specs.ToldTables.{records_of_runs, records_of_levels, records_of}
use Rattle.lsm_open.proofs.NamedRecords.{counted_levels}
use Rattle.lsm_machine.specs.TableLimits.{AreFew}
use Rattle.lsm_store.specs.FewTables.{FewLaw}
use Rattle.lsm_machine.proofs.TableLimits.{install_counts, kept_few}

runs_counted : (run : ℕ) (runs : List (List Table)) → length (records_of_runs run runs) ≡ length (all_tables runs)
runs_counted run [] = refl
runs_counted run (ts ∷ rest) =
    omega (arith, length-append (map (record_of 0 run) ts) (records_of_runs (suc run) rest), length-map ts (record_of 0 run), runs_counted (suc run) rest, length-append ts (all_tables rest))

pub records_counted : (levels : Levels) → length (records_of levels) ≡ length (all_tables (places levels))
records_counted levels =
    omega (
      arith,
      length-append (records_of_runs 0 levels.runs) (records_of_levels 1 levels.deeper),
      runs_counted 0 levels.runs,
      counted_levels 1 levels.deeper,
      length-append (all_tables levels.runs) (all_tables levels.deeper),
      ap length (tables_append levels.runs levels.deeper),
    )

opened_few : (size count : ℕ) (p : Placement) (sealed : Option (List Version)) (levels : Levels) (extents : Area) → AreWithinLimits size p count sealed levels extents → p.runs ≡ length levels.runs → AreFew levels
opened_few size count p sealed levels extents within same = record {
  runs = omega (arith, within.manifest.numbers.runs, same);
  tables = omega (arith, within.manifest.numbers.tables, ap length within.named, records_counted levels);
}

pub few_law : FewLaw
few_law = record { opened = opened_few; install = install_counts; kept = kept_few }
