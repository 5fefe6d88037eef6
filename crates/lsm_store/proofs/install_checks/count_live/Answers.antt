use Rattle.std.proofs.Common.{List, length, ap, arith}
use Rattle.lsm_levels.specs.Levels.{all_tables}
use Rattle.lsm_levels.specs.Tables.{Table}
use Rattle.lsm_machine.proofs.InstallRefusals.{places_counted}
use Rattle.lsm_store.proofs.install_checks.count_live.Goals as goal

pub count_tables-requires : goal.count_tables-requires
count_tables-requires g c = omega (arith, c.requires, places_counted c.args.levels.now, ap (λ (runs : List (List Table)). length (all_tables runs)) c.runs.ensures.same)

pub count_tables-requires-2 : goal.count_tables-requires-2
count_tables-requires-2 g c = omega (arith, c.requires, places_counted c.args.levels.now, ap (λ (runs : List (List Table)). length (all_tables runs)) c.deeper.ensures.same)

pub overflow_add-result : goal.overflow_add-result
overflow_add-result g c =
    omega (
      arith,
      c.requires,
      places_counted c.args.levels.now,
      c.count_tables.ensures,
      c.count_tables-2.ensures,
      ap (λ (runs : List (List Table)). length (all_tables runs)) c.runs.ensures.same,
      ap (λ (runs : List (List Table)). length (all_tables runs)) c.deeper.ensures.same,
    )

pub returns : goal.returns
returns g c =
    omega (
      arith,
      places_counted c.args.levels.now,
      c.count_tables.ensures,
      c.count_tables-2.ensures,
      ap (λ (runs : List (List Table)). length (all_tables runs)) c.runs.ensures.same,
      ap (λ (runs : List (List Table)). length (all_tables runs)) c.deeper.ensures.same,
    )
