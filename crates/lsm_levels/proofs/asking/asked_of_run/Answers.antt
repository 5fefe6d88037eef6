use Rattle.std.proofs.Common.{◌^◌, sym}
use Rattle.lsm_levels.specs.Stored.{LiesWithin}
use Rattle.lsm_levels.proofs.AskedLaws.{of_covering}
use Rattle.lsm_levels.proofs.asking.asked_of_run.Goals as goal

pub asked_of_table-requires : goal.asked_of_table-requires
asked_of_table-requires g c =
    of_covering (LiesWithin (2 ^ 32) c.args.query.now.area) c.args.query.now.key.now c.args.run.now c.in_ok-table.table.now c.requires (sym c.in_ok-table.ensures)
