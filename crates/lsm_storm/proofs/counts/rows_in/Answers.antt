use Rattle.std.proofs.Common.{◌∙◌}
use Rattle.lsm_machine.specs.RecoveryPoints.{present_map}
use Rattle.lsm_storm.proofs.Pages.{all_rows}
use Rattle.lsm_storm.proofs.counts.rows_in.Goals as goal

pub returns-clause-rows : goal.returns-clause-rows
returns-clause-rows c = c.in_ok-rows.ensures.rows ∙ all_rows (present_map c.args.store.now.state.points)
