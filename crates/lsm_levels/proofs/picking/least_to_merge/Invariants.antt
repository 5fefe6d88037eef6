use Rattle.std.proofs.Common.{◌≡◌, ◌&&◌, ◌∷◌, [], drop, filter}
use Rattle.std.specs.Option.{option_copied}
use Rattle.lsm_levels.specs.Tables.{IsRun}
use Rattle.lsm_levels.specs.Pick.{can_merge, least_numbered}
use Rattle.lsm_levels.specs.Picks.{is_wanted}
use Rattle.lsm_levels.proofs.Least.{with_rest}
use Rattle.lsm_levels.proofs.picking.least_to_merge.Given as goal

abbrev pub invariant-loop-table : goal.invariant-loop-table
invariant-loop-table g l = record {
  rest : IsRun l.rest;
  same : with_rest (option_copied l.least) (least_numbered (filter (λ t. is_wanted l.wanted t && can_merge (g.H.HeldJobs.jobs l.held) (t ∷ []) l.rest) (drop l.table-index l.tables)))
      ≡ least_numbered (filter (λ t. is_wanted l.wanted t && can_merge (g.H.HeldJobs.jobs l.held) (t ∷ []) l.below) l.tables);
}
