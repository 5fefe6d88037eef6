use Rattle.std.proofs.Common.{◌≡◌, Result, Option, drop}
use Rattle.lsm_device.specs.declared.refusal.Refusal.{Refusal}
use Rattle.lsm_codec.specs.Versions.{Version}
use Rattle.lsm_levels.specs.Asking.{Source}
use Rattle.lsm_levels.specs.Lookups.{LooksUp}
use Rattle.lsm_levels.proofs.lookup.find_in_runs.Given as goal

abbrev pub invariant-loop-run : goal.invariant-loop-run
invariant-loop-run g l =
    let D = g.D.Device in
    record {
      same_size : (D.medium l.device).size ≡ (D.medium l.fn.device).size;
      goes_on : (found : Result (Option Version) Refusal) (new : Source)
          → LooksUp l.query.area l.query.key.now l.query.at (drop l.run-index l.runs) found (record { cache = l.cache; medium = D.medium l.device }) new
          → LooksUp l.query.area l.query.key.now l.query.at l.runs found (record { cache = l.fn.cache; medium = D.medium l.fn.device }) new;
    }
