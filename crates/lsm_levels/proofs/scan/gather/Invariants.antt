use Rattle.std.proofs.Common.{ℕ, List, Option, None}
use Rattle.lsm_cache.specs.declared.name.BlockName.{BlockName}
use Rattle.lsm_mem.specs.Paging.{Page}
use Rattle.lsm_levels.specs.Scans.{AsksOn, CanGoOn, ComesTo, blocks_to_come, steps_left}
use Rattle.lsm_levels.specs.Pages.{Gathers, GoesOver}
use Rattle.lsm_levels.proofs.scan.gather.Given as goal

abbrev pub invariant-versions : goal.invariant-versions
invariant-versions g l =
    let D = g.D.Device in
    record {
      can : CanGoOn (D.medium l.device).size l.builder l.sources l.queue;
      asks : AsksOn (blocks_to_come l.fn.sources) (blocks_to_come l.sources) None (record { cache = l.fn.cache; medium = D.medium l.fn.device }) (record { cache = l.cache; medium = D.medium l.device });
      gathers : GoesOver (Gathers l.fn.builder l.fn.sources) (Gathers l.builder l.sources) None (record { cache = l.fn.cache; medium = D.medium l.fn.device }) (record { cache = l.cache; medium = D.medium l.device });
      comes : (place : BlockName → Option ℕ) (sectors : List (List ℕ)) (page : Page)
          → ComesTo place sectors page l.fn.builder l.fn.sources (record { cache = l.fn.cache; medium = D.medium l.fn.device })
          → ComesTo place sectors page l.builder l.sources (record { cache = l.cache; medium = D.medium l.device });
    }

abbrev pub decreases-versions : goal.decreases-versions
decreases-versions g l = steps_left l.sources
