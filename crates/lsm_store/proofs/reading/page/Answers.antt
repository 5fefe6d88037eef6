use Rattle.std.proofs.Common.{◌≡◌, ◌⊎◌, ◌*◌, ℕ, sym, ◌∙◌, ap, subst}
use Rattle.std.specs.Prelude.{Option, option_map, MatchResult}
use Rattle.lsm_cache.specs.declared.name.BlockName.{BlockName}
use Rattle.lsm_device.specs.Calls.{faults_after}
use Rattle.lsm_device.specs.Refusals.{faultless}
use Rattle.lsm_device.specs.declared.refusal.Refusal.TheVariants.{Io, NoMemory}
use Rattle.lsm_levels.specs.Asking.{Source}
use Rattle.lsm_levels.specs.Cursors.{refusal_of}
use Rattle.lsm_levels.specs.Levels.{Levels, places}
use Rattle.lsm_levels.specs.Lookups.{versions_in_places, sealed_now}
use Rattle.lsm_levels.specs.Orders.{IsVersionOrder}
use Rattle.lsm_levels.specs.Pages.{IsScan}
use Rattle.lsm_levels.specs.Scans.{ScansRuns, blocks_in, blocks_of_runs}
use Rattle.lsm_levels.specs.Stored.{AreWithin, IsReadable}
use Rattle.lsm_mem.specs.Versions.{joined}
use Rattle.lsm_mem.specs.Paging.{page_of}
use Rattle.lsm_mem.specs.Versions.{map_of}
use Rattle.lsm_open.specs.Tables.{first_data}
use Rattle.lsm_levels.proofs.NamedBlocks.{named_law}
use Rattle.lsm_store.specs.Reading.{ReadsThrough}
use Rattle.lsm_machine.proofs.ReadViews.{Parts, same_parts, same_faults}
use Rattle.lsm_store.proofs.reading.page.Goals as goal

pub scan-requires : goal.scan-requires
scan-requires g c =
    let v = c.view_of-view.result in
    let e = c.view_of-view.ensures in
    let size = (g.D.Device.medium c.args.device.now).size in
    subst (λ (a : ℕ). AreWithin size a (places v.levels.now)) (sym e.area) (subst (λ (l : Levels). AreWithin size (first_data c.args.memory.now.regions.log_sectors) (places l)) (sym e.levels) c.requires.lie.tables)

pub returns-clause-answers : goal.returns-clause-answers
returns-clause-answers g c =
    let v = c.view_of-view.result in
    let e = c.view_of-view.ensures in
    let old : Source = record { cache = c.args.cache.now; medium = g.D.Device.medium c.args.device.now } in
    let from = c.args.range.0.now in
    let to = option_map (λ to. to.now) c.args.range.1 in
    let n = c.args.count in
    same_parts (λ (p : Parts). (place : BlockName → Option ℕ) → IsReadable place p.area (places p.levels) old → IsVersionOrder (versions_in_places p.memory p.sealed (places p.levels))
    → MatchResult c.scan.result (λ page. page ≡ page_of (map_of (joined (versions_in_places p.memory p.sealed (places p.levels))) n) from to c.args.limit)
    (λ refusal. (refusal ≡ Io) ⊎ (refusal ≡ NoMemory)))
    v.mem.now _ (sealed_now v.sealed) _ v.levels.now _ v.area _ e.memory e.sealed e.levels e.area c.scan.ensures.answers

pub returns-clause-scans : goal.returns-clause-scans
returns-clause-scans g c =
    let v = c.view_of-view.result in
    let e = c.view_of-view.ensures in
    let old : Source = record { cache = c.args.cache.now; medium = g.D.Device.medium c.args.device.now } in
    let new : Source = record { cache = c.scan.new.cache; medium = g.D.Device.medium c.scan.new.device } in
    let from = c.args.range.0.now in
    subst (λ (a : ℕ). ScansRuns a from (places c.args.memory.now.levels) (refusal_of c.scan.result) old new) e.area
    (subst (λ (l : Levels). ScansRuns v.area from (places l) (refusal_of c.scan.result) old new) e.levels c.scan.ensures.asks)

pub returns-clause-pages : goal.returns-clause-pages
returns-clause-pages g c =
    let v = c.view_of-view.result in
    let e = c.view_of-view.ensures in
    let old : Source = record { cache = c.args.cache.now; medium = g.D.Device.medium c.args.device.now } in
    let new : Source = record { cache = c.scan.new.cache; medium = g.D.Device.medium c.scan.new.device } in
    let from = c.args.range.0.now in
    let to = option_map (λ to. to.now) c.args.range.1 in
    same_parts (λ (p : Parts). IsScan p.memory p.sealed (places p.levels) p.area from to c.args.limit c.args.count c.scan.result old new)
    v.mem.now _ (sealed_now v.sealed) _ v.levels.now _ v.area _ e.memory e.sealed e.levels e.area c.scan.ensures.scans

pub returns-clause-reads : goal.returns-clause-reads
returns-clause-reads g c =
    let v = c.view_of-view.result in
    let e = c.view_of-view.ensures in
    let f = c.scan.ensures.asks in
    let old : Source = record { cache = c.args.cache.now; medium = g.D.Device.medium c.args.device.now } in
    let new : Source = record { cache = c.scan.new.cache; medium = g.D.Device.medium c.scan.new.device } in
    let from = c.args.range.0.now in
    subst (λ (a : ℕ). ReadsThrough (8 * blocks_in (blocks_of_runs a from (places c.args.memory.now.levels))) a c.args.memory.now.levels (faultless c.scan.result) old new) e.area
    (subst (λ (l : Levels). ReadsThrough (8 * blocks_in (blocks_of_runs v.area from (places l))) v.area l (faultless c.scan.result) old new) e.levels
    (record {
      calls = f.at_most;
      faults = f.faults ∙ ap (λ b. faults_after b old.medium.calls.faults) (same_faults c.scan.result);
      unchanged = f.reads.unchanged;
      same_size = f.reads.same_size;
      same_lasting = f.reads.same_lasting;
      fresh = f.fresh;
      others = λ number none before. named_law.scanned v.area from (places v.levels.now) number _ old new f none before;
    }))
