use Rattle.std.proofs.Common.{None, Some, Ok, Err, inr, refl, ap, subst, option_map}
use Rattle.std.proofs.lemmas.Result.{err_from_is_err_and}
use Rattle.lsm_device.specs.declared.refusal.Refusal.TheVariants.{NoMemory}
use Rattle.lsm_mem.specs.Versions.{map_of}
use Rattle.lsm_mem.specs.Paging.{page_of}
use Rattle.lsm_mem.specs.Gathering.{Gathering, gathering}
use Rattle.lsm_mem.specs.Versions.{joined}
use Rattle.lsm_levels.specs.Levels.{places}
use Rattle.lsm_levels.specs.Lookups.{sealed_now, versions_in_places}
use Rattle.lsm_levels.specs.Asking.{Source}
use Rattle.lsm_levels.proofs.ScanAsking.{asks_nothing}
use Rattle.lsm_levels.proofs.ScanViews.{page_has_come, scans_runs}
use Rattle.lsm_levels.specs.Pages.{EndsWith, GathersRuns, cursors_of}
use Rattle.lsm_levels.specs.Scans.{memory_places}
use Rattle.lsm_levels.proofs.PageLaws.{no_memory_for, scan_of}
use Rattle.lsm_levels.proofs.view.ReadView.scan.Goals as goal

pub fill-requires-clause-going : goal.fill-requires-clause-going
fill-requires-clause-going g c =
    ap (λ (x : Gathering). x.next) c.in_ok-builder.ensures

pub returns-in_err-builder-clause-asks : goal.returns-in_err-builder-clause-asks
returns-in_err-builder-clause-asks g c =
    let v = c.args.self.now in
    let a : Source = record { cache = c.args.cache.now; medium = g.D.Device.medium c.args.device.now } in
    let p = err_from_is_err_and c.from_residual.result c.from_residual.ensures.1 in
    rw (p.1, p.2) (scans_runs v.area c.args.range.0.now (places v.levels.now) (Some NoMemory) a a (asks_nothing _ (Some NoMemory) a refl))

pub returns-in_err-builder-clause-answers : goal.returns-in_err-builder-clause-answers
returns-in_err-builder-clause-answers g c = λ place readable order.
    let p = err_from_is_err_and c.from_residual.result c.from_residual.ensures.1 in
    rw (p.1, p.2) (inr refl)

pub returns-in_err-fill-clause-asks : goal.returns-in_err-fill-clause-asks
returns-in_err-fill-clause-asks g c =
    let v = c.args.self.now in
    let a : Source = record { cache = c.args.cache.now; medium = g.D.Device.medium c.args.device.now } in
    let d : Source = record { cache = c.fill.new.cache; medium = g.D.Device.medium c.fill.new.device } in
    let p = err_from_is_err_and c.from_residual-in_err-fill.result c.from_residual-in_err-fill.ensures.1 in
    rw (p.1, p.2) (scans_runs v.area c.args.range.0.now (places v.levels.now) (Some c.in_err-fill.field-0.0) a d c.in_err-fill.ensures.asks)

pub returns-in_err-fill-clause-answers : goal.returns-in_err-fill-clause-answers
returns-in_err-fill-clause-answers g c = λ place readable order.
    let p = err_from_is_err_and c.from_residual-in_err-fill.result c.from_residual-in_err-fill.ensures.1 in
    rw (p.1, p.2) (c.in_err-fill.ensures.comes place (option_map (λ to. to.now) c.args.range.1) c.args.limit readable order c.in_ok-builder.ensures)

pub returns-in_err-fill-clause-refused : goal.returns-in_err-fill-clause-refused
returns-in_err-fill-clause-refused g c =
    let p = err_from_is_err_and c.from_residual-in_err-fill.result c.from_residual-in_err-fill.ensures.1 in
    rw (p.1, p.2) c.in_err-fill.ensures.refused

pub returns-clause-asks : goal.returns-clause-asks
returns-clause-asks g c =
    let v = c.args.self.now in
    let a : Source = record { cache = c.args.cache.now; medium = g.D.Device.medium c.args.device.now } in
    let d : Source = record { cache = c.fill.new.cache; medium = g.D.Device.medium c.fill.new.device } in
    scans_runs v.area c.args.range.0.now (places v.levels.now) None a d c.in_ok-fill.ensures.asks

pub returns-clause-answers : goal.returns-clause-answers
returns-clause-answers g c = λ place readable order.
    let v = c.args.self.now in
    page_has_come (page_of (map_of (joined (versions_in_places v.mem.now (sealed_now v.sealed) (places v.levels.now))) c.args.at) c.args.range.0.now (option_map (λ to. to.now) c.args.range.1) c.args.limit) c.into_page.result c.fill.new.builder
    (c.in_ok-fill.ensures.comes place (option_map (λ to. to.now) c.args.range.1) c.args.limit readable order c.in_ok-builder.ensures) c.into_page.ensures.so_far c.into_page.ensures.whole

pub returns-in_err-builder-clause-scans : goal.returns-in_err-builder-clause-scans
returns-in_err-builder-clause-scans g c =
    let v = c.args.self.now in
    let to = option_map (λ to. to.now) c.args.range.1 in
    let from = c.args.range.0.now in
    let a : Source = record { cache = c.args.cache.now; medium = g.D.Device.medium c.args.device.now } in
    let p = err_from_is_err_and c.from_residual.result c.from_residual.ensures.1 in
    rw (p.1, p.2) (scan_of v.mem.now v.sealed (places v.levels.now) v.area from to c.args.limit c.args.at (Err NoMemory) a a
    (no_memory_for (gathering c.args.at to c.args.limit) v.area from (places v.levels.now) (cursors_of from c.args.at (memory_places v.mem.now v.sealed)) a))

pub returns-in_err-fill-clause-scans : goal.returns-in_err-fill-clause-scans
returns-in_err-fill-clause-scans g c =
    let v = c.args.self.now in
    let to = option_map (λ to. to.now) c.args.range.1 in
    let from = c.args.range.0.now in
    let a : Source = record { cache = c.args.cache.now; medium = g.D.Device.medium c.args.device.now } in
    let d : Source = record { cache = c.fill.new.cache; medium = g.D.Device.medium c.fill.new.device } in
    let p = err_from_is_err_and c.from_residual-in_err-fill.result c.from_residual-in_err-fill.ensures.1 in
    rw (p.1, p.2) (scan_of v.mem.now v.sealed (places v.levels.now) v.area from to c.args.limit c.args.at (Err c.in_err-fill.field-0.0) a d
    (subst (λ (x : Gathering). GathersRuns x v.area from (places v.levels.now) (cursors_of from c.args.at (memory_places v.mem.now v.sealed)) (Err c.in_err-fill.field-0.0) a d) c.in_ok-builder.ensures c.in_err-fill.ensures.gathers))

pub returns-clause-scans : goal.returns-clause-scans
returns-clause-scans g c =
    let v = c.args.self.now in
    let to = option_map (λ to. to.now) c.args.range.1 in
    let from = c.args.range.0.now in
    let a : Source = record { cache = c.args.cache.now; medium = g.D.Device.medium c.args.device.now } in
    let d : Source = record { cache = c.fill.new.cache; medium = g.D.Device.medium c.fill.new.device } in
    scan_of v.mem.now v.sealed (places v.levels.now) v.area from to c.args.limit c.args.at (Ok c.into_page.result) a d
    (subst (λ (x : Gathering). EndsWith (GathersRuns x v.area from (places v.levels.now) (cursors_of from c.args.at (memory_places v.mem.now v.sealed))) None c.fill.new.builder a d) c.in_ok-builder.ensures c.in_ok-fill.ensures.gathers
    c.into_page.result (record { so_far = c.into_page.ensures.so_far; whole = c.into_page.ensures.whole }))
