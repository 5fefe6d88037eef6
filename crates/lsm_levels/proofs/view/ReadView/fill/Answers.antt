use Rattle.std.proofs.Common.{List, None, Some, Ok, Err, sym, subst}
use Rattle.std.proofs.lemmas.Result.{err_from_is_err_and}
use Rattle.lsm_device.specs.Disk.{seen}
use Rattle.lsm_device.specs.Medium.{disk}
use Rattle.lsm_mem.specs.Versions.{map_of}
use Rattle.lsm_mem.specs.Paging.{Page, page_of}
use Rattle.lsm_mem.specs.Gathering.{Gathering}
use Rattle.lsm_mem.specs.Versions.{joined}
use Rattle.lsm_levels.specs.Levels.{places}
use Rattle.lsm_levels.specs.Lookups.{sealed_now, versions_in_places}
use Rattle.lsm_levels.specs.Asking.{Source}
use Rattle.lsm_levels.specs.Cursors.{Cursor}
use Rattle.lsm_levels.specs.Scans.{AreReady, AsksSome, ComesTo, blocks_to_come}
use Rattle.lsm_levels.specs.Pages.{EndsWith, Gathers}
use Rattle.lsm_levels.proofs.view.ReadView.fill.Goals as goal

pub returns-in_err-sources-clause-asks : goal.returns-in_err-sources-clause-asks
returns-in_err-sources-clause-asks g c =
    let p = err_from_is_err_and c.from_residual.result c.from_residual.ensures.1 in
    rw (p.1, p.2) c.in_err-sources.ensures.asks

pub returns-in_err-sources-clause-comes : goal.returns-in_err-sources-clause-comes
returns-in_err-sources-clause-comes g c = λ place to limit readable order is.
    let p = err_from_is_err_and c.from_residual.result c.from_residual.ensures.1 in
    rw (p.1, p.2) (c.in_err-sources.ensures.comes place readable order)

pub returns-in_err-sources-clause-refused : goal.returns-in_err-sources-clause-refused
returns-in_err-sources-clause-refused g c =
    let p = err_from_is_err_and c.from_residual.result c.from_residual.ensures.1 in
    rw (p.1, p.2) c.in_err-sources.ensures.refused

pub gather_all-requires-clause-ready : goal.gather_all-requires-clause-ready
gather_all-requires-clause-ready g c =
    subst (λ (cs : List Cursor). AreReady (g.D.Device.medium c.sources.new.device).size cs) (sym c.deref_mut.ensures.value) c.in_ok-sources.ensures.ready

pub gather_all-requires-clause-going : goal.gather_all-requires-clause-going
gather_all-requires-clause-going g c =
    c.requires.going

pub returns-in_err-gather_all-clause-asks : goal.returns-in_err-gather_all-clause-asks
returns-in_err-gather_all-clause-asks g c =
    let b : Source = record { cache = c.sources.new.cache; medium = g.D.Device.medium c.sources.new.device } in
    let d : Source = record { cache = c.gather_all.new.cache; medium = g.D.Device.medium c.gather_all.new.device } in
    let p = err_from_is_err_and c.from_residual-in_err-gather_all.result c.from_residual-in_err-gather_all.ensures.1 in
    rw (p.1, p.2) (c.in_ok-sources.ensures.asks (Some c.in_err-gather_all.field-0.0) d (subst (λ (cs : List Cursor). AsksSome (blocks_to_come cs) (Some c.in_err-gather_all.field-0.0) b d) c.deref_mut.ensures.value c.in_err-gather_all.ensures.asks))

pub returns-clause-asks : goal.returns-clause-asks
returns-clause-asks g c =
    let b : Source = record { cache = c.sources.new.cache; medium = g.D.Device.medium c.sources.new.device } in
    let d : Source = record { cache = c.gather_all.new.cache; medium = g.D.Device.medium c.gather_all.new.device } in
    c.in_ok-sources.ensures.asks None d (subst (λ (cs : List Cursor). AsksSome (blocks_to_come cs) None b d) c.deref_mut.ensures.value c.in_ok-gather_all.ensures.asks)

pub returns-in_err-gather_all-clause-comes : goal.returns-in_err-gather_all-clause-comes
returns-in_err-gather_all-clause-comes g c = λ place to limit readable order is.
    let v = c.args.self.now in
    let b : Source = record { cache = c.sources.new.cache; medium = g.D.Device.medium c.sources.new.device } in
    let S = seen (disk (g.D.Device.medium c.args.device.now)) in
    let page : Page = page_of (map_of (joined (versions_in_places v.mem.now (sealed_now v.sealed) (places v.levels.now))) c.args.at) c.args.from.now to limit in
    let comes = subst (λ (cs : List Cursor). ComesTo place S page c.args.builder.now cs b) (sym c.deref_mut.ensures.value)
    (subst (λ (x : Gathering). ComesTo place S page x c.in_ok-sources.sources.items b) (sym is) (c.in_ok-sources.ensures.comes place readable order to limit)) in
    let p = err_from_is_err_and c.from_residual-in_err-gather_all.result c.from_residual-in_err-gather_all.ensures.1 in
    rw (p.1, p.2) (c.in_err-gather_all.ensures.comes place S page comes)

pub returns-in_err-gather_all-clause-refused : goal.returns-in_err-gather_all-clause-refused
returns-in_err-gather_all-clause-refused g c =
    let p = err_from_is_err_and c.from_residual-in_err-gather_all.result c.from_residual-in_err-gather_all.ensures.1 in
    rw (p.1, p.2) c.in_err-gather_all.ensures.refused

pub returns-clause-comes : goal.returns-clause-comes
returns-clause-comes g c = λ place to limit readable order is.
    let v = c.args.self.now in
    let b : Source = record { cache = c.sources.new.cache; medium = g.D.Device.medium c.sources.new.device } in
    let S = seen (disk (g.D.Device.medium c.args.device.now)) in
    let page : Page = page_of (map_of (joined (versions_in_places v.mem.now (sealed_now v.sealed) (places v.levels.now))) c.args.at) c.args.from.now to limit in
    let comes = subst (λ (cs : List Cursor). ComesTo place S page c.args.builder.now cs b) (sym c.deref_mut.ensures.value)
    (subst (λ (x : Gathering). ComesTo place S page x c.in_ok-sources.sources.items b) (sym is) (c.in_ok-sources.ensures.comes place readable order to limit)) in
    c.in_ok-gather_all.ensures.comes place S page comes

pub returns-in_err-sources-clause-gathers : goal.returns-in_err-sources-clause-gathers
returns-in_err-sources-clause-gathers g c =
    let p = err_from_is_err_and c.from_residual.result c.from_residual.ensures.1 in
    rw (p.1, p.2) (c.in_err-sources.ensures.gathers c.args.builder.now)

pub returns-in_err-gather_all-clause-gathers : goal.returns-in_err-gather_all-clause-gathers
returns-in_err-gather_all-clause-gathers g c =
    let b : Source = record { cache = c.sources.new.cache; medium = g.D.Device.medium c.sources.new.device } in
    let d : Source = record { cache = c.gather_all.new.cache; medium = g.D.Device.medium c.gather_all.new.device } in
    let p = err_from_is_err_and c.from_residual-in_err-gather_all.result c.from_residual-in_err-gather_all.ensures.1 in
    rw (p.1, p.2) (c.in_ok-sources.ensures.gathers c.args.builder.now (Err c.in_err-gather_all.field-0.0) d
    (subst (λ (cs : List Cursor). Gathers c.args.builder.now cs (Err c.in_err-gather_all.field-0.0) b d) c.deref_mut.ensures.value c.in_err-gather_all.ensures.gathers))

pub returns-clause-gathers : goal.returns-clause-gathers
returns-clause-gathers g c = λ page is.
    let b : Source = record { cache = c.sources.new.cache; medium = g.D.Device.medium c.sources.new.device } in
    let d : Source = record { cache = c.gather_all.new.cache; medium = g.D.Device.medium c.gather_all.new.device } in
    c.in_ok-sources.ensures.gathers c.args.builder.now (Ok page) d
    (subst (λ (cs : List Cursor). EndsWith (Gathers c.args.builder.now cs) None c.gather_all.new.builder b d) c.deref_mut.ensures.value c.in_ok-gather_all.ensures.gathers page is)
