use Rattle.std.proofs.Common.{inl, Ok, Err, Some, refl, sym, subst, ◌++◌, ◌∷◌, [], ◌≡◌, ℕ}
use Rattle.std.proofs.lemmas.Result.{err_from_is_err_and}
use Rattle.lsm_device.specs.declared.refusal.Refusal.TheVariants.{NoMemory}
use Rattle.lsm_levels.specs.Asking.{Source}
use Rattle.lsm_levels.specs.Scans.{AreReady}
use Rattle.lsm_levels.specs.Cursors.{blocks_from_key}
use Rattle.lsm_levels.proofs.ScanAsking.{asks_nothing}
use Rattle.lsm_levels.proofs.ScanSources.{with_one_more, gives_more, more_asking, none_asking, ready_more, run_gives, seek_refused, sought_fair}
use Rattle.lsm_levels.proofs.PageLaws.{run_dropped, run_refused, run_sought}
use Rattle.lsm_levels.proofs.sources.seek_run.Goals as goal

pub returns-in_err-cursor-clause-asks : goal.returns-in_err-cursor-clause-asks
returns-in_err-cursor-clause-asks g c = λ behind.
    let old : Source = record { cache = c.args.cache.now; medium = g.D.Device.medium c.args.device.now } in
    let new : Source = record { cache = c.seek.new.cache; medium = g.D.Device.medium c.seek.new.device } in
    let p = err_from_is_err_and c.from_residual-in_err-cursor.result c.from_residual-in_err-cursor.ensures.1 in
    rw (p.1, p.2) (none_asking c.args.sources.now.items c.args.from.now (blocks_from_key c.args.area c.args.from.now c.args.run.now) behind c.in_err-cursor.field-0.0 old new c.in_err-cursor.ensures.sought)

pub returns-in_err-cursor-clause-gives : goal.returns-in_err-cursor-clause-gives
returns-in_err-cursor-clause-gives g c = λ place sectors lefts r stored placed all shows.
    let old : Source = record { cache = c.args.cache.now; medium = g.D.Device.medium c.args.device.now } in
    let new : Source = record { cache = c.seek.new.cache; medium = g.D.Device.medium c.seek.new.device } in
    let p = err_from_is_err_and c.from_residual-in_err-cursor.result c.from_residual-in_err-cursor.ensures.1 in
    rw (p.1, p.2) (run_gives place sectors c.args.area c.args.from.now c.args.run.now (Err c.in_err-cursor.field-0.0) old new r stored placed shows c.in_err-cursor.ensures.sought)

pub returns-clause-asks : goal.returns-clause-asks
returns-clause-asks g c = λ behind.
    let old : Source = record { cache = c.args.cache.now; medium = g.D.Device.medium c.args.device.now } in
    let new : Source = record { cache = c.seek.new.cache; medium = g.D.Device.medium c.seek.new.device } in
    more_asking c.args.sources.now.items c.push.new.self.items c.in_ok-cursor.cursor c.args.from.now (blocks_from_key c.args.area c.args.from.now c.args.run.now) behind old new (with_one_more c.push.new.self.items c.args.sources.now.items c.of_run.result c.in_ok-cursor.cursor c.in_ok-push.ensures.items c.of_run.ensures) c.in_ok-cursor.ensures.sought

pub returns-clause-gives : goal.returns-clause-gives
returns-clause-gives g c = λ place sectors lefts r stored placed all shows.
    let old : Source = record { cache = c.args.cache.now; medium = g.D.Device.medium c.args.device.now } in
    let new : Source = record { cache = c.seek.new.cache; medium = g.D.Device.medium c.seek.new.device } in
    let given = run_gives place sectors c.args.area c.args.from.now c.args.run.now (Ok c.in_ok-cursor.cursor) old new r stored placed shows c.in_ok-cursor.ensures.sought in
    (gives_more place sectors lefts c.args.sources.now.items c.push.new.self.items _ c.in_ok-cursor.cursor new (with_one_more c.push.new.self.items c.args.sources.now.items c.of_run.result c.in_ok-cursor.cursor c.in_ok-push.ensures.items c.of_run.ensures) all given, given.shows)

pub returns-in_err-cursor-clause-refused : goal.returns-in_err-cursor-clause-refused
returns-in_err-cursor-clause-refused g c =
    let old : Source = record { cache = c.args.cache.now; medium = g.D.Device.medium c.args.device.now } in
    let new : Source = record { cache = c.seek.new.cache; medium = g.D.Device.medium c.seek.new.device } in
    let p = err_from_is_err_and c.from_residual-in_err-cursor.result c.from_residual-in_err-cursor.ensures.1 in
    rw (p.1, p.2) (seek_refused c.args.from.now (blocks_from_key c.args.area c.args.from.now c.args.run.now) c.in_err-cursor.field-0.0 old new c.in_err-cursor.ensures.sought)

pub returns-in_err-push-clause-asks : goal.returns-in_err-push-clause-asks
returns-in_err-push-clause-asks g c = λ behind.
    let old : Source = record { cache = c.args.cache.now; medium = g.D.Device.medium c.args.device.now } in
    let new : Source = record { cache = c.seek.new.cache; medium = g.D.Device.medium c.seek.new.device } in
    let cursors = c.args.sources.now.items in
    let p = err_from_is_err_and c.from_residual-in_err-push.result c.from_residual-in_err-push.ensures.1 in
    rw (p.1, p.2) (more_asking cursors (cursors ++ c.in_ok-cursor.cursor ∷ []) c.in_ok-cursor.cursor c.args.from.now (blocks_from_key c.args.area c.args.from.now c.args.run.now) behind old new refl c.in_ok-cursor.ensures.sought
    (Some NoMemory) new (asks_nothing _ (Some NoMemory) new refl))

pub returns-clause-ready : goal.returns-clause-ready
returns-clause-ready g c =
    let old : Source = record { cache = c.args.cache.now; medium = g.D.Device.medium c.args.device.now } in
    let new : Source = record { cache = c.seek.new.cache; medium = g.D.Device.medium c.seek.new.device } in
    let cursors = c.args.sources.now.items in
    let blocks = blocks_from_key c.args.area c.args.from.now c.args.run.now in
    let is : c.push.new.self.items ≡ cursors ++ c.in_ok-cursor.cursor ∷ [] = with_one_more c.push.new.self.items c.args.sources.now.items c.of_run.result c.in_ok-cursor.cursor c.in_ok-push.ensures.items c.of_run.ensures in
    subst (AreReady new.medium.size) (sym is)
    (ready_more new.medium.size cursors c.in_ok-cursor.cursor (subst (λ (n : ℕ). AreReady n cursors) (sym c.in_ok-cursor.ensures.asks.reads.same_size) c.requires.ready) c.in_ok-cursor.ensures.within
    (sought_fair c.args.from.now blocks c.in_ok-cursor.cursor old new c.in_ok-cursor.ensures.sought))

pub returns-in_err-alloc-clause-gathers : goal.returns-in_err-alloc-clause-gathers
returns-in_err-alloc-clause-gathers g c = λ gathering behind.
    let p = err_from_is_err_and c.from_residual.result c.from_residual.ensures.1 in
    rw (p.1, p.2) (inl (refl, refl))

pub returns-in_err-cursor-clause-gathers : goal.returns-in_err-cursor-clause-gathers
returns-in_err-cursor-clause-gathers g c = λ gathering behind.
    let old : Source = record { cache = c.args.cache.now; medium = g.D.Device.medium c.args.device.now } in
    let new : Source = record { cache = c.seek.new.cache; medium = g.D.Device.medium c.seek.new.device } in
    let p = err_from_is_err_and c.from_residual-in_err-cursor.result c.from_residual-in_err-cursor.ensures.1 in
    rw (p.1, p.2) (run_refused gathering c.args.area c.args.from.now c.args.run.now behind c.args.sources.now.items c.in_err-cursor.field-0.0 old new c.in_err-cursor.ensures.sought)

pub returns-in_err-push-clause-gathers : goal.returns-in_err-push-clause-gathers
returns-in_err-push-clause-gathers g c = λ gathering behind.
    let old : Source = record { cache = c.args.cache.now; medium = g.D.Device.medium c.args.device.now } in
    let new : Source = record { cache = c.seek.new.cache; medium = g.D.Device.medium c.seek.new.device } in
    let p = err_from_is_err_and c.from_residual-in_err-push.result c.from_residual-in_err-push.ensures.1 in
    rw (p.1, p.2) (run_dropped gathering c.args.area c.args.from.now c.args.run.now behind c.args.sources.now.items c.in_ok-cursor.cursor old new c.in_ok-cursor.ensures.sought)

pub returns-clause-gathers : goal.returns-clause-gathers
returns-clause-gathers g c = λ gathering behind.
    let old : Source = record { cache = c.args.cache.now; medium = g.D.Device.medium c.args.device.now } in
    let new : Source = record { cache = c.seek.new.cache; medium = g.D.Device.medium c.seek.new.device } in
    run_sought gathering c.args.area c.args.from.now c.args.run.now behind c.args.sources.now.items c.push.new.self.items c.in_ok-cursor.cursor old new (with_one_more c.push.new.self.items c.args.sources.now.items c.of_run.result c.in_ok-cursor.cursor c.in_ok-push.ensures.items c.of_run.ensures) c.in_ok-cursor.ensures.sought
