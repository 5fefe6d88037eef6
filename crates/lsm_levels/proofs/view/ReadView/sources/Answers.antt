use Rattle.std.proofs.Common.{◌≡◌, ◌⊎◌, ℕ, List, map, refl, sym, subst, ◌++◌}
use Rattle.std.specs.List.{AllByRecursion}
use Rattle.std.proofs.lemmas.Result.{err_from_is_err_and}
use Rattle.lsm_device.specs.declared.refusal.Refusal.TheVariants.{Io, NoMemory}
use Rattle.lsm_device.specs.Disk.{seen}
use Rattle.lsm_device.specs.Medium.{disk}
use Rattle.lsm_mem.specs.Ranges.{from_key}
use Rattle.lsm_levels.specs.Tables.{Table, IsRun, versions_of}
use Rattle.lsm_levels.specs.Stored.{AreWithin, LiesWithin}
use Rattle.lsm_levels.specs.Levels.{places}
use Rattle.lsm_levels.specs.Asking.{Source}
use Rattle.lsm_levels.specs.Cursors.{Cursor, Shows}
use Rattle.lsm_levels.specs.Scans.{AllGive, AreReady, memory_places}
use Rattle.lsm_codec.proofs.Lists.{all_append, all_left, all_right}
use Rattle.lsm_levels.proofs.ScanViews.{memory_ready, newer_do, older_do, view_given, view_comes, view_newer_refused, view_older_refused, view_sought}
use Rattle.lsm_levels.specs.Pages.{cursors_of}
use Rattle.lsm_levels.proofs.PageLaws.{all_go, newer_fail, no_memory_for, older_fail}
use Rattle.lsm_levels.proofs.view.ReadView.sources.Goals as goal

pub seek_runs-requires-clause-within : goal.seek_runs-requires-clause-within
seek_runs-requires-clause-within g c =
    let size = (g.D.Device.medium c.args.device.now).size in
    let v = c.args.self.now in
    subst (λ (rs : List (List Table)). AreWithin size v.area rs) (sym c.runs-runs.ensures.same) (all_left (AllByRecursion (LiesWithin size v.area)) v.levels.now.runs v.levels.now.deeper c.requires)

pub seek_runs-requires-clause-ready : goal.seek_runs-requires-clause-ready
seek_runs-requires-clause-ready g c =
    let size = (g.D.Device.medium c.args.device.now).size in
    subst (λ (cs : List Cursor). AreReady size cs) (sym c.in_ok-sources.ensures.left) (memory_ready size c.args.from.now c.args.at c.args.self.now.mem.now c.args.self.now.sealed)

pub seek_runs-requires-2-clause-within : goal.seek_runs-requires-2-clause-within
seek_runs-requires-2-clause-within g c =
    let size = (g.D.Device.medium c.args.device.now).size in
    let v = c.args.self.now in
    subst (λ (n : ℕ). AreWithin n v.area c.deeper-older.result.now) (sym c.in_ok-seek_runs.ensures.same_size)
    (subst (λ (rs : List (List Table)). AreWithin size v.area rs) (sym c.deeper-older.ensures.same) (all_right (AllByRecursion (LiesWithin size v.area)) v.levels.now.runs v.levels.now.deeper c.requires))

pub returns-in_err-seek_runs-clause-asks : goal.returns-in_err-seek_runs-clause-asks
returns-in_err-seek_runs-clause-asks g c =
    let v = c.args.self.now in
    let a : Source = record { cache = c.args.cache.now; medium = g.D.Device.medium c.args.device.now } in
    let b : Source = record { cache = c.seek_runs.new.cache; medium = g.D.Device.medium c.seek_runs.new.device } in
    let p = err_from_is_err_and c.from_residual-in_err-seek_runs.result c.from_residual-in_err-seek_runs.ensures.1 in
    rw (p.1, p.2) (view_newer_refused v.area c.args.from.now c.args.at v.mem.now v.sealed v.levels.now c.in_ok-sources.sources.items c.runs-runs.result.now v.levels.now.deeper c.in_ok-sources.ensures.left c.runs-runs.ensures.same refl
    c.seek_runs.new.sources.items c.in_err-seek_runs.field-0.0 a b c.in_err-seek_runs.ensures.asks)

pub returns-in_err-seek_runs-2-clause-asks : goal.returns-in_err-seek_runs-2-clause-asks
returns-in_err-seek_runs-2-clause-asks g c =
    let v = c.args.self.now in
    let a : Source = record { cache = c.args.cache.now; medium = g.D.Device.medium c.args.device.now } in
    let b : Source = record { cache = c.seek_runs.new.cache; medium = g.D.Device.medium c.seek_runs.new.device } in
    let d : Source = record { cache = c.seek_runs-2.new.cache; medium = g.D.Device.medium c.seek_runs-2.new.device } in
    let p = err_from_is_err_and c.from_residual-in_err-seek_runs-2.result c.from_residual-in_err-seek_runs-2.ensures.1 in
    rw (p.1, p.2) (view_older_refused v.area c.args.from.now c.args.at v.mem.now v.sealed v.levels.now c.in_ok-sources.sources.items c.runs-runs.result.now c.deeper-older.result.now c.in_ok-sources.ensures.left c.runs-runs.ensures.same c.deeper-older.ensures.same
    c.seek_runs.new.sources.items c.seek_runs-2.new.sources.items c.in_err-seek_runs-2.field-0.0 a b d c.in_ok-seek_runs.ensures.asks c.in_err-seek_runs-2.ensures.asks)

pub returns-clause-asks : goal.returns-clause-asks
returns-clause-asks g c =
    let v = c.args.self.now in
    let a : Source = record { cache = c.args.cache.now; medium = g.D.Device.medium c.args.device.now } in
    let b : Source = record { cache = c.seek_runs.new.cache; medium = g.D.Device.medium c.seek_runs.new.device } in
    let d : Source = record { cache = c.seek_runs-2.new.cache; medium = g.D.Device.medium c.seek_runs-2.new.device } in
    view_sought v.area c.args.from.now c.args.at v.mem.now v.sealed v.levels.now c.in_ok-sources.sources.items c.runs-runs.result.now c.deeper-older.result.now c.in_ok-sources.ensures.left c.runs-runs.ensures.same c.deeper-older.ensures.same
    c.seek_runs.new.sources.items c.seek_runs-2.new.sources.items a b d c.in_ok-seek_runs.ensures.asks c.in_ok-seek_runs-2.ensures.asks

pub returns-in_err-seek_runs-clause-comes : goal.returns-in_err-seek_runs-clause-comes
returns-in_err-seek_runs-clause-comes g c = λ place readable order.
    let v = c.args.self.now in
    let a : Source = record { cache = c.args.cache.now; medium = g.D.Device.medium c.args.device.now } in
    let b : Source = record { cache = c.seek_runs.new.cache; medium = g.D.Device.medium c.seek_runs.new.device } in
    let sectors = seen (disk (g.D.Device.medium c.args.device.now)) in
    let shows : Shows place sectors a = record { tells = readable.tells; holds = refl; fresh = readable.fresh } in
    let all = all_append IsRun v.levels.now.runs v.levels.now.deeper c.runs-runs.ensures.runs.runs c.runs-runs.ensures.runs.deeper in
    let p = err_from_is_err_and c.from_residual-in_err-seek_runs.result c.from_residual-in_err-seek_runs.ensures.1 in
    rw (p.1, p.2) (newer_do place sectors v.area c.args.from.now c.args.at v.mem.now v.sealed v.levels.now c.in_ok-sources.sources.items c.runs-runs.result.now v.levels.now.deeper c.in_ok-sources.ensures.left c.runs-runs.ensures.same refl all readable.stored readable.placed a shows (λ lefts. (c.in_err-seek_runs.field-0.0 ≡ Io) ⊎ (c.in_err-seek_runs.field-0.0 ≡ NoMemory)) (c.in_err-seek_runs.ensures.gives place sectors))

pub returns-in_err-seek_runs-2-clause-comes : goal.returns-in_err-seek_runs-2-clause-comes
returns-in_err-seek_runs-2-clause-comes g c = λ place readable order.
    let v = c.args.self.now in
    let a : Source = record { cache = c.args.cache.now; medium = g.D.Device.medium c.args.device.now } in
    let b : Source = record { cache = c.seek_runs.new.cache; medium = g.D.Device.medium c.seek_runs.new.device } in
    let sectors = seen (disk (g.D.Device.medium c.args.device.now)) in
    let shows : Shows place sectors a = record { tells = readable.tells; holds = refl; fresh = readable.fresh } in
    let all = all_append IsRun v.levels.now.runs v.levels.now.deeper c.runs-runs.ensures.runs.runs c.runs-runs.ensures.runs.deeper in
    let one = newer_do place sectors v.area c.args.from.now c.args.at v.mem.now v.sealed v.levels.now c.in_ok-sources.sources.items c.runs-runs.result.now c.deeper-older.result.now c.in_ok-sources.ensures.left c.runs-runs.ensures.same c.deeper-older.ensures.same all readable.stored readable.placed a shows (λ lefts. AllGive place sectors (lefts ++ map (λ (run : List Table). from_key c.args.from.now (versions_of run)) c.runs-runs.result.now) c.seek_runs.new.sources.items × Shows place sectors b) (c.in_ok-seek_runs.ensures.gives place sectors) in
    let p = err_from_is_err_and c.from_residual-in_err-seek_runs-2.result c.from_residual-in_err-seek_runs-2.ensures.1 in
    rw (p.1, p.2) (older_do place sectors v.area c.args.from.now c.args.at v.mem.now v.sealed v.levels.now c.in_ok-sources.sources.items c.runs-runs.result.now c.deeper-older.result.now c.in_ok-sources.ensures.left c.runs-runs.ensures.same c.deeper-older.ensures.same all readable.stored readable.placed c.seek_runs.new.sources.items b one (λ lefts. (c.in_err-seek_runs-2.field-0.0 ≡ Io) ⊎ (c.in_err-seek_runs-2.field-0.0 ≡ NoMemory)) (c.in_err-seek_runs-2.ensures.gives place sectors))

pub returns-clause-comes : goal.returns-clause-comes
returns-clause-comes g c = λ place readable order to limit.
    let v = c.args.self.now in
    let a : Source = record { cache = c.args.cache.now; medium = g.D.Device.medium c.args.device.now } in
    let b : Source = record { cache = c.seek_runs.new.cache; medium = g.D.Device.medium c.seek_runs.new.device } in
    let sectors = seen (disk (g.D.Device.medium c.args.device.now)) in
    let shows : Shows place sectors a = record { tells = readable.tells; holds = refl; fresh = readable.fresh } in
    let all = all_append IsRun v.levels.now.runs v.levels.now.deeper c.runs-runs.ensures.runs.runs c.runs-runs.ensures.runs.deeper in
    let d : Source = record { cache = c.seek_runs-2.new.cache; medium = g.D.Device.medium c.seek_runs-2.new.device } in
    let one = newer_do place sectors v.area c.args.from.now c.args.at v.mem.now v.sealed v.levels.now c.in_ok-sources.sources.items c.runs-runs.result.now c.deeper-older.result.now c.in_ok-sources.ensures.left c.runs-runs.ensures.same c.deeper-older.ensures.same all readable.stored readable.placed a shows (λ lefts. AllGive place sectors (lefts ++ map (λ (run : List Table). from_key c.args.from.now (versions_of run)) c.runs-runs.result.now) c.seek_runs.new.sources.items × Shows place sectors b) (c.in_ok-seek_runs.ensures.gives place sectors) in
    let two = older_do place sectors v.area c.args.from.now c.args.at v.mem.now v.sealed v.levels.now c.in_ok-sources.sources.items c.runs-runs.result.now c.deeper-older.result.now c.in_ok-sources.ensures.left c.runs-runs.ensures.same c.deeper-older.ensures.same all readable.stored readable.placed c.seek_runs.new.sources.items b one (λ lefts. AllGive place sectors (lefts ++ map (λ (run : List Table). from_key c.args.from.now (versions_of run)) c.deeper-older.result.now) c.seek_runs-2.new.sources.items × Shows place sectors d) (c.in_ok-seek_runs-2.ensures.gives place sectors) in
    view_comes place sectors v.area c.args.at limit c.args.from.now to v.mem.now v.sealed (places v.levels.now) c.seek_runs-2.new.sources.items d c.in_ok-sources.ensures.ordered all readable.stored order
    (view_given place sectors v.area c.args.from.now c.args.at v.mem.now v.sealed v.levels.now c.in_ok-sources.sources.items c.runs-runs.result.now c.deeper-older.result.now c.in_ok-sources.ensures.left c.runs-runs.ensures.same c.deeper-older.ensures.same all readable.stored readable.placed c.seek_runs-2.new.sources.items two.0) two.1

pub returns-in_err-sources-clause-gathers : goal.returns-in_err-sources-clause-gathers
returns-in_err-sources-clause-gathers g c = λ gathering.
    let v = c.args.self.now in
    let front : List Cursor = cursors_of c.args.from.now c.args.at (memory_places v.mem.now v.sealed) in
    let a : Source = record { cache = c.args.cache.now; medium = g.D.Device.medium c.args.device.now } in
    let p = err_from_is_err_and c.from_residual.result c.from_residual.ensures.1 in
    rw (p.1, p.2) (no_memory_for gathering v.area c.args.from.now (places v.levels.now) front a)

pub returns-in_err-seek_runs-clause-gathers : goal.returns-in_err-seek_runs-clause-gathers
returns-in_err-seek_runs-clause-gathers g c = λ gathering.
    let v = c.args.self.now in
    let front : List Cursor = cursors_of c.args.from.now c.args.at (memory_places v.mem.now v.sealed) in
    let a : Source = record { cache = c.args.cache.now; medium = g.D.Device.medium c.args.device.now } in
    let b : Source = record { cache = c.seek_runs.new.cache; medium = g.D.Device.medium c.seek_runs.new.device } in
    let p = err_from_is_err_and c.from_residual-in_err-seek_runs.result c.from_residual-in_err-seek_runs.ensures.1 in
    rw (p.1, p.2) (newer_fail v.area c.args.from.now v.levels.now front c.in_ok-sources.sources.items c.runs-runs.result.now v.levels.now.deeper c.in_ok-sources.ensures.left c.runs-runs.ensures.same refl gathering
    c.seek_runs.new.sources.items c.in_err-seek_runs.field-0.0 a b c.in_err-seek_runs.ensures.gathers)

pub returns-in_err-seek_runs-2-clause-gathers : goal.returns-in_err-seek_runs-2-clause-gathers
returns-in_err-seek_runs-2-clause-gathers g c = λ gathering.
    let v = c.args.self.now in
    let front : List Cursor = cursors_of c.args.from.now c.args.at (memory_places v.mem.now v.sealed) in
    let a : Source = record { cache = c.args.cache.now; medium = g.D.Device.medium c.args.device.now } in
    let b : Source = record { cache = c.seek_runs.new.cache; medium = g.D.Device.medium c.seek_runs.new.device } in
    let d : Source = record { cache = c.seek_runs-2.new.cache; medium = g.D.Device.medium c.seek_runs-2.new.device } in
    let p = err_from_is_err_and c.from_residual-in_err-seek_runs-2.result c.from_residual-in_err-seek_runs-2.ensures.1 in
    rw (p.1, p.2) (older_fail v.area c.args.from.now v.levels.now front c.in_ok-sources.sources.items c.runs-runs.result.now c.deeper-older.result.now c.in_ok-sources.ensures.left c.runs-runs.ensures.same c.deeper-older.ensures.same gathering
    c.seek_runs.new.sources.items c.seek_runs-2.new.sources.items c.in_err-seek_runs-2.field-0.0 a b d c.in_ok-seek_runs.ensures.gathers c.in_err-seek_runs-2.ensures.gathers)

pub returns-clause-gathers : goal.returns-clause-gathers
returns-clause-gathers g c = λ gathering.
    let v = c.args.self.now in
    let front : List Cursor = cursors_of c.args.from.now c.args.at (memory_places v.mem.now v.sealed) in
    let a : Source = record { cache = c.args.cache.now; medium = g.D.Device.medium c.args.device.now } in
    let b : Source = record { cache = c.seek_runs.new.cache; medium = g.D.Device.medium c.seek_runs.new.device } in
    let d : Source = record { cache = c.seek_runs-2.new.cache; medium = g.D.Device.medium c.seek_runs-2.new.device } in
    all_go v.area c.args.from.now v.levels.now front c.in_ok-sources.sources.items c.runs-runs.result.now c.deeper-older.result.now c.in_ok-sources.ensures.left c.runs-runs.ensures.same c.deeper-older.ensures.same gathering
    c.seek_runs.new.sources.items c.seek_runs-2.new.sources.items a b d c.in_ok-seek_runs.ensures.gathers c.in_ok-seek_runs-2.ensures.gathers
