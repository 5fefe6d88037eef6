use Rattle.std.proofs.Common.{Err, Ok, Some, None}
use Rattle.std.specs.List.{AllByRecursion}
use Rattle.std.proofs.lemmas.Result.{err_from_is_err_and}
use Rattle.lsm_codec.proofs.Lists.{all_right}
use Rattle.lsm_table.specs.Spans.{spanned}
use Rattle.lsm_levels.specs.Asking.{Source}
use Rattle.lsm_levels.specs.Founds.{spanned_in}
use Rattle.lsm_levels.specs.Lookups.{LooksUp}
use Rattle.lsm_levels.specs.Stored.{LiesWithin}
use Rattle.lsm_levels.proofs.LookingUp.{looks_only_reads}
use Rattle.lsm_levels.proofs.ToldLaws.{newer_refused, newer_told, older_told}
use Rattle.lsm_levels.proofs.lookup.find_in_levels.Goals as goal

pub returns-in_err-span : goal.returns-in_err-span
returns-in_err-span g c =
    let p = err_from_is_err_and c.from_residual.result c.from_residual.ensures.1 in
    let q = c.args.query.now in
    let l = c.args.levels.now in
    let old : Source = record { cache = c.args.cache.now; medium = g.D.Device.medium c.args.device.now } in
    let new : Source = record { cache = c.find_in_runs.new.cache; medium = g.D.Device.medium c.find_in_runs.new.device } in
    rw (p.1, p.2) (newer_refused q.area q.key.now q.at l.runs l.deeper c.in_err-span.field-0.0 old new (rw c.runs.ensures.same at c.in_err-span.ensures))

pub returns-in-Some : goal.returns-in-Some
returns-in-Some g c =
    let q = c.args.query.now in
    let l = c.args.levels.now in
    let old : Source = record { cache = c.args.cache.now; medium = g.D.Device.medium c.args.device.now } in
    let new : Source = record { cache = c.find_in_runs.new.cache; medium = g.D.Device.medium c.find_in_runs.new.device } in
    let looks : LooksUp q.area q.key.now q.at c.runs.result.now (Ok (Some (spanned c.in-Some.span c.find_in_runs.new.bytes))) old new = rw c.in-Some.is at c.in_ok-span.ensures in
    newer_told q.area q.key.now q.at l.runs l.deeper (spanned c.in-Some.span c.find_in_runs.new.bytes) old new (rw c.runs.ensures.same at looks)

pub find_in_runs-requires-2 : goal.find_in_runs-requires-2
find_in_runs-requires-2 g c =
    let q = c.args.query.now in
    let l = c.args.levels.now in
    let old : Source = record { cache = c.args.cache.now; medium = g.D.Device.medium c.args.device.now } in
    let new : Source = record { cache = c.find_in_runs.new.cache; medium = g.D.Device.medium c.find_in_runs.new.device } in
    let reads = looks_only_reads q.area q.key.now q.at c.runs.result.now _ old new c.find_in_runs.ensures in
    rw (reads.same_size, c.deeper.ensures.same) (all_right (AllByRecursion (LiesWithin old.medium.size q.area)) l.runs l.deeper c.requires)

pub returns-in_err-find_in_runs : goal.returns-in_err-find_in_runs
returns-in_err-find_in_runs g c =
    let p = err_from_is_err_and c.from_residual-in_err-find_in_runs.result c.from_residual-in_err-find_in_runs.ensures.1 in
    let q = c.args.query.now in
    let l = c.args.levels.now in
    let old : Source = record { cache = c.args.cache.now; medium = g.D.Device.medium c.args.device.now } in
    let mid : Source = record { cache = c.find_in_runs.new.cache; medium = g.D.Device.medium c.find_in_runs.new.device } in
    let new : Source = record { cache = c.find_in_runs-2.new.cache; medium = g.D.Device.medium c.find_in_runs-2.new.device } in
    let looks : LooksUp q.area q.key.now q.at c.runs.result.now (Ok None) old mid = rw c.in_default.is at c.in_ok-span.ensures in
    rw (p.1, p.2) (older_told q.area q.key.now q.at l.runs l.deeper (Err c.in_err-find_in_runs.field-0.0) old mid new
    (rw c.runs.ensures.same at looks) (rw c.deeper.ensures.same at c.in_err-find_in_runs.ensures))

pub returns : goal.returns
returns g c =
    let q = c.args.query.now in
    let l = c.args.levels.now in
    let old : Source = record { cache = c.args.cache.now; medium = g.D.Device.medium c.args.device.now } in
    let mid : Source = record { cache = c.find_in_runs.new.cache; medium = g.D.Device.medium c.find_in_runs.new.device } in
    let new : Source = record { cache = c.find_in_runs-2.new.cache; medium = g.D.Device.medium c.find_in_runs-2.new.device } in
    let looks : LooksUp q.area q.key.now q.at c.runs.result.now (Ok None) old mid = rw c.in_default.is at c.in_ok-span.ensures in
    older_told q.area q.key.now q.at l.runs l.deeper (spanned_in c.find_in_runs-2.new.bytes (Ok c.in_ok-find_in_runs.field-0)) old mid new
    (rw c.runs.ensures.same at looks) (rw c.deeper.ensures.same at c.in_ok-find_in_runs.ensures)
