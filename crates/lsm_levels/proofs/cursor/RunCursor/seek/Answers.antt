use Rattle.std.proofs.Common.{Ok, Err, None}
use Rattle.std.proofs.lemmas.Result.{err_from_is_err_and}
use Rattle.lsm_levels.specs.Asking.{Source}
use Rattle.lsm_levels.specs.Cursors.{EndsWithin, blocks_from_key}
use Rattle.lsm_levels.proofs.CursorBlocks.{from_within}
use Rattle.lsm_levels.proofs.CursorLaws.{seek_to_once, seek_blocks}
use Rattle.lsm_levels.proofs.cursor.RunCursor.seek.Goals as goal

pub returns-in_err-cursor-clause-asks : goal.returns-in_err-cursor-clause-asks
returns-in_err-cursor-clause-asks g c =
    let p = err_from_is_err_and c.from_residual.result c.from_residual.ensures.1 in
    let old : Source = record { cache = c.args.cache.now; medium = g.D.Device.medium c.args.device.now } in
    let new : Source = record { cache = c.found.new.cache; medium = g.D.Device.medium c.found.new.device } in
    rw (p.1, p.2) (seek_to_once c.args.from.now (blocks_from_key c.args.area c.args.from.now c.args.run.now) (Err c.in_err-cursor.field-0.0) old new c.in_err-cursor.ensures)

pub returns-clause-asks : goal.returns-clause-asks
returns-clause-asks g c =
    let old : Source = record { cache = c.args.cache.now; medium = g.D.Device.medium c.args.device.now } in
    let new : Source = record { cache = c.found.new.cache; medium = g.D.Device.medium c.found.new.device } in
    seek_to_once c.args.from.now (blocks_from_key c.args.area c.args.from.now c.args.run.now) (Ok c.in_ok-cursor.cursor) old new c.in_ok-cursor.ensures

pub returns-clause-within : goal.returns-clause-within
returns-clause-within g c =
    let old : Source = record { cache = c.args.cache.now; medium = g.D.Device.medium c.args.device.now } in
    let new : Source = record { cache = c.found.new.cache; medium = g.D.Device.medium c.found.new.device } in
    let blocks = blocks_from_key c.args.area c.args.from.now c.args.run.now in
    let once = seek_to_once c.args.from.now blocks (Ok c.in_ok-cursor.cursor) old new c.in_ok-cursor.ensures in
    rw once.reads.same_size (seek_blocks (EndsWithin old.medium.size) c.args.from.now blocks c.in_ok-cursor.cursor None old new c.in_ok-cursor.ensures (from_within old.medium.size c.args.area c.args.from.now c.args.run.now c.requires))
