use Rattle.std.proofs.Common.{None, Some, drop}
use Rattle.std.proofs.lemmas.Result.{err_from_is_err_and}
use Rattle.lsm_levels.specs.Asking.{Source}
use Rattle.lsm_levels.specs.Cursors.{EndsWithin}
use Rattle.lsm_levels.proofs.CursorLaws.{step_once, step_blocks}
use Rattle.lsm_levels.proofs.cursor.RunCursor.advance.Goals as goal

pub returns-in_err-step-clause-asks : goal.returns-in_err-step-clause-asks
returns-in_err-step-clause-asks g c =
    let p = err_from_is_err_and c.from_residual.result c.from_residual.ensures.1 in
    let old : Source = record { cache = c.args.cache.now; medium = g.D.Device.medium c.args.device.now } in
    let new : Source = record { cache = c.step.new.cache; medium = g.D.Device.medium c.step.new.device } in
    rw (p.1, p.2) (step_once (drop 1 c.args.self.now.items) c.args.self.now.blocks c.step.new.self (Some c.in_err-step.field-0.0) old new c.in_err-step.ensures.fair c.in_err-step.ensures.goes_on)

pub returns-in_err-step-clause-within : goal.returns-in_err-step-clause-within
returns-in_err-step-clause-within g c =
    let old : Source = record { cache = c.args.cache.now; medium = g.D.Device.medium c.args.device.now } in
    let new : Source = record { cache = c.step.new.cache; medium = g.D.Device.medium c.step.new.device } in
    let once = step_once (drop 1 c.args.self.now.items) c.args.self.now.blocks c.step.new.self (Some c.in_err-step.field-0.0) old new c.in_err-step.ensures.fair c.in_err-step.ensures.goes_on in
    rw once.reads.same_size (step_blocks (EndsWithin old.medium.size) (drop 1 c.args.self.now.items) c.args.self.now.blocks c.step.new.self (Some c.in_err-step.field-0.0) old new c.in_err-step.ensures.goes_on c.requires)

pub returns-clause-asks : goal.returns-clause-asks
returns-clause-asks g c =
    let old : Source = record { cache = c.args.cache.now; medium = g.D.Device.medium c.args.device.now } in
    let new : Source = record { cache = c.step.new.cache; medium = g.D.Device.medium c.step.new.device } in
    step_once (drop 1 c.args.self.now.items) c.args.self.now.blocks c.step.new.self None old new tt c.in_ok-step.ensures.goes_on

pub returns-clause-within : goal.returns-clause-within
returns-clause-within g c =
    let old : Source = record { cache = c.args.cache.now; medium = g.D.Device.medium c.args.device.now } in
    let new : Source = record { cache = c.step.new.cache; medium = g.D.Device.medium c.step.new.device } in
    let once = step_once (drop 1 c.args.self.now.items) c.args.self.now.blocks c.step.new.self None old new tt c.in_ok-step.ensures.goes_on in
    rw once.reads.same_size (step_blocks (EndsWithin old.medium.size) (drop 1 c.args.self.now.items) c.args.self.now.blocks c.step.new.self None old new c.in_ok-step.ensures.goes_on c.requires)
