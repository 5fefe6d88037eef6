use Rattle.std.proofs.Common.{Ok, ap}
use Rattle.lsm_codec.specs.References.{shown}
use Rattle.lsm_levels.specs.Levels.{places}
use Rattle.lsm_levels.specs.Asking.{Source}
use Rattle.lsm_levels.specs.Lookups.{sealed_now}
use Rattle.lsm_levels.proofs.Finding.{tests_in_memory, tests_in_runs}
use Rattle.lsm_levels.proofs.view.ReadView.tested.Goals as goal

pub returns-in-Some : goal.returns-in-Some
returns-in-Some g c =
    let v = c.args.self.now in
    let old : Source = record { cache = c.args.cache.now; medium = g.D.Device.medium c.args.device.now } in
    tests_in_memory v.mem.now (sealed_now v.sealed) (places v.levels.now) v.area c.args.guard.now c.args.at (shown c.in-Some.version) (Ok c.is_met_by.result) old (rw c.key-key.ensures.same at c.in-Some.ensures) (ap (λ b. Ok b) c.is_met_by.ensures)

pub returns : goal.returns
returns g c =
    let v = c.args.self.now in
    let old : Source = record { cache = c.args.cache.now; medium = g.D.Device.medium c.args.device.now } in
    let new : Source = record { cache = c.test_in_levels.new.cache; medium = g.D.Device.medium c.test_in_levels.new.device } in
    tests_in_runs v.mem.now (sealed_now v.sealed) (places v.levels.now) v.area c.args.guard.now c.args.at c.test_in_levels.result old new (rw c.key-key.ensures.same at c.in_default.ensures) (rw c.key-key.ensures.same at c.test_in_levels.ensures)
