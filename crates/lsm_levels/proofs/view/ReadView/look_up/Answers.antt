use Rattle.lsm_codec.specs.References.{shown}
use Rattle.lsm_levels.specs.Levels.{places}
use Rattle.lsm_levels.specs.Asking.{Source}
use Rattle.lsm_levels.specs.Lookups.{answer_of, sealed_now}
use Rattle.lsm_levels.proofs.Finding.{ends_in_memory, ends_in_runs}
use Rattle.lsm_levels.proofs.view.ReadView.look_up.Goals as goal

pub returns-in-Some : goal.returns-in-Some
returns-in-Some g c =
    let v = c.args.self.now in
    let old : Source = record { cache = c.args.cache.now; medium = g.D.Device.medium c.args.device.now } in
    ends_in_memory v.mem.now (sealed_now v.sealed) (places v.levels.now) v.area c.args.key.now c.args.at (shown c.in-Some.version) (answer_of c.copied.result) old c.in-Some.ensures c.copied.ensures

pub returns : goal.returns
returns g c =
    let v = c.args.self.now in
    let old : Source = record { cache = c.args.cache.now; medium = g.D.Device.medium c.args.device.now } in
    let new : Source = record { cache = c.copy_from_levels.new.cache; medium = g.D.Device.medium c.copy_from_levels.new.device } in
    let t = c.copy_from_levels.ensures in
    ends_in_runs v.mem.now (sealed_now v.sealed) (places v.levels.now) v.area c.args.key.now c.args.at t.found (answer_of c.copy_from_levels.result) old new c.in_default.ensures t.looks t.copies
