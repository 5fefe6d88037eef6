use Rattle.std.proofs.Common.{◌+◌, refl, ◌∙◌, ap}
use Rattle.lsm_open.specs.Layout.{layout_of}
use Rattle.lsm_open.specs.Reopening.{least_free}
use Rattle.lsm_open.proofs.RotatedRegions.{rotated_regions}
use Rattle.lsm_open.proofs.regions.Regions.rotated.Goals as goal

pub returns : goal.returns
returns g c =
    let new = c.open_least_free-open_region in
    rotated_regions (layout_of c.args.self.now) c.args.count (c.args.self.now.generation + 1) c.in_ok-closed.closed.items new.result c.in_ok-closed.ensures refl
    (new.ensures.least ∙ ap least_free c.deref.ensures.value) new.ensures.new_log
