use Rattle.std.proofs.Common.{sym, ◌∙◌}
use Rattle.lsm_image.proofs.Begun.{starts_image, starts_together, starts_fuse, starts_medium}
use Rattle.lsm_image.proofs.image.Image.device.Goals as goal

pub invariant_of-result : goal.invariant_of-result
invariant_of-result g c =
    let s = c.self.inside in
    record {
      is_image = starts_image s.base.now s.laid.items c.in_ok-laid.laid.items (c.in_ok-laid.ensures.items ∙ c.deref.ensures.value) c.self.invariant;
      go_together = starts_together s.base.now s.laid.items c.in_ok-laid.laid.items (c.in_ok-laid.ensures.items ∙ c.deref.ensures.value) c.new.result.items c.new.ensures.items c.self.invariant;
      keeps_fuse = starts_fuse c.args.fuse;
    }

pub returns : goal.returns
returns g c =
    let s = c.self.inside in
    starts_medium s.base.now s.laid.items c.in_ok-laid.laid.items (c.in_ok-laid.ensures.items ∙ c.deref.ensures.value) c.new.result.items c.args.fuse c.args.self.now (sym c.self.view_is) c.new.ensures.items
