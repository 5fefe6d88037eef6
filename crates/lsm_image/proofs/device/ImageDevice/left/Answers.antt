use Rattle.std.proofs.Common.{◌≡◌, ◌++◌, map, take, drop}
use Rattle.lsm_device.specs.Disk.{kept}
use Rattle.lsm_image.specs.Laid.{write_of}
use Rattle.lsm_image.proofs.Begun.{left_is, left_image}
use Rattle.lsm_image.proofs.device.ImageDevice.left.Goals as goal

pub invariant_of-result : goal.invariant_of-result
invariant_of-result g c =
    let s = c.args.self.now in
    let laid : c.extend_from_slice.new.self.items ≡ s.laid.items ++ take s.standing s.made.items = rw (← c.deref-2.ensures.value, ← c.in_ok-laid.ensures.items, ← c.deref.ensures.value, ← c.split_at.ensures.front) c.in_ok-extend_from_slice.ensures.items in
    let after : map write_of c.add_kept.new.laid.items ≡ map write_of (s.laid.items ++ take s.standing s.made.items) ++ kept c.args.keep.now (map write_of (drop s.standing s.made.items)) =
    rw (← laid, ← c.deref.ensures.value, ← c.split_at.ensures.back) c.in_ok-add_kept.ensures in
    left_image s.base.now s.laid.items s.made.items s.standing s.is_image s.go_together c.args.keep.now c.add_kept.new.laid.items after

pub returns : goal.returns
returns g c =
    let s = c.args.self.now in
    let laid : c.extend_from_slice.new.self.items ≡ s.laid.items ++ take s.standing s.made.items = rw (← c.deref-2.ensures.value, ← c.in_ok-laid.ensures.items, ← c.deref.ensures.value, ← c.split_at.ensures.front) c.in_ok-extend_from_slice.ensures.items in
    let after : map write_of c.add_kept.new.laid.items ≡ map write_of (s.laid.items ++ take s.standing s.made.items) ++ kept c.args.keep.now (map write_of (drop s.standing s.made.items)) =
    rw (← laid, ← c.deref.ensures.value, ← c.split_at.ensures.back) c.in_ok-add_kept.ensures in
    left_is s.base.now s.laid.items s.made.items s.standing s.is_image s.go_together c.args.keep.now c.add_kept.new.laid.items after
