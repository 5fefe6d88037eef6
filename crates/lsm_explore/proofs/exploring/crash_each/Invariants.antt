use Rattle.std.proofs.Common.{◌≤◌, map, take, length}
use Rattle.lsm_device.specs.Disk.{image}
use Rattle.lsm_device.specs.Medium.{disk}
use Rattle.lsm_image.specs.Media.{medium_in}
use Rattle.lsm_explore.specs.Exploring.{AddsCrashes}
use Rattle.lsm_explore.proofs.exploring.crash_each.Given as goal

abbrev pub invariant-loop-mask : goal.invariant-loop-mask
invariant-loop-mask g l = record {
  within : l.mask-index ≤ length l.masks;
  adds : AddsCrashes (map (λ mask. image mask.items (disk (medium_in l.device))) (take l.mask-index l.masks)) l.twice l.fn.explored l.explored;
}
