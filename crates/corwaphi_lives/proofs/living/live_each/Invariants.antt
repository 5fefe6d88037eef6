use Rattle.std.proofs.Common.{◌≡◌, ◌≤◌, drop, length, map, take}
use Rattle.lsm_device.specs.Memory.{medium_in}
use Rattle.lsm_lives.specs.Batches.{replies_by}
use Rattle.corwaphi_lives.specs.Leading.{life_of, AreLed, HavePlaces}
use Rattle.corwaphi_lives.proofs.living.live_each.Given as goal

abbrev pub invariant-loop-index : goal.invariant-loop-index
invariant-loop-index g l = record {
  have : HavePlaces (drop l.index l.lives) (drop l.index l.places.items);
  within : l.index ≤ length l.lives;
  same_length : length l.places.items ≡ length l.lives;
  led : AreLed (map life_of (take l.index l.lives)) (medium_in l.fn.device) (replies_by (take l.index l.places.items)) (medium_in l.device);
}
