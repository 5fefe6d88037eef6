use Rattle.std.proofs.Common.{◌≡◌, ◌<◌, ◌≤◌, [], drop, length, map, take, None, vec_capacity}
use Rattle.lsm_device.specs.Memory.{medium_in, fuse_in, failure_in}
use Rattle.lsm_lives.specs.Leading.{life_of, AreLed}
use Rattle.lsm_lives.specs.Living.{told_by, HavePlaces}
use Rattle.lsm_lives.proofs.living.live_each.Given as goal

abbrev pub invariant-loop-index : goal.invariant-loop-index
invariant-loop-index g l = record {
  have : HavePlaces (drop l.index l.lives) (drop l.index l.places.items);
  within : l.index ≤ length l.lives;
  none_built : l.results.items ≡ [];
  same_places : vec_capacity l.results ≡ vec_capacity l.fn.results;
  same_length : length l.places.items ≡ length l.lives;
  none : l.index ≡ 0 → l.device ≡ l.fn.device;
  disarmed : 0 < l.index → (fuse_in l.device ≡ None) × (failure_in l.device ≡ None);
  led : AreLed (map life_of (take l.index l.lives)) (medium_in l.fn.device) (told_by (take l.index l.places.items)) (medium_in l.device);
}
