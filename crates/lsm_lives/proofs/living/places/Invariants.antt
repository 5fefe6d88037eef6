use Rattle.std.proofs.Common.{◌≤◌, length, take}
use Rattle.lsm_lives.specs.Living.{HavePlaces}
use Rattle.lsm_lives.proofs.living.places.Given as goal

abbrev pub invariant-loop-life : goal.invariant-loop-life
invariant-loop-life g l = record {
  within : l.life-index ≤ length l.lives;
  have : HavePlaces (take l.life-index l.lives) l.places.items;
}
