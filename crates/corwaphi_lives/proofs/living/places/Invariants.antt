use Rattle.std.proofs.Common.{◌≤◌, length, take}
use Rattle.corwaphi_lives.specs.Leading.{HavePlaces}
use Rattle.corwaphi_lives.proofs.living.places.Given as goal

abbrev pub invariant-loop-life : goal.invariant-loop-life
invariant-loop-life l = record {
  within : l.life-index ≤ length l.lives;
  have : HavePlaces (take l.life-index l.lives) l.places.items;
}
