use Rattle.std.proofs.Common.{◌≤◌, length, take}
use Rattle.lsm_lives.proofs.Lifetimes.{HaveRoom}
use Rattle.lsm_lives.proofs.living.most_steps.Given as goal

abbrev pub invariant-loop-life : goal.invariant-loop-life
invariant-loop-life g l = record {
  within : l.life-index ≤ length l.lives;
  have : HaveRoom l.most (take l.life-index l.lives);
}
