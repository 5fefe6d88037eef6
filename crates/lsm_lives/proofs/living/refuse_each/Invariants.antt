use Rattle.std.proofs.Common.{◌≡◌, ◌≤◌, ◌+◌, ◌++◌, length, map, take, vec_len, vec_capacity}
use Rattle.lsm_lives.specs.Asked.{told_stopped}
use Rattle.lsm_lives.specs.Calls.{asked_of, told_of}
use Rattle.lsm_lives.proofs.living.refuse_each.Given as goal

abbrev pub invariant-loop-step : goal.invariant-loop-step
invariant-loop-step g l = record {
  within : l._step-index ≤ length l.steps;
  length_is : vec_len l.replies ≡ vec_len l.fn.replies + l._step-index;
  capacity : vec_capacity l.replies ≡ vec_capacity l.fn.replies;
  added : map told_of l.replies.items ≡ map told_of l.fn.replies.items ++ told_stopped (map asked_of (take l._step-index l.steps));
}
