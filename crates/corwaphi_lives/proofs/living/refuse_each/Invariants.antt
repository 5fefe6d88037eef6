use Rattle.std.proofs.Common.{◌≡◌, ◌≤◌, ◌+◌, ◌++◌, length, map, take, vec_len, vec_capacity}
use Rattle.lsm_device.specs.declared.refusal.Refusal.TheVariants.{Stopped}
use Rattle.lsm_machine.specs.Calls.{Refused}
use Rattle.lsm_lives.specs.Calls.{reply_of}
use Rattle.corwaphi_lives.specs.Calls.{call_of}
use Rattle.corwaphi_lives.proofs.living.refuse_each.Given as goal

abbrev pub invariant-loop-call : goal.invariant-loop-call
invariant-loop-call l = record {
  within : l._call-index ≤ length l.calls;
  length_is : vec_len l.replies ≡ vec_len l.fn.replies + l._call-index;
  capacity : vec_capacity l.replies ≡ vec_capacity l.fn.replies;
  added : map reply_of l.replies.items ≡ map reply_of l.fn.replies.items ++ map (λ _. Refused Stopped) (map call_of (take l._call-index l.calls));
}
