use Rattle.std.proofs.Common.{◌≡◌, ◌≤◌, ◌+◌, take, length, map, vec_len, vec_capacity}
use Rattle.lsm_lives.specs.Calls.{reply_of}
use Rattle.corwaphi_lives.specs.Calls.{call_of}
use Rattle.corwaphi_lives.specs.Leading.{AddsReplies}
use Rattle.corwaphi_lives.proofs.living.serve_each.Given as goal

abbrev pub invariant-loop-call : goal.invariant-loop-call
invariant-loop-call g l = record {
  within : l.call-index ≤ length l.calls;
  length_is : vec_len l.replies ≡ vec_len l.fn.replies + l.call-index;
  capacity : vec_capacity l.replies ≡ vec_capacity l.fn.replies;
  adds : AddsReplies l.fn.db (map call_of (take l.call-index l.calls)) (map reply_of l.fn.replies.items) (map reply_of l.replies.items) l.db;
}
