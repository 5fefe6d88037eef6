use Rattle.std.proofs.Common.{◌≡◌, ◌++◌, drop, map, string_bytes}
use Rattle.lsm_lives.specs.Calls.{told_of}
use Rattle.lsmctl.specs.Replies.{replies_text}
use Rattle.lsmctl.proofs.reply.push_replies.Given as goal

abbrev pub invariant-loop-step : goal.invariant-loop-step
invariant-loop-step l = string_bytes l.text ++ replies_text (drop l.step-index l.told) (map told_of l.rest) ≡ string_bytes l.fn.text ++ replies_text l.fn.told (map told_of l.fn.replies)
