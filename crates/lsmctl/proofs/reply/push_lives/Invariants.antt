use Rattle.std.proofs.Common.{◌≡◌, ◌++◌, drop, map, string_bytes}
use Rattle.lsm_lives.specs.Living.{told_by}
use Rattle.lsmctl.specs.Replies.{lives_text}
use Rattle.lsmctl.proofs.reply.push_lives.Given as goal

abbrev pub invariant-loop-life : goal.invariant-loop-life
invariant-loop-life l = string_bytes l.text ++ lives_text (map (λ t. t.items) (drop l.life-index l.told)) (told_by l.rest)
    ≡ string_bytes l.fn.text ++ lives_text (map (λ t. t.items) l.fn.told) (told_by l.fn.replies)
