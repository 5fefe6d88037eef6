use Rattle.std.proofs.Common.{List, [], ◌++◌, map, ap, sym, subst, ◌∙◌}
use Rattle.lsm_lives.specs.Asked.{Told}
use Rattle.lsm_lives.specs.declared.calls.Reply.{Reply as GivenReply}
use Rattle.lsm_lives.specs.Calls.{asked_of, told_of}
use Rattle.lsm_lives.specs.Replaying.{MakesEach}
use Rattle.lsm_lives.proofs.replaying.replay.Goals as goal

pub returns-clause-replays : goal.returns-clause-replays
returns-clause-replays g c =
    let adds = c.make_each.ensures.adds in
    let added = adds.added ∙ ap (λ (given : List (GivenReply g.row.A.Denot)). map told_of given ++ adds.more) c.in_ok-replies.ensures.items in
    subst (λ (told : List Told). MakesEach [] c.args.store.now (map asked_of c.args.steps.now) told c.make_each.new.store) (sym added) adds.makes
