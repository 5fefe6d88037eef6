use Rattle.std.proofs.Common.{sym}
use Rattle.lsm_upkeep.proofs.Lacks.{reckoned}
use Rattle.lsm_upkeep.proofs.lacking.lack_of_choice.Goals as goal

pub lack_of_outputs-requires : goal.lack_of_outputs-requires
lack_of_outputs-requires g c =
    reckoned c.args.store.now _ _ _ c.args.choice c.in-Some.wanted c.standing.ensures.levels c.standing.ensures.held c.standing.ensures.live (sym c.in-Some.ensures.may) c.in-Some.ensures.takes
