use Rattle.std.proofs.Common.{sym, ◌∙◌, refl}
use Rattle.lsm_room.proofs.TrialGaps.{all_lower}
use Rattle.lsm_room.proofs.gaps.take_lowest.Goals as goal

pub returns-in-None : goal.returns-in-None
returns-in-None c = (all_lower c.args.blocks c.args.gaps.now (sym c.lowest_with.ensures ∙ c.in-None.is), refl)
