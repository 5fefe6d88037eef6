use Rattle.std.proofs.Common.{sym, ◌∙◌}
use Rattle.lsm_extent.specs.Gaps.{gaps}
use Rattle.lsm_room.proofs.TrialGaps.{next}
use Rattle.lsm_room.proofs.gaps.gaps_of.Goals as goal

pub loop-place-preserved : goal.loop-place-preserved
loop-place-preserved g c =
    next (gaps c.args.extents.now) c.loop-place.found.items c.push_free.new.found.items c.loop-place.place c.in-Some.gap (sym c.gap.ensures ∙ c.in-Some.is) c.loop-place.invariant c.in_ok-push_free-in-Some.ensures
