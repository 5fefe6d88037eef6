use Rattle.lsm_room.proofs.TrialGaps.{long_enough, takes}
use Rattle.lsm_room.proofs.gaps.take_at.Goals as goal

pub overflow_sub-gaps : goal.overflow_sub-gaps
overflow_sub-gaps c = long_enough c.args.blocks c.args.gaps.now c.args.place (record { first = 0; blocks = 0 }) c.requires

pub returns : goal.returns
returns c = takes c.args.blocks c.args.gaps.now c.args.place (record { first = 0; blocks = 0 }) c.saturating_add.result c.requires c.saturating_add.ensures
