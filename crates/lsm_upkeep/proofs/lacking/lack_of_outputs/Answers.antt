use Rattle.std.proofs.Common.{inl}
use Rattle.lsm_upkeep.proofs.Lacks.{step_fits}
use Rattle.lsm_upkeep.proofs.lacking.lack_of_outputs.Goals as goal

pub returns-then-has_room : goal.returns-then-has_room
returns-then-has_room g c = inl (step_fits c.args.store.now _ c.args.wanted c.standing.ensures.extents c.requires (c.has_room.ensures.few c.if-has_room.true) (c.has_room.ensures.room c.if-has_room.true))
