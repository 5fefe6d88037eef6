use Rattle.lsm_upkeep.proofs.Lacks.{flush_fits}
use Rattle.lsm_upkeep.proofs.lacking.flush_lack.Goals as goal

pub returns-then-has_room : goal.returns-then-has_room
returns-then-has_room g c = (
  c.requires,
  flush_fits c.args.store.now _ c.has_snapshots.result c.waiting.result c.flush_outputs-wanted.result c.standing.ensures.extents c.has_snapshots.ensures c.waiting.ensures.covers c.flush_outputs-wanted.ensures.takes
      (c.has_room.ensures.few c.if-has_room.true) (c.has_room.ensures.room c.if-has_room.true),
)
