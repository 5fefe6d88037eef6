use Rattle.lsm_levels.proofs.CursorBlocks.{from_within}
use Rattle.lsm_levels.proofs.cursor.RunCursor.found.Goals as goal

pub start-requires-clause-within : goal.start-requires-clause-within
start-requires-clause-within g c = rw (c.in_ok-cursor.ensures, c.from_key-blocks.ensures) (from_within (g.D.Device.medium c.args.device.now).size c.args.area c.args.from.now c.args.run.now c.requires)
