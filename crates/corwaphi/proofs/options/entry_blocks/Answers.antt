use Rattle.corwaphi.proofs.Room.{room}
use Rattle.corwaphi.proofs.options.entry_blocks.Goals as goal

pub returns-clause-room : goal.returns-clause-room
returns-clause-room c = room c.args.rows c.args.entry c.requires.some c.requires.small
