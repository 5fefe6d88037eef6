use Rattle.std.proofs.Common.{drop_of_length-le, le_of_eq, drop}
use Rattle.lsm_table.proofs.Reading.{nothing_left}
use Rattle.lsm_table.proofs.entry_place.EntryPlace.end.Goals as goal

pub returns : goal.returns
returns c = nothing_left (drop 4096 c.args.block.now) (drop_of_length-le c.args.block.now (le_of_eq c.told-block))
