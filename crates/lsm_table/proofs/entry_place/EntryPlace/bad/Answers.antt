use Rattle.std.proofs.Common.{drop_of_length-le, le_of_eq, drop}
use Rattle.lsm_table.proofs.Reading.{bad_only}
use Rattle.lsm_table.proofs.entry_place.EntryPlace.bad.Goals as goal

pub returns : goal.returns
returns c = bad_only (drop 4096 c.args.block.now) (drop_of_length-le c.args.block.now (le_of_eq c.told-block))
