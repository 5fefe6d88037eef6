use Rattle.std.proofs.Common.{refl}
use Rattle.lsm_table.proofs.Reading.{bad_only}
use Rattle.lsm_table.proofs.entries.Entries.bad.Goals as goal

pub returns : goal.returns
returns c = bad_only _ refl
