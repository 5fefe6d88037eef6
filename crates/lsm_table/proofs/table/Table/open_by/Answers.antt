use Rattle.std.proofs.Common.{sym, ◌∙◌}
use Rattle.lsm_codec.proofs.Decoding.{found_some}
use Rattle.lsm_table.proofs.table.Table.open_by.Goals as goal

pub open_with-requires-clause-index : goal.open_with-requires-clause-index
open_with-requires-clause-index g c = (found_some c.in-Some.index c.decode.ensures.exact (sym c.in_ok-index.ensures.answer ∙ c.in-Some.is)).0
