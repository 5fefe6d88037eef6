use Rattle.std.proofs.Common.{refl, inl}
use Rattle.lsm_language.proofs.RowLaws.{no_row, says_utf8}
use Rattle.lsm_language.proofs.row.read_short.Goals as goal

pub returns-in-Ok : goal.returns-in-Ok
returns-in-Ok c = says_utf8 c.args.line.now _ _ c.in-Ok.ensures.cases.1 c.in-Ok.ensures.cases.0 c.row_in.ensures

pub returns-in-Err : goal.returns-in-Err
returns-in-Err c = inl (refl, no_row c.args.line.now c.in-Err.ensures.cases.0)
