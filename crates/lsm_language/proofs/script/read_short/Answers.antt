use Rattle.std.proofs.Common.{refl, inl}
use Rattle.lsm_language.proofs.ScriptLaws.{utf8_reads}
use Rattle.lsm_language.proofs.TextLaws.{is_utf8-not}
use Rattle.lsm_language.proofs.script.read_short.Goals as goal

pub returns-in-Ok : goal.returns-in-Ok
returns-in-Ok c = utf8_reads c.args.text.now _ _ c.in-Ok.ensures.cases.1 c.in-Ok.ensures.cases.0 c.read_line.ensures

pub returns-in-Err : goal.returns-in-Err
returns-in-Err c = inl (refl, rw (is_utf8-not c.args.text.now c.in-Err.ensures.cases.0))
