use Rattle.lsmctl.proofs.LoadingLaws.{loads_behind, refuses_behind}
use Rattle.lsmctl.proofs.calls.keep_and_load.Goals as goal

pub returns-clause-refused : goal.returns-clause-refused
returns-clause-refused g c = refuses_behind _ c.load_rows.result _ _ c.keep.ensures.keeps c.load_rows.ensures.refused

pub returns-clause-loads : goal.returns-clause-loads
returns-clause-loads g c = loads_behind _ c.load_rows.result _ _ _ c.keep.ensures.keeps c.keep.ensures.upkept.keeps c.load_rows.ensures.loads
