use Rattle.lsm_merge.proofs.DivisionLaws.{division_law}
use Rattle.lsm_merge.proofs.law.a_division_keeps_the_entries.Goals as goal

pub returns : goal.returns
returns c = division_law
