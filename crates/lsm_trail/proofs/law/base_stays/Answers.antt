use Rattle.lsm_trail.proofs.Bases.{base_live, base_map}
use Rattle.lsm_trail.proofs.law.base_stays.Goals as goal

pub returns-clause-live : goal.returns-clause-live
returns-clause-live c = λ b log. base_live b log

pub returns-clause-map : goal.returns-clause-map
returns-clause-map c = λ b log. base_map b log
