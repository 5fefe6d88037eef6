use Rattle.std.proofs.Common.{◌≡◌, ℕ, List, Option, subst}
use Rattle.lsm_language.specs.Faults.{Reason}
use Rattle.lsmctl.specs.Answers.{TellsNumber}
use Rattle.lsmctl.proofs.calls.loaded_so.Goals as goal

-- with what the system said, the reason is the same
number_told : (rows : ℕ) (why told reason : Reason) (output output_after : Option (List ℕ)) → told ≡ why → TellsNumber rows told reason output output_after
    → TellsNumber rows why reason output output_after
number_told rows why told reason output output_after same tells = subst (λ (r : Reason). TellsNumber rows r reason output output_after) same tells

pub returns-in-Err-clause-fault : goal.returns-in-Err-clause-fault
returns-in-Err-clause-fault g c = (c.in-Err.fault, c.in-Err.is, number_told _ _ _ _ _ _ c.with_error-told.ensures c.told_first.ensures)
