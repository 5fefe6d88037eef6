-- What comes of a request that prints nothing before its answer.
use Rattle.std.proofs.Common.{◌≡◌, ℕ, List, Option, Result, Ok, Err, refl, subst, sym}
use Rattle.std.specs.Prelude.{IfErr, IfOk}
use Rattle.lsm_device.specs.declared.refusal.Refusal.{Refusal}
use Rattle.lsm_language.specs.declared.program_error.ProgramError.{ProgramError}
use Rattle.lsm_language.specs.Faults.{IsRefusalBy, reason_of}
use Rattle.lsm_language.specs.declared.request.Request.{Request}
use Rattle.lsmctl.specs.Answers.{Comes}
use Rattle.lsmctl.specs.Refusing.{FaultsWith}
use Rattle.lsmctl.specs.declared.answer.Answer.{Answer}

-- an answer
pub comes_silent : (Gives : Answer → Type 0) (output : Option (List ℕ)) (result : Result Answer ProgramError) → IfOk result Gives → IfOk result (λ answer. Gives answer × (output ≡ output))
comes_silent Gives output (Ok answer) gives = (gives, refl)
comes_silent Gives output (Err fault) gives = tt

-- or a refusal
pub faults_silent : (May : Refusal → Type 0) (output : Option (List ℕ)) (result : Result Answer ProgramError) → IfErr result (λ e. IsRefusalBy May (reason_of e))
    → IfErr result (λ e. IsRefusalBy May (reason_of e) × (output ≡ output))
faults_silent May output (Ok answer) refused = tt
faults_silent May output (Err fault) refused = (refused, refl)

-- to the request that it is
pub comes_when : (request made : Request) (input output : Option (List ℕ)) (result : Result Answer ProgramError) → request ≡ made
    → IfOk result (λ answer. Comes made input output output answer) → IfOk result (λ answer. Comes request input output output answer)
comes_when request made input output result is comes = subst (λ (r : Request). IfOk result (λ answer. Comes r input output output answer)) (sym is) comes

pub faults_when : (request made : Request) (input output : Option (List ℕ)) (result : Result Answer ProgramError) → request ≡ made
    → IfErr result (λ e. FaultsWith made input (reason_of e) output output) → IfErr result (λ e. FaultsWith request input (reason_of e) output output)
faults_when request made input output result is faults = subst (λ (r : Request). IfErr result (λ e. FaultsWith r input (reason_of e) output output)) (sym is) faults
