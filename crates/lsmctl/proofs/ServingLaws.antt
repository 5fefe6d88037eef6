-- How a serving ends.
use Rattle.std.proofs.Common.{◌≡◌, ℕ, true, false, List, Option, Result, Ok, Err, inl, inr, refl, sym, subst}
use Rattle.std.specs.Prelude.{IfErr, IfOk, is_some}
use Rattle.lsm_device.specs.declared.refusal.Refusal.{Refusal}
use Rattle.lsm_device.specs.declared.refusal.Refusal.TheVariants.{NoMemory, Stopped}
use Rattle.lsm_language.specs.declared.program_error.ProgramError.{ProgramError}
use Rattle.lsm_language.specs.Faults.{IsRefusalBy, Reason, refusal, reason_of}
use Rattle.lsm_open.specs.Recovering.{IsOpeningRefusal}
use Rattle.lsm_serve.specs.Serving.{IsServed}
use Rattle.lsm_store.specs.Backing.{StoreView}
use Rattle.lsmctl.specs.declared.answer.Answer.{Answer}
use Rattle.lsmctl.specs.declared.answer.Output.TheVariants.{Served}
use Rattle.lsmctl.specs.Answers.{Hands, HasServed, OfOpened, TellsServed, WasOpened}
use Rattle.lsmctl.proofs.RefusedLaws.{memory_opening, told_as}

-- no store was opened
pub unopened_serves : (reason : Reason) (input output : Option (List ℕ)) → IsRefusalBy IsOpeningRefusal reason → TellsServed input reason output output
unopened_serves reason input output is = inl (is, refl)

-- there was no memory for a reader
pub no_reader : (e : Refusal) (reason : Reason) (input output : Option (List ℕ)) → e ≡ NoMemory → reason ≡ refusal e → TellsServed input reason output output
no_reader e reason input output none is = inl (told_as IsOpeningRefusal e reason is (memory_opening e none), refl)

-- lines were answered up to a fault
pub served_to : (store after : StoreView) (fault : ProgramError) (reason : Reason) (input lines output output_after : Option (List ℕ)) → WasOpened store → lines ≡ input
    → IsServed lines (Err fault) store after output output_after → reason ≡ reason_of fault → TellsServed input reason output output_after
served_to store after fault reason input lines output output_after opened same s is = inr (inl record {
  store = store;
  after = after;
  fault = fault;
  opened = opened;
  serves = subst (λ (i : Option (List ℕ)). IsServed i (Err fault) store after output output_after) same s;
  same = sym is;
})

-- or all of them, and the store was synced
pub served_answers : (store after : StoreView) (input lines output output_after : Option (List ℕ)) (result : Result Answer ProgramError) → WasOpened store → lines ≡ input
    → IsServed lines (Ok tt) store after output output_after
    → IfOk result (λ answer. (answer.output ≡ Served) × Hands answer.file after.device × (is_some after.state.stopped ≡ false))
    → IfOk result (OfOpened (HasServed input output output_after))
served_answers store after input lines output output_after (Err fault) opened same s ends = tt
served_answers store after input lines output output_after (Ok answer) opened same s (told, hands, runs) = record {
  store = store;
  after = after;
  opened = opened;
  tells = record {
    serves = subst (λ (i : Option (List ℕ)). IsServed i (Ok tt) store after output output_after) same s;
    runs = runs;
    told = told;
  };
  hands = hands;
}

-- or it was stopped meanwhile
pub served_refuses : (store after : StoreView) (input lines output output_after : Option (List ℕ)) (result : Result Answer ProgramError) → WasOpened store → lines ≡ input
    → IsServed lines (Ok tt) store after output output_after → IfErr result (λ e. (reason_of e ≡ refusal Stopped) × (is_some after.state.stopped ≡ true))
    → IfErr result (λ e. TellsServed input (reason_of e) output output_after)
served_refuses store after input lines output output_after (Ok answer) opened same s ends = tt
served_refuses store after input lines output output_after (Err fault) opened same s (is, stopped) = inr (inr record {
  store = store;
  after = after;
  opened = opened;
  serves = subst (λ (i : Option (List ℕ)). IsServed i (Ok tt) store after output output_after) same s;
  stopped = stopped;
  is = is;
})
