-- What lives keep, one after another.
use Rattle.std.proofs.Common.{◌≤◌, ⊎_elim, ℕ, ◌+◌, List, [], ◌∷◌, ◌++◌, length, take, refl, ap, sym, subst, ◌∙◌, arith}
use Rattle.std.specs.Prelude.{Contains}
use Rattle.std.specs.FinMap as finite
use Rattle.std.proofs.lemmas.List.{length-append, length-take-le}
use Rattle.lsm_codec.specs.Map.{Operation, apply_all}
use Rattle.lsm_root.specs.CrashState.{CrashState, left_by_opening}
use Rattle.lsm_root.proofs.Openings.{one_opening}
use Rattle.lsm_machine.specs.Calls.{Reply}
use Rattle.lsm_machine.specs.Calls.{Number, Done, Value, Rows, Given, Handed, Refused, Unread}
use Rattle.lsm_machine.specs.Machine.{Step}
use Rattle.lsm_machine.specs.Promise.{accepted, acknowledged, in_flight, IsAfterBeginning}
use Rattle.lsm_machine.specs.Lives.{Life, KeptByLife, IsAfter, PromiseOverLives}
use Rattle.lsm_root.proofs.Beginnings.{apply_all-append}
use Rattle.lsm_machine.proofs.Promises.{promise}
use Rattle.lsm_jobs.proofs.Sectors.{take_past}

-- what a life keeps
record IsKeptBy (before : List (List Operation)) (steps : List Step) (replies : List Reply) (left : CrashState) : Type 0 where
  pub kept : List (List Operation)
  pub by_life : KeptByLife before steps replies kept
  pub after : IsAfter kept left

module _ (before : List (List Operation)) (opened : CrashState) (was : IsAfter before opened) where
  from_beginning : (n : ℕ) (steps : List Step) (replies : List Reply) (left : CrashState) → IsAfterBeginning opened (accepted steps replies ++ in_flight steps replies) (acknowledged opened.count steps replies) left
      → IsKeptBy before steps (Number n ∷ replies) left
  from_beginning n steps replies left h =
      let more = accepted steps replies ++ in_flight steps replies in
      let within : length before + h.holds ≤ length (before ++ more) = rw length-append (omega (arith, h.among)) in
      let known : acknowledged (length before) steps replies ≤ h.holds = subst (λ k. acknowledged k steps replies ≤ h.holds) was.count h.at_least in
      record {
        kept = take (length before + h.holds) (before ++ more);
        by_life = record { holds = length before + h.holds; at_least = omega (arith, known); among = within; is = refl };
        after = record {
          count = h.count ∙ ap (λ k. k + h.holds) was.count ∙ sym (length-take-le (length before + h.holds) (before ++ more) within);
          same_map = h.same_map ∙ ap (λ m. apply_all m (take h.holds more)) was.same_map
              ∙ sym (apply_all-append finite.empty before (take h.holds more)) ∙ ap (apply_all finite.empty) (sym (take_past before more h.holds));
        };
      }

  same_after : (left : CrashState) → Contains (left_by_opening opened) left → IsAfter before left
  same_after left found = ⊎_elim
      (λ same. subst (IsAfter before) (sym same) was)
      (λ next. subst (IsAfter before) (sym next.0) (record { count = was.count; same_map = was.same_map }))
      (one_opening opened left found)

  one_life : (log_sectors : ℕ) (steps : List Step) (replies : List Reply) (left : CrashState) → Life log_sectors opened [] steps replies left → IsKeptBy before steps replies left
  one_life log_sectors steps (Number n ∷ replies) left life = from_beginning n steps replies left ((promise log_sectors opened life.machine steps replies life.answered.2.state life.answered.3).between left life.crash)
  one_life log_sectors steps (Refused e ∷ replies) left life = record { kept = before; by_life = refl; after = same_after left life.crash }
  one_life log_sectors steps [] left life = absurd life.answered
  one_life log_sectors steps (Done ∷ replies) left life = absurd life.answered
  one_life log_sectors steps (Value v ∷ replies) left life = absurd life.answered
  one_life log_sectors steps (Rows page ∷ replies) left life = absurd life.answered
  one_life log_sectors steps (Given job ∷ replies) left life = absurd life.answered
  one_life log_sectors steps (Handed input ∷ replies) left life = absurd life.answered
  one_life log_sectors steps (Unread ∷ replies) left life = absurd life.answered

pub promise_over_lives : PromiseOverLives
promise_over_lives log_sectors before opened [] [] left was same = (before, (refl, same, subst (IsAfter before) (sym same) was))
promise_over_lives log_sectors before opened (steps ∷ lives) (replies ∷ rest) left was (mid, life, later) =
    let first = one_life before opened was log_sectors steps replies mid life in
    let then = promise_over_lives log_sectors first.kept mid lives rest left first.after later in
    (then.0, (first.kept, mid, record { opens = was; life = life; keeps = first.by_life }, then.1))
promise_over_lives log_sectors before opened [] (replies ∷ rest) left was h = absurd h
promise_over_lives log_sectors before opened (steps ∷ lives) [] left was h = absurd h
