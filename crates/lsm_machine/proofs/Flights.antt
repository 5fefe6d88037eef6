-- The batch in flight, if there is one.
use Rattle.std.proofs.Common.{◌≡◌, ◌≤◌, ◌⊎◌, inl, inr, ⊎_elim, List, [], ◌∷◌, ◌++◌, length, refl, sym, subst, ◌∙◌, arith}
use Rattle.std.proofs.lemmas.List.{append-nil}
use Rattle.lsm_codec.specs.Map.{Operation}
use Rattle.lsm_device.specs.declared.refusal.Refusal.TheVariants.{Io}
use Rattle.lsm_machine.specs.Calls.{Reply}
use Rattle.lsm_machine.specs.Calls.{Commit, CommitIf, Sync, SyncTo, Get, Scan, Snapshot, Release, Rotate, LogRoom, Number, Done, Value, Rows, Given, Handed, Refused, Unread}
use Rattle.lsm_machine.specs.Machine.{Machine, Step, Called, Worked}
use Rattle.lsm_machine.specs.Run.{next_machine, Run}
use Rattle.lsm_machine.specs.Promise.{in_flight}

-- a step stops the store with its batch in flight, or the steps after it decide what is in flight
flight_step : (step : Step) (reply : Reply)
    → ((steps : List Step) (replies : List Reply) → in_flight (step ∷ steps) (reply ∷ replies) ≡ in_flight steps replies)
    ⊎ ((batch : List Operation) × ((steps : List Step) (replies : List Reply) → in_flight (step ∷ steps) (reply ∷ replies) ≡ batch ∷ []))
flight_step (Called (Commit batch)) (Refused Io) = inr (batch, λ steps replies. refl)
flight_step (Called (Commit batch)) (Refused e) = inl (λ steps replies. refl)
flight_step (Called (Commit batch)) (Number n) = inl (λ steps replies. refl)
flight_step (Called (Commit batch)) Done = inl (λ steps replies. refl)
flight_step (Called (Commit batch)) (Value v) = inl (λ steps replies. refl)
flight_step (Called (Commit batch)) (Rows page) = inl (λ steps replies. refl)
flight_step (Called (Commit batch)) (Given job) = inl (λ steps replies. refl)
flight_step (Called (Commit batch)) (Handed input) = inl (λ steps replies. refl)
flight_step (Called (Commit batch)) Unread = inl (λ steps replies. refl)
flight_step (Called (CommitIf guards batch)) (Refused Io) = inr (batch, λ steps replies. refl)
flight_step (Called (CommitIf guards batch)) (Refused e) = inl (λ steps replies. refl)
flight_step (Called (CommitIf guards batch)) (Number n) = inl (λ steps replies. refl)
flight_step (Called (CommitIf guards batch)) Done = inl (λ steps replies. refl)
flight_step (Called (CommitIf guards batch)) (Value v) = inl (λ steps replies. refl)
flight_step (Called (CommitIf guards batch)) (Rows page) = inl (λ steps replies. refl)
flight_step (Called (CommitIf guards batch)) (Given job) = inl (λ steps replies. refl)
flight_step (Called (CommitIf guards batch)) (Handed input) = inl (λ steps replies. refl)
flight_step (Called (CommitIf guards batch)) Unread = inl (λ steps replies. refl)
flight_step (Called Sync) reply = inl (λ steps replies. refl)
flight_step (Called (SyncTo number)) reply = inl (λ steps replies. refl)
flight_step (Called (Get at key)) reply = inl (λ steps replies. refl)
flight_step (Called (Scan at from to limit)) reply = inl (λ steps replies. refl)
flight_step (Called Snapshot) reply = inl (λ steps replies. refl)
flight_step (Called (Release number)) reply = inl (λ steps replies. refl)
flight_step (Called Rotate) reply = inl (λ steps replies. refl)
flight_step (Called LogRoom) reply = inl (λ steps replies. refl)
flight_step (Worked piece) reply = inl (λ steps replies. refl)

-- at most one
pub one_in_flight : (steps : List Step) (replies : List Reply) → length (in_flight steps replies) ≤ 1
one_in_flight [] replies = omega arith
one_in_flight (Called (Commit batch) ∷ steps) [] = omega arith
one_in_flight (Called (CommitIf guards batch) ∷ steps) [] = omega arith
one_in_flight (Called Sync ∷ steps) [] = omega arith
one_in_flight (Called (SyncTo number) ∷ steps) [] = omega arith
one_in_flight (Called (Get at key) ∷ steps) [] = omega arith
one_in_flight (Called (Scan at from to limit) ∷ steps) [] = omega arith
one_in_flight (Called Snapshot ∷ steps) [] = omega arith
one_in_flight (Called (Release number) ∷ steps) [] = omega arith
one_in_flight (Called Rotate ∷ steps) [] = omega arith
one_in_flight (Called LogRoom ∷ steps) [] = omega arith
one_in_flight (Worked piece ∷ steps) [] = omega arith
one_in_flight (step ∷ steps) (reply ∷ replies) = ⊎_elim
    (λ same. subst (λ flight. length flight ≤ 1) (sym (same steps replies)) (one_in_flight steps replies))
    (λ stops. subst (λ flight. length flight ≤ 1) (sym (stops.1 steps replies)) (omega arith))
    (flight_step step reply)

-- one step more that isn't answered
pub record IsMore (flight last longer : List (List Operation)) : Type 0 where
  pub rest : List (List Operation)
  pub joined : longer ≡ flight ++ rest
  pub fresh : flight ≡ [] → rest ≡ last

pub flight_more : (m : Machine) (last : Step) (steps : List Step) (replies : List Reply) → Run m steps replies → IsMore (in_flight steps replies) (in_flight (last ∷ []) []) (in_flight (steps ++ last ∷ []) replies)
flight_more m last [] [] run = record { rest = in_flight (last ∷ []) []; joined = refl; fresh = λ _. refl }
flight_more m last [] (reply ∷ replies) run = absurd run
flight_more m last (step ∷ steps) [] run = absurd run
flight_more m last (step ∷ steps) (reply ∷ replies) run = ⊎_elim
    (λ same. subst (λ flight. IsMore flight (in_flight (last ∷ []) []) (in_flight (step ∷ steps ++ last ∷ []) (reply ∷ replies))) (sym (same steps replies))
    (subst (λ longer. IsMore (in_flight steps replies) (in_flight (last ∷ []) []) longer) (sym (same (steps ++ last ∷ []) replies)) (flight_more (next_machine m step reply) last steps replies run.1)))
    (λ stops. record {
      rest = [];
      joined = stops.1 (steps ++ last ∷ []) replies ∙ sym (stops.1 steps replies) ∙ sym (append-nil (in_flight (step ∷ steps) (reply ∷ replies)));
      fresh = λ none. absurd (no stops.0 (sym (stops.1 steps replies) ∙ none));
    })
    (flight_step step reply)
  where
    no : (batch : List Operation) → batch ∷ [] ≡ [] → ⊥
    no batch e = cc
