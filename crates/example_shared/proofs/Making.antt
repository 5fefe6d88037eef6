-- The calls of a client, one after another.
use Rattle.std.proofs.Common.{◌≡◌, List, [], ◌∷◌, ◌++◌, ℕ, Bool, true, Result, Ok, Err, IfOk, ap, refl, sym, ◌∙◌, subst}
use Rattle.lsm_codec.specs.Guards.{Condition}
use Rattle.lsm_codec.specs.Map.{Operation}
use Rattle.lsm_device.specs.declared.refusal.Refusal.{Refusal}
use Rattle.lsm_machine.specs.Calls.{Call, Reply}
use Rattle.lsm_machine.specs.Calls.{Commit, CommitIf, Sync, Number, Done, Value, Rows, Given, Handed, Refused, Unread, as_told}
use Rattle.lsm_lives.specs.Asked.{Told, Replied}
use Rattle.lsm_trail.specs.History.{Event, called}
use Rattle.lsm_trail.specs.Knowledge.{Known}
use Rattle.lsm_shared.specs.Clients.{MakesCall}
use Rattle.example_shared.specs.Shares.{IsAnswer, Makes, HasRaised, HasStored, IsNumbered}

-- what is told of a reply is an answer where that is one
of_told : (reply : Reply) → IsAnswer (Replied (as_told reply)) → IsAnswer (Replied reply)
of_told (Number n) is = tt
of_told Done is = tt
of_told (Value v) is = tt
of_told (Rows page) is = tt
of_told (Given job) is = tt
of_told (Handed input) is = tt
of_told (Refused e) is = absurd is
of_told Unread is = absurd is

-- a call that was answered is one more call
pub makes : (c d : Known) (call : Call) (told : Told) → IsAnswer told → MakesCall c call told d → Makes c call d
makes c d call told answer made = record {
  number = made.adds.number;
  reply = made.reply;
  answered = of_told made.reply (subst IsAnswer made.told answer);
  machine = made.machine;
  mine = made.adds.mine;
}

-- what is told as a number is one
number_in : (reply : Reply) → IsNumbered (Replied (as_told reply)) → (n : ℕ) × (reply ≡ Number n)
number_in (Number n) is = (n, refl)
number_in Done is = absurd is
number_in (Value v) is = absurd is
number_in (Rows page) is = absurd is
number_in (Given job) is = absurd is
number_in (Handed input) is = absurd is
number_in (Refused e) is = absurd is
number_in Unread is = absurd is

-- a batch under guards that was answered with a number was added
pub raises : (c d : Known) (guards : List Condition) (batch : List Operation) (told : Told) → MakesCall c (CommitIf guards batch) told d → IsNumbered told → HasRaised d
raises c d guards batch told made is =
    let (n, same) = number_in made.reply (subst IsNumbered made.told is) in record {
      before = c.mine;
      guards = guards;
      batch = batch;
      number = n;
      machine = made.machine;
      mine = made.adds.mine ∙ (λ i. c.mine ++ called (sym made.adds.number i) (CommitIf guards batch) (same i) made.machine ∷ []);
    }

pub raises_if : (c d : Known) (guards : List Condition) (batch : List Operation) (told : Told) (r : Result Bool Refusal) → MakesCall c (CommitIf guards batch) told d
    → IfOk r (λ added. added ≡ true → IsNumbered told) → IfOk r (λ added. added ≡ true → HasRaised d)
raises_if c d guards batch told (Ok added) made given = λ is. raises c d guards batch told made (given is)
raises_if c d guards batch told (Err e) made given = tt

-- a commit and a sync of a client that had made no call
pub stores : (c d e : Known) (batch : List Operation) → c.mine ≡ [] → Makes c (Commit batch) d → Makes d Sync e → HasStored c batch e
stores c d e batch none first second =
    let committed : Event = called c.number (Commit batch) first.reply first.machine in
    let synced = λ (n : ℕ). called n Sync second.reply second.machine in (
      second.number ∙ first.number,
      record {
        committed = first.reply;
        synced = second.reply;
        answered = (first.answered, second.answered);
        machines = (first.machine, second.machine);
        are = second.mine ∙ ap (λ (xs : List Event). xs ++ synced d.number ∷ []) (first.mine ∙ ap (λ (xs : List Event). xs ++ committed ∷ []) none) ∙ ap (λ (n : ℕ). committed ∷ synced n ∷ []) first.number;
      },
    )
