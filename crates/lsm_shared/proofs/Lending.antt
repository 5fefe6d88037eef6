-- A result that is brought is of the input that was lent under its number.
use Rattle.std.proofs.Common.{◌≡◌, ◌⊎◌, ℕ, suc, ◌+◌, ◌==◌, Bool, true, false, Option, Some, List, [], ◌∷◌, ◌++◌, length, if◌then◌else◌, refl, ap, sym, ◌∙◌, subst, inl, inr, ⊎_elim, arith, append_assoc}
use Rattle.std.specs.Prelude.{Contains, slice_get, IfOk, IfErr, Result, Ok, Err}
use Rattle.std.proofs.lemmas.List.Elements.{Contains-append_left, Contains-append_right, Contains-append_cases, Contains-push, Contains-push_cases}
use Rattle.lsm_device.specs.declared.refusal.Refusal.{Refusal}
use Rattle.lsm_lives.specs.Asked.{Told}
use Rattle.lsm_merge.specs.Inputs.{MergeInput, kept_of}
use Rattle.lsm_merge.specs.Results.{MergeResult}
use Rattle.lsm_machine.specs.Calls.{Call, Reply}
use Rattle.lsm_machine.specs.Calls.{Handed}
use Rattle.lsm_machine.specs.Machine.{Worked}
use Rattle.lsm_machine.specs.Work.{Accept}
use Rattle.lsm_merge.specs.Divisions.{AreTablesAt}
use Rattle.lsm_trail.specs.Begins.{Begin}
use Rattle.lsm_trail.specs.History.{Event, lent_to, handed, inputs_of, input_of, IsMadeOf, IsNextNumber, TakesResult, AreNumbered, IsLegal, entries_by}
use Rattle.lsm_trail.specs.Knowledge.{SessionId, Known}
use Rattle.lsm_store.specs.Backing.{StoreView}
use Rattle.lsm_shared.specs.Clients.{MakesCall, IsNoCall}
use Rattle.lsm_shared.specs.Sessions.{SessionView, HasSeen}
use Rattle.lsm_shared.specs.Turns.{WasLent}
use Rattle.lsm_machine.proofs.Membership.{none_in}

-- what is in a list is the first of it, or after it
first_or : {X : Type 0} (y : X) (ys : List X) (x : X) → Contains (y ∷ ys) x → (y ≡ x) ⊎ Contains ys x
first_or y ys x found = ⊎_elim
    (λ (here : Contains (y ∷ []) x). ⊎_elim (λ (none : Contains [] x). absurd (none_in x none)) (λ (is : y ≡ x). inl is) (Contains-push_cases [] y x here))
    (λ (there : Contains ys x). inr there)
    (Contains-append_cases (y ∷ []) ys x found)

-- a client's entries are among all
among_all : (c : ℕ) (log : List Event) (e : Event) → Contains (entries_by c log) e → Contains log e
among_all c [] e found = found
among_all c (x ∷ log) e found = by (x.client == c) found (among_all c log e)
  where
    by : (b : Bool) → Contains (if b then x ∷ entries_by c log else entries_by c log) e → (Contains (entries_by c log) e → Contains log e) → Contains (x ∷ log) e
    by true found behind = ⊎_elim
        (λ (is : x ≡ e). Contains-append_left (x ∷ []) log e (subst (Contains (x ∷ [])) is (Contains-push [] x)))
        (λ (later : Contains (entries_by c log) e). Contains-append_right (x ∷ []) log e (behind later))
        (first_or x (entries_by c log) e found)
    by false found behind = Contains-append_right (x ∷ []) log e (behind found)

at_end : (inputs more : List MergeInput) (input : MergeInput) → slice_get (inputs ++ input ∷ more) (length inputs) ≡ Some input
at_end [] more input = refl
at_end (x ∷ inputs) more input = at_end inputs more input

numbered_here : (inputs more : List MergeInput) (input : MergeInput) (number : ℕ) → number ≡ length inputs + 1 → input_of number (inputs ++ input ∷ more) ≡ Some input
numbered_here inputs more input number is =
    let next : number ≡ suc (length inputs) = omega (arith, is) in
    ap (λ (n : ℕ). input_of n (inputs ++ input ∷ more)) next ∙ at_end inputs more input

-- an input that was lent is that of its number
lent_found : (inputs : List MergeInput) (log : List Event) (e : Event) (input : MergeInput) → AreNumbered inputs log → e.reply ≡ Handed input → Contains log e → input_of e.result (inputs ++ inputs_of log) ≡ Some input
lent_found inputs [] e input numbered lent found = absurd (none_in e found)
lent_found inputs (x ∷ log) e input (next, takes, rest) lent found = ⊎_elim
    (λ (is : x ≡ e).
    let reply : x.reply ≡ Handed input = ap (λ (y : Event). y.reply) is ∙ lent in
    let number = subst (λ (r : Reply). IsNextNumber inputs r x.result) reply next in
    subst (λ (n : ℕ). input_of n (inputs ++ inputs_of (x ∷ log)) ≡ Some input) (ap (λ (y : Event). y.result) is)
    (subst (λ (r : Reply). input_of x.result (inputs ++ (handed r ++ inputs_of log)) ≡ Some input) (sym reply) (numbered_here inputs (inputs_of log) input x.result number)))
    (λ (later : Contains log e).
    ap (input_of e.result) (sym (append_assoc inputs (handed x.reply) (inputs_of log))) ∙ lent_found (inputs ++ handed x.reply) log e input rest lent later)
    (first_or x log e found)

-- so an accept may take what was built of it
pub may_take : (b : Begin) (log : List Event) (number job result : ℕ) (mine : List Event) (made : MergeResult) → IsLegal b log → entries_by number log ≡ mine → WasLent mine job result made.input → AreTablesAt made.divisions (kept_of made.input) made.images
    → TakesResult (inputs_of log) (Worked (Accept job (Some made))) result
may_take b log number job result mine made legal own lent tables =
    let e = lent_to lent.client job made.input result lent.machine in
    let found = among_all number log e (subst (λ (l : List Event). Contains l e) (sym own) lent.among) in
    subst (λ (o : Option MergeInput). IsMadeOf o (Some made)) (sym (lent_found [] log e made.input legal.numbered refl found)) (refl, tables)

-- the same where the parts of the session are known
pub may_take_was : (id : SessionId) (store : StoreView) (log : List Event) (old : SessionView) (c : Known) → record { store = store; log = log } ≡ old → IsLegal id.begin log → HasSeen id old c → (made : MergeResult) {job result : ℕ} → WasLent c.mine job result made.input → AreTablesAt made.divisions (kept_of made.input) made.images
    → TakesResult (inputs_of log) (Worked (Accept job (Some made))) result
may_take_was id store log old c was legal seen made {job} {result} lent tables =
    may_take id.begin log c.number job result c.mine made legal (ap (λ (v : SessionView). entries_by c.number v.log) was ∙ seen.finds.knows.own) lent tables

-- what was lent may be brought also after a call
lent_then : (mine entries all : List Event) (job result : ℕ) (input : MergeInput) → all ≡ mine ++ entries → WasLent mine job result input → WasLent all job result input
lent_then mine entries all job result input is lent = record {
  client = lent.client;
  machine = lent.machine;
  among = subst (λ (l : List Event). Contains l (lent_to lent.client job input result lent.machine)) (sym is) (Contains-append_left mine entries (lent_to lent.client job input result lent.machine) lent.among);
}

pub lent_after_call : {T : Type 0} (res : Result T Refusal) (f : T → Told) (c d : Known) (call : Call) (job result : ℕ) (input : MergeInput) → IfOk res (λ r. MakesCall c call (f r) d) → IfErr res (λ e. IsNoCall c call e d)
    → WasLent c.mine job result input → WasLent d.mine job result input
lent_after_call (Ok r) f c d call job result input made refused lent = lent_then c.mine _ d.mine job result input made.adds.mine lent
lent_after_call (Err e) f c d call job result input made refused lent = subst (λ (l : List Event). WasLent l job result input) (sym refused.0.mine) lent
