-- Histories, with one entry more.
use Rattle.std.proofs.Common.{◌≡◌, ◌≢◌, ℕ, ◌+◌, ◌≤◌, ◌==◌, Bool, true, false, is_some, None, List, [], ◌∷◌, ◌++◌, length, if◌then◌else◌, refl, ap, sym, ◌∙◌, subst, arith, append_assoc, length-append, eq-eqb, ne_eqb}
use Rattle.std.specs.Prelude.{IsNone}
use Rattle.std.proofs.lemmas.List.{append-nil}
use Rattle.std.proofs.lemmas.List.Elements.{All-push}
use Rattle.lsm_device.specs.declared.refusal.Refusal.TheVariants.{NoMemory}
use Rattle.lsm_merge.specs.Inputs.{MergeInput}
use Rattle.lsm_machine.specs.Calls.{Reply}
use Rattle.lsm_machine.specs.Calls.{Release, Number, Done, Value, Rows, Given, Handed, Refused, Unread}
use Rattle.lsm_machine.specs.Machine.{Machine, Step, Called}
use Rattle.lsm_machine.specs.Run.{AllowsStep, AdmitsStep, GoesTo, next_machine, Run, last_machine}
use Rattle.lsm_machine.specs.State.{State}
use Rattle.lsm_machine.proofs.Steps.{stopped_run, stopped_last}
use Rattle.lsm_trail.specs.Begins.{Begin, base_of, first_machine, CanPin}
use Rattle.lsm_trail.specs.Following.{MayFollow}
use Rattle.lsm_trail.specs.History.{Event, steps_of, replies_of, machine_behind, AreServed, AreRun, handed, inputs_of, IsNextNumber, TakesResult, AreNumbered, IsLegal, machine_after, entries_by, is_call, is_lent, calls_in}
use Rattle.lsm_lives.proofs.Steps.{not_some}

-- the machine after these entries, as the replies tell it
abbrev told_behind : Machine → List Event → Machine
told_behind m log = last_machine m (steps_of log) (replies_of log)

run_more : (m : Machine) (log : List Event) (e : Event) → Run m (steps_of log) (replies_of log) → AllowsStep (told_behind m log) e.step e.reply → Run m (steps_of (log ++ e ∷ [])) (replies_of (log ++ e ∷ []))
run_more m [] e run may = (may, tt)
run_more m (x ∷ log) e run may = (run.0, run_more (next_machine m x.step x.reply) log e run.1 may)

told_more : (m : Machine) (log : List Event) (e : Event) → told_behind m (log ++ e ∷ []) ≡ next_machine (told_behind m log) e.step e.reply
told_more m [] e = refl
told_more m (x ∷ log) e = told_more (next_machine m x.step x.reply) log e

pub behind_more : (m : Machine) (log : List Event) (e : Event) → machine_behind m (log ++ e ∷ []) ≡ e.machine
behind_more m [] e = refl
behind_more m (x ∷ log) e = behind_more x.machine log e

pub after_more : (b : Begin) (log : List Event) (e : Event) → machine_after b (log ++ e ∷ []) ≡ e.machine
after_more b log e = behind_more (first_machine b) log e

served_more : (m : Machine) (log : List Event) (e : Event) → AreServed m log → AdmitsStep (machine_behind m log) e.step e.reply → GoesTo (machine_behind m log) e.step e.reply e.machine → AreServed m (log ++ e ∷ [])
served_more m [] e served may goes = (may, goes, tt)
served_more m (x ∷ log) e (first, on, rest) may goes = (first, on, served_more x.machine log e rest may goes)

-- ---- where the device backs the state

-- Two machines in one state, with one work while it runs, allow the same step, and go on alike.
record GoAlike (m n : Machine) (step : Step) (reply : Reply) (end : Machine) : Type 0 where
  allows : AllowsStep n step reply
  state : end.state ≡ (next_machine n step reply).state
  work : IsNone end.state.stopped → end.work ≡ (next_machine n step reply).work

module _ (m n end : Machine) (step : Step) (reply : Reply) (same : m.state ≡ n.state) (alike : IsNone m.state.stopped → m.work ≡ n.work) (allows : AllowsStep m step reply)
    (goes : end.state ≡ (next_machine m step reply).state) (on : IsNone end.state.stopped → end.work ≡ (next_machine m step reply).work) where
  go_alike : GoAlike m n step reply end
  go_alike = by (is_some m.state.stopped) refl
    where
      by : (b : Bool) → is_some m.state.stopped ≡ b → GoAlike m n step reply end
      by false none =
          let is : m ≡ n = λ i. record { state = same i; work = alike none i } in
          record {
            allows = subst (λ (x : Machine). AllowsStep x step reply) is allows;
            state = goes ∙ ap (λ (x : Machine). (next_machine x step reply).state) is;
            work = λ running. on running ∙ ap (λ (x : Machine). (next_machine x step reply).work) is;
          }
      by true some =
          let too = ap (λ (s : State). is_some s.stopped) (sym same) ∙ some in
          let run : Run n (step ∷ []) (reply ∷ []) = stopped_run m n some too (step ∷ []) (reply ∷ []) (allows, tt) in
          let here : next_machine m step reply ≡ m = stopped_last m some (step ∷ []) (reply ∷ []) (allows, tt) in
          let there : next_machine n step reply ≡ n = stopped_last n too (step ∷ []) (reply ∷ []) run in
          let state : end.state ≡ m.state = goes ∙ ap (λ (x : Machine). x.state) here in
          record {
            allows = run.0;
            state = state ∙ same ∙ ap (λ (x : Machine). x.state) (sym there);
            work = λ running. absurd (not_some m.state.stopped some (ap (λ (s : State). is_some s.stopped) (sym state) ∙ running));
          }

are_run_more : (m : Machine) (log : List Event) (e : Event) → AreRun m log → AllowsStep (machine_behind m log) e.step e.reply
    → e.machine.state ≡ (next_machine (machine_behind m log) e.step e.reply).state
    → (IsNone e.machine.state.stopped → e.machine.work ≡ (next_machine (machine_behind m log) e.step e.reply).work) → AreRun m (log ++ e ∷ [])
are_run_more m log e are allows goes on =
    let alike = go_alike (machine_behind m log) (told_behind m log) e.machine e.step e.reply are.state are.work allows goes on in
    let here = behind_more m log e in
    let there = told_more m log e in
    record {
      run = run_more m log e are.run alike.allows;
      state = ap (λ (x : Machine). x.state) here ∙ alike.state ∙ ap (λ (x : Machine). x.state) (sym there);
      work = λ running. ap (λ (x : Machine). x.work) here ∙ alike.work (subst (λ (x : Machine). IsNone x.state.stopped) here running) ∙ ap (λ (x : Machine). x.work) (sym there);
    }

-- ---- results of builds

pub inputs_more : (log : List Event) (e : Event) → inputs_of (log ++ e ∷ []) ≡ inputs_of log ++ handed e.reply
inputs_more [] e = append-nil (handed e.reply)
inputs_more (x ∷ log) e = ap (λ (l : List MergeInput). handed x.reply ++ l) (inputs_more log e) ∙ sym (append_assoc (handed x.reply) (inputs_of log) (handed e.reply))

numbered_more : (inputs : List MergeInput) (log : List Event) (e : Event) → AreNumbered inputs log → IsNextNumber (inputs ++ inputs_of log) e.reply e.result → TakesResult (inputs ++ inputs_of log) e.step e.result
    → AreNumbered inputs (log ++ e ∷ [])
numbered_more inputs [] e numbered next takes =
    let none = append-nil inputs in
    (subst (λ (l : List MergeInput). IsNextNumber l e.reply e.result) none next, subst (λ (l : List MergeInput). TakesResult l e.step e.result) none takes, tt)
numbered_more inputs (x ∷ log) e (one, other, rest) next takes =
    let joined = sym (append_assoc inputs (handed x.reply) (inputs_of log)) in (
      one,
      other,
      numbered_more (inputs ++ handed x.reply) log e rest
          (subst (λ (l : List MergeInput). IsNextNumber l e.reply e.result) joined next)
          (subst (λ (l : List MergeInput). TakesResult l e.step e.result) joined takes),
    )

-- ---- legal histories

pub legal_none : (b : Begin) → CanPin b → IsLegal b []
legal_none b pinned = record {
  pinned = pinned;
  served = tt;
  run = λ backed. record { run = tt; state = refl; work = λ running. refl };
  numbered = tt;
  made = λ k d below. absurd (omega arith);
  taken = λ k d below. absurd (omega arith);
  keeps_base = λ k d below. absurd (omega arith);
}

pub legal_more : (b : Begin) (log : List Event) (e : Event) → IsLegal b log → MayFollow b log e → IsLegal b (log ++ e ∷ [])
legal_more b log e legal may = record {
  pinned = legal.pinned;
  served = served_more (first_machine b) log e legal.served may.admitted may.goes;
  run = λ backed. are_run_more (first_machine b) log e (legal.run backed) (may.allowed backed) may.goes.state (may.work backed);
  numbered = numbered_more [] log e legal.numbered may.next may.takes;
  made = All-push (λ (x : Event). x.reply ≢ Refused NoMemory) log e legal.made may.made;
  taken = All-push (λ (x : Event). x.reply ≢ Given None) log e legal.taken may.taken;
  keeps_base = All-push (λ (x : Event). x.step ≢ Called (Release (base_of b))) log e legal.keeps_base may.keeps;
}

-- ---- counts, and the entries of one client

pub calls_more : (log : List Event) (e : Event) → calls_in (log ++ e ∷ []) ≡ calls_in log + (if is_call e.step then 1 else 0)
calls_more [] e = omega arith
calls_more (x ∷ log) e = omega (arith, calls_more log e)

one_lent : (reply : Reply) → length (handed reply) ≡ (if is_lent reply then 1 else 0)
one_lent (Handed input) = refl
one_lent (Number n) = refl
one_lent Done = refl
one_lent (Value v) = refl
one_lent (Rows page) = refl
one_lent (Given job) = refl
one_lent (Refused e) = refl
one_lent Unread = refl

pub lent_more : (log : List Event) (e : Event) → length (inputs_of (log ++ e ∷ [])) ≡ length (inputs_of log) + (if is_lent e.reply then 1 else 0)
lent_more log e = omega (arith, ap length (inputs_more log e), length-append (inputs_of log) (handed e.reply), one_lent e.reply)

few : (b : Bool) → (if b then 1 else 0) ≤ 1
few true = omega arith
few false = omega arith

-- no more of them than there are entries
pub few_calls : (log : List Event) → calls_in log ≤ length log
few_calls [] = omega arith
few_calls (e ∷ log) = omega (arith, few (is_call e.step), few_calls log)

pub few_lent : (log : List Event) → length (inputs_of log) ≤ length log
few_lent [] = omega arith
few_lent (e ∷ log) = omega (arith, few (is_lent e.reply), one_lent e.reply, length-append (handed e.reply) (inputs_of log), few_lent log)

keeps_or : (b : Bool) (x : Event) (ks bs ms : List Event) → ks ≡ bs ++ ms → (if b then x ∷ ks else ks) ≡ (if b then x ∷ bs else bs) ++ ms
keeps_or true x ks bs ms e = ap (λ l. x ∷ l) e
keeps_or false x ks bs ms e = e

pub entries_by-mine : (c : ℕ) (log : List Event) (e : Event) → e.client ≡ c → entries_by c (log ++ e ∷ []) ≡ entries_by c log ++ e ∷ []
entries_by-mine c [] e is = rw (eq-eqb e.client c is) refl
entries_by-mine c (x ∷ log) e is = keeps_or (x.client == c) x (entries_by c (log ++ e ∷ [])) (entries_by c log) (e ∷ []) (entries_by-mine c log e is)

pub entries_by-other : (c : ℕ) (log : List Event) (e : Event) → e.client ≢ c → entries_by c (log ++ e ∷ []) ≡ entries_by c log
entries_by-other c [] e not = rw (ne_eqb e.client c not) refl
entries_by-other c (x ∷ log) e not = ap (λ l. if x.client == c then x ∷ l else l) (entries_by-other c log e not)
