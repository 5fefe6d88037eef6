-- What is told of steps that a store makes.
use Rattle.std.proofs.Common.{◌≡◌, ◌≢◌, ℕ, Bool, true, false, not, cond, List, [], ◌∷◌, Option, Some, None, is_some, is_none, refl, sym, subst, ◌∙◌, ap}
use Rattle.std.specs.Prelude.{IsNone, ◌+◌, nat_lt, option_map}
use Rattle.std.proofs.lemmas.Bool.{false≢true}
use Rattle.lsm_device.specs.declared.refusal.Refusal.{Refusal}
use Rattle.lsm_device.specs.declared.refusal.Refusal.TheVariants.{NoMemory, Io, BadTable, Stopped, NoSuchJob, WrongState, ForeignResult, Exhausted, NoSpace}
use Rattle.lsm_jobs.specs.Slots.{Slot, is_frozen, is_not_at}
use Rattle.lsm_merge.specs.Inputs.{MergeInput}
use Rattle.lsm_merge.specs.Results.{MergeResult}
use Rattle.lsm_root.specs.CrashState.{last_number}
use Rattle.lsm_store.specs.Backing.{StoreView, machine_of}
use Rattle.lsm_machine.specs.Calls.{Call, Reply, taken_reply}
use Rattle.lsm_machine.specs.Calls.{Commit, CommitIf, Sync, SyncTo, Get, Scan, Snapshot, Release, Rotate, LogRoom, Number, Done, Value, Rows, Given, Handed, Refused, Unread, as_told}
use Rattle.lsm_machine.specs.Machine.{Machine, Step, Called}
use Rattle.lsm_store.specs.Serving.{Serves, reply_in}
use Rattle.lsm_machine.specs.State.{State}
use Rattle.lsm_machine.specs.Refusals.{first_refusal}
use Rattle.lsm_machine.specs.Work.{Ask, Accept}
use Rattle.lsm_machine.specs.WorkRefusals.{held, of_slot, is_own, tables_made, placing, work_refusal}
use Rattle.lsm_machine.specs.WorkReplies.{work_reply_by, work_decided}
use Rattle.lsm_store.specs.Working.{Works, ServesStep}
use Rattle.lsm_lives.specs.Calls.{reply_of, told_of}
use Rattle.lsm_lives.specs.declared.calls.Reply.{Reply as GivenReply}
use Rattle.lsm_lives.specs.declared.calls.Reply.TheVariants as given
use Rattle.lsm_machine.proofs.CrashStates.{IsAnswer}
use Rattle.lsm_machine.proofs.WorkReplies.{answered_unrefused}
use Rattle.lsm_store.proofs.Works.{works_refused}
use Rattle.lsm_lives.specs.Asked.{Asked, Told, Own, AcceptBuilt, Replied, result_of, IsTold}
use Rattle.lsm_lives.specs.Replaying.{Makes}

-- what is told of a reply that is not to a read of guards is the reply
told_plain : {A : Type 0} (answer : GivenReply A) (reply : Reply) → told_of answer ≡ Replied reply → as_told reply ≡ reply
told_plain (given.Number n) reply is = let same : Number n ≡ reply = cc in subst (λ (r : Reply). as_told r ≡ r) same refl
told_plain given.Done reply is = let same : Done ≡ reply = cc in subst (λ (r : Reply). as_told r ≡ r) same refl
told_plain (given.Value value) reply is = let same : Value (option_map (λ v. v.items) value) ≡ reply = cc in subst (λ (r : Reply). as_told r ≡ r) same refl
told_plain (given.Page page) reply is = let same : Rows page ≡ reply = cc in subst (λ (r : Reply). as_told r ≡ r) same refl
told_plain (given.Taken job) reply is = let same : taken_reply job ≡ reply = cc in subst (λ (r : Reply). as_told r ≡ r) same refl
told_plain (given.Built result tables) reply is = absurd cc
told_plain (given.Refused e) reply is = let same : Refused e ≡ reply = cc in subst (λ (r : Reply). as_told r ≡ r) same refl

-- and so it is of what a call was told
told_called : (call : Call) (s : State) (reply : Reply) → as_told reply ≡ reply → as_told (reply_in call s reply) ≡ reply
told_called (CommitIf guards batch) s (Refused Io) plain = by (is_some s.stopped)
  where
    by : (b : Bool) → as_told (cond b (Refused Io) Unread) ≡ Refused Io
    by true = refl
    by false = refl
told_called (CommitIf guards batch) s (Refused e) plain = plain
told_called (CommitIf guards batch) s (Number n) plain = plain
told_called (CommitIf guards batch) s Done plain = plain
told_called (CommitIf guards batch) s (Value v) plain = plain
told_called (CommitIf guards batch) s (Rows page) plain = plain
told_called (CommitIf guards batch) s (Given job) plain = plain
told_called (CommitIf guards batch) s (Handed input) plain = plain
told_called (CommitIf guards batch) s Unread plain = plain
told_called (Commit batch) s reply plain = plain
told_called Sync s reply plain = plain
told_called (SyncTo number) s reply plain = plain
told_called (Get at key) s reply plain = plain
told_called (Scan at from to limit) s reply plain = plain
told_called Snapshot s reply plain = plain
told_called (Release number) s reply plain = plain
told_called Rotate s reply plain = plain
told_called LogRoom s reply plain = plain

-- what is told of a call is what is told of its reply
pub called_told : {A : Type 0} (answer : GivenReply A) (call : Call) (s : State) → told_of answer ≡ Replied (reply_of answer) → told_of answer ≡ Replied (as_told (reply_in call s (reply_of answer)))
called_told answer call s is = is ∙ sym (ap Replied (told_called call s (reply_of answer) (told_plain answer (reply_of answer) is)))

-- what is told of a step of the store's own, and of an accept by a number, is what the store replied
module _ {A : Type 0} (results : List MergeResult) (old new : StoreView) (asked : Asked) (answer : GivenReply A) (reply : Reply) (is : told_of answer ≡ Replied reply) where
  pub makes_own : (step : Step) → asked ≡ Own step → ServesStep old step reply new → Makes results old asked (told_of answer) results new
  makes_own step same serves =
      subst (λ (a : Asked). Makes results old a (told_of answer) results new) (sym same)
      (record { reply = reply; serves = serves; told = subst (λ (t : Told). IsTold results (Own step) t reply results) (sym is) (refl, told_plain answer reply is) })

  -- of a call, with the reply of which that was told
  pub makes_called : (call : Call) → asked ≡ Own (Called call) → Serves old call (reply_in call new.state reply) new → Makes results old asked (told_of answer) results new
  makes_called call same serves =
      let shown = reply_in call new.state reply in
      subst (λ (a : Asked). Makes results old a (told_of answer) results new) (sym same)
      (record { reply = shown; serves = serves; told = subst (λ (t : Told). IsTold results (Own (Called call)) t shown results) (sym is) (refl, told_called call new.state reply (told_plain answer reply is)) })

  pub makes_accept : (job number : ℕ) → asked ≡ AcceptBuilt job number → (lent : List MergeResult) → lent ≡ results → Works old (Accept job (result_of number lent)) reply new → Makes results old asked (told_of answer) results new
  makes_accept job number same lent all works =
      subst (λ (a : Asked). Makes results old a (told_of answer) results new) (sym same)
      (record {
        reply = reply;
        serves = subst (λ (l : List MergeResult). Works old (Accept job (result_of number l)) reply new) all works;
        told = subst (λ (t : Told). IsTold results (AcceptBuilt job number) t reply results) (sym is) (refl, told_plain answer reply is);
      })

-- ---- an accept of a result that was not built

some_none : (e : Refusal) → Some e ≡ None → ⊥
some_none e is = cc

none_some : (e : Refusal) → None ≡ Some e → ⊥
none_some e is = cc

-- where a job's input is lent the result is foreign, and else both are refused alike
refused_alike : (stopped absent unfrozen foreign : Bool) (rest : List (Bool × Refusal)) → (absent ≡ false → foreign ≡ true)
    → let ask = cond stopped (Some Stopped) (first_refusal ((absent, NoSuchJob) ∷ (unfrozen, WrongState) ∷ [])) in
    let accept = cond stopped (Some Stopped) (first_refusal ((absent, NoSuchJob) ∷ (unfrozen, WrongState) ∷ (foreign, ForeignResult) ∷ rest)) in
    (ask ≡ None → accept ≡ Some ForeignResult) × ((e : Refusal) → ask ≡ Some e → accept ≡ Some e)
refused_alike true absent unfrozen foreign rest own = (λ none. absurd (some_none Stopped none), λ e is. is)
refused_alike false true unfrozen foreign rest own = (λ none. absurd (some_none NoSuchJob none), λ e is. is)
refused_alike false false true foreign rest own = (λ none. absurd (some_none WrongState none), λ e is. is)
refused_alike false false false foreign rest own = (λ none. ap (λ (b : Bool). cond b (Some ForeignResult) (first_refusal rest)) (own refl), λ e is. absurd (none_some e is))

not_own : (o : Option Slot) → is_none o ≡ false → of_slot false (λ slot. not (is_own slot None)) o ≡ true
not_own None is = absurd (false≢true (sym is))
not_own (Some slot) is = refl

-- an input is lent or none is, where nothing refuses
lends : (o : Option Slot) → IsAnswer (of_slot Done (λ slot. Handed slot.input) o)
lends None = tt
lends (Some slot) = tt

-- a refusal that the machine decides is that of its list
refused_decided : (m : Machine) (job : ℕ) (e : Refusal) → Refused e ≡ work_decided m (Ask job) → work_refusal m (Ask job) ≡ Some e
refused_decided m job e is = by (work_refusal m (Ask job)) refl is
  where
    by : (o : Option Refusal) → work_refusal m (Ask job) ≡ o → Refused e ≡ work_reply_by m (Ask job) o → work_refusal m (Ask job) ≡ Some e
    by None none same = absurd (subst IsAnswer (sym same) (lends (held m job)))
    by (Some x) some same = let one : x ≡ e = cc in some ∙ ap Some one

module _ (s : StoreView) (job : ℕ) where
  abbrev m : Machine
  m = machine_of s

  alike : (work_refusal m (Ask job) ≡ None → work_refusal m (Accept job None) ≡ Some ForeignResult) × ((e : Refusal) → work_refusal m (Ask job) ≡ Some e → work_refusal m (Accept job None) ≡ Some e)
  alike = refused_alike (is_some s.state.stopped) (is_none (held m job)) (is_not_at is_frozen (held m job)) (of_slot false (λ slot. not (is_own slot None)) (held m job))
      ((nat_lt (last_number + 1) (m.work.next_table + tables_made None), Exhausted) ∷ (is_none (placing m.work None), NoSpace) ∷ []) (not_own (held m job))

  none_is : IsNone (work_refusal m (Ask job)) → work_refusal m (Ask job) ≡ None
  none_is none = by (work_refusal m (Ask job)) none
    where
      by : (o : Option Refusal) → IsNone o → o ≡ None
      by None is = refl
      by (Some e) is = absurd (no e is)
        where
          no : (x : Refusal) → IsNone (Some x) → ⊥
          no x h = cc

  foreign : work_refusal m (Ask job) ≡ None → Works s (Accept job None) (Refused ForeignResult) s
  foreign none = works_refused s (Accept job None) ForeignResult (alike.0 none)

  -- of a store that lent the input
  pub lent_foreign : (input : MergeInput) → Works s (Ask job) (Handed input) s → Works s (Accept job None) (Refused ForeignResult) s
  lent_foreign input works = foreign (answered_unrefused m (Ask job) (Handed input) tt works.admitted).0

  -- of one that refused to, so or for want of memory
  pub refused_foreign : (e told : Refusal) → Works s (Ask job) (Refused e) s → (e ≡ NoMemory → told ≡ ForeignResult) → (e ≢ NoMemory → told ≡ e) → Works s (Accept job None) (Refused told) s
  refused_foreign NoMemory told works wanting other = subst (λ (r : Refusal). Works s (Accept job None) (Refused r) s) (sym (wanting refl)) (foreign (none_is works.admitted))
  refused_foreign Io told works wanting other = absurd (works.admitted.1 refl)
  refused_foreign BadTable told works wanting other = absurd works.admitted
  refused_foreign e told works wanting other = subst (λ (r : Refusal). Works s (Accept job None) (Refused r) s) (sym (other (λ is. cc))) (works_refused s (Accept job None) e (alike.1 e (refused_decided m job e works.admitted)))
