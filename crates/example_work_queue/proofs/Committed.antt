-- What a commit under a guard comes to.
use Rattle.std.proofs.Common.{◌≡◌, ◌≢◌, ◌<◌, ◌+◌, ◌^◌, ℕ, zero, suc, Bool, true, false, true≢false, List, [], ◌∷◌, ◌++◌, Option, Some, None, Result, Ok, Err, inl, inr, refl, ap, sym, subst, ◌∙◌}
use Rattle.std.specs.Prelude.{IfErr, MatchResult, IsTrue, is_some, not, nat_lt, ◌==◌}
use Rattle.std.specs.FinMap as finite
use Rattle.lsm_codec.specs.Guards.{Condition, is_met, is_same_value}
use Rattle.lsm_codec.specs.Keys.{Bytes}
use Rattle.lsm_codec.specs.Map.{Map, Operation, apply}
use Rattle.lsm_codec.proofs.KeyOrder.{same_key}
use Rattle.lsm_device.specs.declared.refusal.Refusal.{Refusal}
use Rattle.lsm_device.specs.declared.refusal.Refusal.TheVariants.{Io, LogFull, Stopped, TooManyGuards, Exhausted, GuardFailed}
use Rattle.lsm_root.specs.CrashState.{last_number}
use Rattle.lsm_store.specs.Backing.{StoreView, IsBacked}
use Rattle.lsm_machine.specs.Calls.{Call, Reply, CommitIf, Get, Scan, Number, Done, Value, Rows, Given, Handed, Refused, Unread}
use Rattle.lsm_machine.specs.Effects.{reply_by}
use Rattle.lsm_machine.specs.Machine.{Step, Called, Worked}
use Rattle.lsm_machine.specs.RecoveryPoints.{batch_count, last_map, present_map}
use Rattle.lsm_machine.specs.Refusals.{first_refusal, full_refusal, most_guards}
use Rattle.lsm_machine.specs.Run.{next}
use Rattle.lsm_store.specs.Serving.{Serves, reply_in}
use Rattle.lsm_machine.specs.State.{State, fits}
use Rattle.lsm_store.specs.Working.{ServesStep}
use Rattle.lsm_machine.specs.declared.asked.At.TheVariants.{Now}
use Rattle.lsm_machine.proofs.Unrefused.{none_taken}
use Rattle.lsm_upkeep.specs.Steps.{UpkeepSteps, IsUpkept}
use Rattle.lsm_upkeep.specs.Writing.{EndsWith, Writes}
use Rattle.lsm_upkeep.proofs.Told.{is_number, last_map-append, number_told, refusal_told}
use Rattle.example_work_queue.specs.Tasks.{IsQueue, Claimed, claimed_key, last_key, number_of, status, waiting_key}
use Rattle.example_work_queue.specs.Deeds.{Adds, Claims, Deed, Does, Finishes, MayBeDone, batch_of}
use Rattle.example_work_queue.specs.Committing.{Asks, CommitsUnder, HasCommitted, HasCommittedUnder, HoldsQueue, IsQuestion, IsRefused, IsRefusedUnder, map_in}
use Rattle.example_work_queue.proofs.Doing.{claimed, claimed_by_row, does, is_claimed, is_waiting, waits_by_row}

-- ---- guards

same_value : (a b : Option Bytes) → is_same_value a b ≡ true → a ≡ b
same_value None None h = refl
same_value (Some a) (Some b) h = ap (λ (l : Bytes). let o : Option Bytes = Some l in o) (same_key a b h)
same_value None (Some b) h = absurd cc
same_value (Some a) None h = absurd cc

-- the guard of each deed is one that tells that it may be done
pub may_add : (row : Option Bytes) (number : ℕ) (task : Bytes) → number ≡ number_of row + 1 → number < 2 ^ 64
    → (m : Map) → IsQueue m → IsTrue (is_met m (record { key = last_key; value = row })) → MayBeDone m (Adds number task)
may_add row number task next small m q met = (next ∙ ap (λ (o : Option Bytes). number_of o + 1) (sym (same_value (finite.get m last_key) row met)), small)

pub may_claim : (number : ℕ) (task : Bytes) → number < 2 ^ 64
    → (m : Map) → IsQueue m → IsTrue (is_met m (record { key = waiting_key number; value = Some task })) → MayBeDone m (Claims number task)
may_claim number task small m q met = is_waiting m number task (waits_by_row m number task q small (same_value (finite.get m (waiting_key number)) (Some task) met))

pub may_finish : (number : ℕ) (task : Bytes) → number < 2 ^ 64
    → (m : Map) → IsQueue m → IsTrue (is_met m (record { key = claimed_key number; value = Some task })) → MayBeDone m (Finishes number)
may_finish number task small m q met = (task, is_claimed m number task (claimed_by_row m number task q small (same_value (finite.get m (claimed_key number)) (Some task) met)))

module _ (old new : StoreView) (told : Reply) (given : Condition) (batch : List Operation) (writes : Writes (Some (given ∷ [])) batch old told new) where
  under : (deed : Deed) (guard : Condition) → given ≡ guard → batch ≡ batch_of deed → ((m : Map) → IsQueue m → IsTrue (is_met m guard) → MayBeDone m deed) → CommitsUnder deed old told new
  under deed guard same is may = record {
    guard = guard;
    may = may;
    writes = subst (λ (b : List Operation). Writes (Some (guard ∷ [])) b old told new) is (subst (λ (c : Condition). Writes (Some (c ∷ [])) batch old told new) same writes);
  }

  pub adds_under : (row : Option Bytes) (last : ℕ) (task : Bytes) → last ≡ number_of row → last + 1 < 2 ^ 64 → given ≡ record { key = last_key; value = row } → batch ≡ batch_of (Adds (last + 1) task)
      → CommitsUnder (Adds (last + 1) task) old told new
  adds_under row last task read small same is = under (Adds (last + 1) task) (record { key = last_key; value = row }) same is (may_add row (last + 1) task (ap (λ (n : ℕ). n + 1) read) small)

  pub claims_under : (number : ℕ) (task : Bytes) → number < 2 ^ 64 → given ≡ record { key = waiting_key number; value = Some task } → batch ≡ batch_of (Claims number task)
      → CommitsUnder (Claims number task) old told new
  claims_under number task small same is = under (Claims number task) (record { key = waiting_key number; value = Some task }) same is (may_claim number task small)

  pub finishes_under : (number : ℕ) (task : Bytes) → number < 2 ^ 64 → given ≡ record { key = claimed_key number; value = Some task } → batch ≡ batch_of (Finishes number)
      → CommitsUnder (Finishes number) old told new
  finishes_under number task small same is = under (Finishes number) (record { key = claimed_key number; value = Some task }) same is (may_finish number task small)

-- ---- questions

asked_state : (s : State) (question : Call) (answer : Reply) → IsQuestion question → next s question answer ≡ s
asked_state s (Get Now key) (Refused Io) is = refl
asked_state s (Get Now key) (Refused other) is = refl
asked_state s (Get Now key) answer is = refl
asked_state s (Scan Now from to limit) (Refused Io) is = refl
asked_state s (Scan Now from to limit) (Refused other) is = refl
asked_state s (Scan Now from to limit) answer is = refl
asked_state s question answer is = absurd is

pub served : (inside old new : StoreView) (call : Call) (reply : Reply) → inside ≡ old → Serves inside call reply new → Serves old call reply new
served inside old new call reply is serves = subst (λ (s : StoreView). Serves s call reply new) is serves

pub asks_for : (old new : StoreView) (key : Bytes) (answer : Reply) → Serves old (Get Now key) answer new → Asks old new
asks_for old new key answer serves = record { question = Get Now key; is_question = tt; answer = answer; serves = serves }

pub asks_rows : (old new : StoreView) (from : Bytes) (to : Option Bytes) (limit : ℕ) (answer : Reply) → Serves old (Scan Now from to limit) answer new → Asks old new
asks_rows old new from to limit answer serves = record { question = Scan Now from to limit; is_question = tt; answer = answer; serves = serves }

pub asks_same : (old new : StoreView) → Asks old new → map_in new ≡ map_in old
asks_same old new a = ap (λ (s : State). present_map s.points) (a.serves.state ∙ asked_state old.state a.question a.answer a.is_question)

pub asks_holds : (old new : StoreView) → Asks old new → HoldsQueue old → HoldsQueue new
asks_holds old new a h = record { backed = a.serves.backed h.backed; queue = subst IsQueue (sym (asks_same old new a)) h.queue }

value_in : Reply → Option Bytes
value_in (Value found) = found
value_in other = None

told_value : (s : State) (key : Bytes) (row : Option Bytes) (refused : Option Refusal) → Value row ≡ reply_by s (Get Now key) refused → row ≡ finite.get (present_map s.points) key
unfolding value_in
told_value s key row None e = ap value_in e
told_value s key row (Some refusal) e = absurd cc

-- the row that was told is that of the map
pub told_row : (old asked : StoreView) (key : Bytes) (row : Option Bytes) → IsBacked old → Serves old (Get Now key) (Value row) asked → row ≡ finite.get (map_in old) key
told_row old asked key row backed serves = told_value old.state key row (full_refusal old.state (Get Now key)) (serves.allowed backed)

-- a task with no row is not claimed
pub unclaimed : (m : Map) (number : ℕ) (task : Bytes) → finite.get m (claimed_key number) ≡ None → status m number ≢ Claimed task
unclaimed m number task none is = some_none (sym (claimed m number task is).row ∙ none)
  where
    some_none : Some task ≡ None → ⊥
    some_none h = cc

-- ---- upkeep

step_backed : (old : StoreView) (step : Step) (reply : Reply) (new : StoreView) → ServesStep old step reply new → IsBacked old → IsBacked new
step_backed old (Called call) reply new serves backed = serves.backed backed
step_backed old (Worked piece) reply new works backed = works.backed backed

steps_backed : (n : ℕ) (old new : StoreView) → UpkeepSteps n old new → IsBacked old → IsBacked new
steps_backed zero old new e backed = subst IsBacked (sym e) backed
steps_backed (suc n) old new (mid, step, reply, is, serves, rest) backed = steps_backed n mid new rest (step_backed old step reply mid serves backed)

pub upkept_backed : (old new : StoreView) → IsUpkept old new → IsBacked old → IsBacked new
upkept_backed old new u backed = steps_backed u.count old new u.steps backed

-- ---- a commit under a guard

not_false : (b : Bool) → not b ≡ false → b ≡ true
not_false true h = refl
not_false false h = absurd cc

unrefused : (number : ℕ) (s : State) (call : Call) (refused : Option Refusal) → Number number ≡ reply_by s call refused → refused ≡ None
unrefused number s call None e = refl
unrefused number s call (Some refusal) e = absurd (true≢false (ap is_number e))

-- a commit that was answered has met its guard
guard_met : (s : State) (guard : Condition) (batch : List Operation) → full_refusal s (CommitIf (guard ∷ []) batch) ≡ None → IsTrue (is_met (present_map s.points) guard)
guard_met s guard batch none =
    let last = (not (is_met (present_map s.points) guard), GuardFailed 0) ∷ [] in
    let room = (not (fits s batch), LogFull) ∷ last in
    let count = (batch_count s.points == last_number, Exhausted) ∷ room in
    let few = (nat_lt most_guards 1, TooManyGuards) ∷ count in
    let one = (none_taken (is_some s.stopped) Stopped (first_refusal few) none).1 in
    let two = (none_taken (nat_lt most_guards 1) TooManyGuards (first_refusal count) one).1 in
    let three = (none_taken (batch_count s.points == last_number) Exhausted (first_refusal room) two).1 in
    let four = (none_taken (not (fits s batch)) LogFull (first_refusal last) three).1 in
    not_false (is_met (present_map s.points) guard) (none_taken (not (is_met (present_map s.points) guard)) (GuardFailed 0) None four).0

refused_map : (s : State) (guards : List Condition) (batch : List Operation) (e : Refusal) (after : State) → present_map (next s (CommitIf guards batch) (reply_in (CommitIf guards batch) after (Refused e))).points ≡ present_map s.points
refused_map s guards batch Io after = by (is_some after.stopped) refl
  where
    by : (b : Bool) → is_some after.stopped ≡ b → present_map (next s (CommitIf guards batch) (reply_in (CommitIf guards batch) after (Refused Io))).points ≡ present_map s.points
    by true e = rw e refl
    by false e = rw e refl
refused_map s guards batch other after = refl

module _ (deed : Deed) (old new : StoreView) where
  -- what it makes of the map
  pub committed : (number : ℕ) → CommitsUnder deed old (Number number) new → HoldsQueue old → MayBeDone (map_in old) deed × (map_in new ≡ apply (map_in old) (batch_of deed))
  committed number c h = by c.writes.ends
    where
      by : EndsWith (Some (c.guard ∷ [])) (batch_of deed) old c.writes.kept (Number number) new → MayBeDone (map_in old) deed × (map_in new ≡ apply (map_in old) (batch_of deed))
      by (inl (reply, serves, is)) =
          let kept = c.writes.kept in
          let call = CommitIf (c.guard ∷ []) (batch_of deed) in
          let served = subst (λ (r : Reply). Serves kept call (reply_in call new.state r) new) (number_told reply number is) serves in
          let backed = upkept_backed old kept c.writes.upkeep h.backed in
          let same : map_in kept ≡ map_in old = c.writes.upkeep.keeps.map in
          let met = guard_met kept.state c.guard (batch_of deed) (unrefused number kept.state call (full_refusal kept.state call) (served.allowed backed)) in (
            c.may (map_in old) h.queue (subst (λ (m : Map). IsTrue (is_met m c.guard)) same met),
            ap (λ (s : State). last_map s.points.first s.points.later) served.state ∙ last_map-append kept.state.points.first kept.state.points.later (apply (map_in kept) (batch_of deed))
                ∙ ap (λ (m : Map). apply m (batch_of deed)) same,
          )
      by (inr (so, wants, same)) = absurd (true≢false (ap is_number so))

  pub backs : (told : Reply) → CommitsUnder deed old told new → IsBacked old → IsBacked new
  backs told c backed = by c.writes.ends
    where
      by : EndsWith (Some (c.guard ∷ [])) (batch_of deed) old c.writes.kept told new → IsBacked new
      by (inl (reply, serves, is)) = serves.backed (upkept_backed old c.writes.kept c.writes.upkeep backed)
      by (inr (so, wants, same)) = subst IsBacked (sym same) (upkept_backed old c.writes.kept c.writes.upkeep backed)

  -- one that is refused leaves the map as it was
  pub refused_same : (e : Refusal) → CommitsUnder deed old (Refused e) new → map_in new ≡ map_in old
  refused_same e c = by c.writes.ends ∙ c.writes.upkeep.keeps.map
    where
      by : EndsWith (Some (c.guard ∷ [])) (batch_of deed) old c.writes.kept (Refused e) new → map_in new ≡ map_in c.writes.kept
      by (inl (reply, serves, is)) =
          let told = refusal_told reply e is in
          let call = CommitIf (c.guard ∷ []) (batch_of deed) in
          let served = subst (λ (r : Reply). Serves c.writes.kept call (reply_in call new.state r) new) told.1 serves in
          ap (λ (s : State). present_map s.points) served.state ∙ refused_map c.writes.kept.state (c.guard ∷ []) (batch_of deed) told.0 new.state
      by (inr (so, wants, same)) = ap map_in same

  pub has_done : HasCommittedUnder deed old new → HoldsQueue old → MayBeDone (map_in old) deed × Does deed (map_in old) (map_in new)
  has_done (number, c) h =
      let r = committed number c h in
      (r.0, subst (Does deed (map_in old)) (sym r.1) (does (map_in old) deed h.queue r.0))

-- ---- after a question

module _ (old asked new : StoreView) (asks : Asks old asked) where
  pub done_behind : (deed : Deed) → HasCommittedUnder deed asked new → HasCommitted deed old new
  done_behind deed (batch, c) = (batch, record { asked = asked; asks = asks; commits = c })

  pub refused_behind : (Meant : Deed → Type 0) (refusal : Refusal) → IsRefusedUnder Meant refusal asked new → IsRefused Meant refusal old new
  refused_behind Meant refusal (inl same) = inl (subst (Asks old) (sym same) asks)
  refused_behind Meant refusal (inr (deed, meant, c)) = inr (deed, meant, record { asked = asked; asks = asks; commits = c })

module _ (old new : StoreView) where
  pub done_does : (deed : Deed) → HasCommitted deed old new → HoldsQueue old → MayBeDone (map_in old) deed × Does deed (map_in old) (map_in new)
  done_does deed (batch, c) h =
      let same = asks_same old c.asked c.asks in
      subst (λ (m : Map). MayBeDone m deed × Does deed m (map_in new)) same (has_done deed c.asked new (batch, c.commits) (asks_holds old c.asked c.asks h))

  pub done_holds : (deed : Deed) → HasCommitted deed old new → HoldsQueue old → HoldsQueue new
  done_holds deed (batch, c) h = record {
    backed = backs deed c.asked new (Number batch) c.commits (asks_holds old c.asked c.asks h).backed;
    queue = (done_does deed (batch, c) h).1.queue;
  }

  pub refusal_same : (Meant : Deed → Type 0) (refusal : Refusal) → IsRefused Meant refusal old new → map_in new ≡ map_in old
  refusal_same Meant refusal (inl asks) = asks_same old new asks
  refusal_same Meant refusal (inr (deed, meant, c)) = refused_same deed c.asked new refusal c.commits ∙ asks_same old c.asked c.asks

  pub refusal_holds : (Meant : Deed → Type 0) (refusal : Refusal) → IsRefused Meant refusal old new → HoldsQueue old → HoldsQueue new
  refusal_holds Meant refusal (inl asks) h = asks_holds old new asks h
  refusal_holds Meant refusal (inr (deed, meant, c)) h = record {
    backed = backs deed c.asked new (Refused refusal) c.commits (asks_holds old c.asked c.asks h).backed;
    queue = subst IsQueue (sym (refusal_same Meant refusal (inr (deed, meant, c)))) h.queue;
  }

  -- of a result that is such a refusal
  pub err_same : {X : Type 0} (P : X → Type 0) (Meant : Deed → Type 0) (result : Result X Refusal) → MatchResult result P (λ refusal. IsRefused Meant refusal old new) → IfErr result (λ refusal. map_in new ≡ map_in old)
  err_same P Meant (Ok x) h = tt
  err_same P Meant (Err refusal) h = refusal_same Meant refusal h

  pub err_holds : {X : Type 0} (P : X → Type 0) (Meant : Deed → Type 0) (result : Result X Refusal) (refusal : Refusal) → result ≡ Err refusal → MatchResult result P (λ e. IsRefused Meant e old new)
      → HoldsQueue old → HoldsQueue new
  err_holds {X} P Meant result refusal is h = refusal_holds Meant refusal (subst (λ (r : Result X Refusal). MatchResult r P (λ e. IsRefused Meant e old new)) is h)
