-- What a store reaches by steps: its recovery points are beginnings of the accepted batches.
use Rattle.std.proofs.Common.{◌≡◌, ◌≤◌, ◌⊎◌, inl, inr, ⊎_elim, ℕ, ◌+◌, Bool, true, false, cond, List, [], ◌∷◌, ◌++◌, length, Option, Some, None, is_some, is_none, refl, ap, sym, subst, ◌∙◌, arith}
use Rattle.std.specs.Prelude.{nat_le, IsSome}
use Rattle.std.specs.List.{AllByRecursion}
use Rattle.std.proofs.lemmas.Bool.{false≢true}
use Rattle.std.proofs.lemmas.List.{append_assoc, append-nil, length-append}
use Rattle.lsm_codec.specs.Map.{Map, Operation}
use Rattle.lsm_device.specs.Refusals.{is_no_fault}
use Rattle.lsm_device.specs.declared.refusal.Refusal.{Refusal}
use Rattle.lsm_device.specs.declared.refusal.Refusal.TheVariants.{Io, Stopped}
use Rattle.lsm_jobs.specs.Slots.{Slot}
use Rattle.lsm_levels.specs.Pick.{is_flush}
use Rattle.lsm_root.specs.CrashState.{CrashState}
use Rattle.lsm_machine.specs.RecoveryPoints.{RecoveryPoint, RecoveryPoints, with_batch, all_synced, batch_count, present_map}
use Rattle.lsm_machine.specs.State.{State}
use Rattle.lsm_machine.specs.Calls.{Call, Reply}
use Rattle.lsm_machine.specs.Calls.{Commit, CommitIf, Sync, SyncTo, Get, Scan, Snapshot, Release, Rotate, LogRoom, Number, Done, Value, Rows, Given, Handed, Refused, Unread}
use Rattle.lsm_machine.specs.Refusals.{full_refusal}
use Rattle.lsm_machine.specs.Effects.{answer, after, decided, completed, reply_by, state_by, Use, use_of, use_first, installed}
use Rattle.lsm_machine.specs.Effects.{Untouched, Reads, Changes}
use Rattle.lsm_machine.specs.Crash.{last_crash_state, left_besides}
use Rattle.lsm_machine.specs.Machine.{Machine, Step, Called, Worked}
use Rattle.lsm_machine.specs.Run.{Allows, after_fault, next, AllowsStep, next_machine, Run, last_machine}
use Rattle.lsm_machine.specs.Promise.{accepted_by, accepted, acknowledged_by, acknowledged_from, in_flight, beginnings}
use Rattle.lsm_machine.specs.Work.{Work, Take, Read, Ask, Accept, Write, Install, Drop}
use Rattle.lsm_machine.specs.WorkEffects.{work_answer, state_after, work_use}
use Rattle.lsm_machine.specs.WorkRefusals.{held, of_slot, work_refusals, running_refusal, work_refusal}
use Rattle.lsm_machine.specs.WorkReplies.{work_decided, WorkAllows, work_left_besides, after_work_fault}
use Rattle.lsm_machine.proofs.Accounts.{first_not}
use Rattle.lsm_machine.proofs.CrashStates.{IsAnswer}
use Rattle.lsm_machine.proofs.GuardReads.{unread_reads}
use Rattle.lsm_machine.proofs.Points.{present_synced, with_batch_beginnings, all_synced_beginnings}
use Rattle.lsm_machine.proofs.Running.{decided_goes}
use Rattle.lsm_machine.proofs.Steps.{admits_step, step_stopped, step_stays, stopped_last}
use Rattle.lsm_machine.proofs.Unrefused.{none_taken}
use Rattle.lsm_machine.proofs.WorkReplies.{answered_unrefused, goes_by_answer, never_unread}

-- all batches are left
abbrev pub IsPresent : State → CrashState → Type 0
IsPresent s left = (left.count ≡ batch_count s.points) × (left.map ≡ present_map s.points)

-- so a crash after a sync leaves it
synced_present : (s : State) → IsPresent s (last_crash_state (after s Sync))
synced_present s = (ap (λ (p : RecoveryPoint). p.count) (present_synced s.points), refl)

-- and so does one after each call that adds no batch
pub call_present : (s : State) (call : Call) → in_flight (Called call ∷ []) [] ≡ [] → IsPresent s (last_crash_state (after s call))
call_present s (Commit batch) adds = absurd (omega (arith, ap length adds))
call_present s (CommitIf guards batch) adds = absurd (omega (arith, ap length adds))
call_present s Sync adds = synced_present s
call_present s (SyncTo number) adds = by (nat_le number s.points.synced)
  where
    by : (b : Bool) → IsPresent s (last_crash_state (cond b s (record s { points = all_synced s.points })))
    by true = (refl, refl)
    by false = synced_present s
call_present s (Get at key) adds = (refl, refl)
call_present s (Scan at from to limit) adds = (refl, refl)
call_present s Snapshot adds = (refl, refl)
call_present s (Release number) adds = (refl, refl)
call_present s Rotate adds = synced_present s
call_present s LogRoom adds = (refl, refl)

-- and so does one after an install
install_present : (s : State) (o : Option Slot) → IsPresent s (last_crash_state (of_slot s (λ slot. installed (is_flush slot.job) s) o))
install_present s None = (refl, refl)
install_present s (Some slot) = (ap (λ (p : RecoveryPoint). p.count) (present_synced s.points), refl)

pub work_present : (x : Machine) (piece : Work) → AllByRecursion (IsPresent x.state) (work_left_besides x piece)
work_present x (Take asked) = tt
work_present x (Read job) = tt
work_present x (Ask job) = tt
work_present x (Accept job result) = tt
work_present x (Write job) = tt
work_present x (Install job) = (install_present x.state (held x job), tt)
work_present x (Drop job) = tt

-- What else a state may leave is what the batch in flight would have made of it. Where none is, all batches are left.
abbrev pub IsWithFlight : State → Option (List CrashState) → List (List Operation) → Type 0
IsWithFlight s None flight = flight ≡ []
IsWithFlight s (Some others) [] = AllByRecursion (IsPresent s) others
IsWithFlight s (Some others) (batch ∷ []) = others ≡ last_crash_state (after s (Commit batch)) ∷ []
IsWithFlight s (Some others) (batch ∷ more ∷ rest) = ⊥

-- The state that is reached: its recovery points are those of the accepted batches, of which `known` are known to be synced,
-- and besides them it may leave what the batch in flight makes of it.
pub record IsReached (k : ℕ) (m : Map) (done : List (List Operation)) (known : ℕ) (flight : List (List Operation)) (t : State) : Type 0 where
  pub points : t.points ≡ beginnings k m done known
  pub within : known ≤ length done
  pub besides : IsWithFlight t t.stopped flight

-- a running state with these recovery points
pub record IsRunning (k : ℕ) (m : Map) (done : List (List Operation)) (known : ℕ) (s : State) : Type 0 where
  pub points : s.points ≡ beginnings k m done known
  pub within : known ≤ length done
  pub runs : s.stopped ≡ None

-- ---- a refused step

no_install : (k done known : ℕ) (piece : Work) (e : Refusal) → acknowledged_by k done known (Worked piece) (Refused e) ≡ known
no_install k done known (Take asked) e = refl
no_install k done known (Read job) e = refl
no_install k done known (Ask job) e = refl
no_install k done known (Accept job result) e = refl
no_install k done known (Write job) e = refl
no_install k done known (Install job) e = refl
no_install k done known (Drop job) e = refl

nothing_accepted : (step : Step) (e : Refusal) → accepted_by step (Refused e) ≡ []
nothing_accepted (Called (Commit batch)) e = refl
nothing_accepted (Called (CommitIf guards batch)) e = refl
nothing_accepted (Called Sync) e = refl
nothing_accepted (Called (SyncTo number)) e = refl
nothing_accepted (Called (Get at key)) e = refl
nothing_accepted (Called (Scan at from to limit)) e = refl
nothing_accepted (Called Snapshot) e = refl
nothing_accepted (Called (Release number)) e = refl
nothing_accepted (Called Rotate) e = refl
nothing_accepted (Called LogRoom) e = refl
nothing_accepted (Worked piece) e = refl

nothing_acknowledged : (k done known : ℕ) (step : Step) (e : Refusal) → acknowledged_by k done known step (Refused e) ≡ known
nothing_acknowledged k done known (Called (Commit batch)) e = refl
nothing_acknowledged k done known (Called (CommitIf guards batch)) e = refl
nothing_acknowledged k done known (Called Sync) e = refl
nothing_acknowledged k done known (Called (SyncTo number)) e = refl
nothing_acknowledged k done known (Called (Get at key)) e = refl
nothing_acknowledged k done known (Called (Scan at from to limit)) e = refl
nothing_acknowledged k done known (Called Snapshot) e = refl
nothing_acknowledged k done known (Called (Release number)) e = refl
nothing_acknowledged k done known (Called Rotate) e = refl
nothing_acknowledged k done known (Called LogRoom) e = refl
nothing_acknowledged k done known (Worked piece) e = no_install k done known piece e

-- what is in flight is told by the steps after it
abbrev FliesOn : Step → Reply → Type 0
FliesOn step reply = (steps : List Step) (replies : List Reply) → in_flight (step ∷ steps) (reply ∷ replies) ≡ in_flight steps replies

refused_flies : (step : Step) (e : Refusal) → is_no_fault e ≡ true → FliesOn step (Refused e)
refused_flies (Called (Commit batch)) Io safe steps replies = absurd (false≢true safe)
refused_flies (Called (Commit batch)) e safe steps replies = refl
refused_flies (Called (CommitIf guards batch)) Io safe steps replies = absurd (false≢true safe)
refused_flies (Called (CommitIf guards batch)) e safe steps replies = refl
refused_flies (Called Sync) e safe steps replies = refl
refused_flies (Called (SyncTo number)) e safe steps replies = refl
refused_flies (Called (Get at key)) e safe steps replies = refl
refused_flies (Called (Scan at from to limit)) e safe steps replies = refl
refused_flies (Called Snapshot) e safe steps replies = refl
refused_flies (Called (Release number)) e safe steps replies = refl
refused_flies (Called Rotate) e safe steps replies = refl
refused_flies (Called LogRoom) e safe steps replies = refl
refused_flies (Worked piece) e safe steps replies = refl

-- ---- a stopped store

-- steps that change nothing
record IsQuiet (k : ℕ) (x : Machine) (steps : List Step) (replies : List Reply) : Type 0 where
  pub last : last_machine x steps replies ≡ x
  pub none_accepted : accepted steps replies ≡ []
  pub none_acknowledged : (done known : ℕ) → acknowledged_from k done known steps replies ≡ known
  pub none_in_flight : in_flight steps replies ≡ []

quiet : (k : ℕ) (x : Machine) (steps : List Step) (replies : List Reply) → IsSome x.state.stopped → Run x steps replies → IsQuiet k x steps replies
quiet k x [] [] stopped run = record { last = refl; none_accepted = refl; none_acknowledged = λ done known. refl; none_in_flight = refl }
quiet k x [] (reply ∷ replies) stopped run = absurd run
quiet k x (step ∷ steps) [] stopped run = absurd run
quiet k x (step ∷ steps) (reply ∷ replies) stopped run =
    let may = admits_step x step reply run.0 in
    let after = quiet k x steps replies stopped (subst (λ (y : Machine). Run y steps replies) (step_stays x step reply stopped may) run.1) in
    record {
      last = stopped_last x stopped (step ∷ steps) (reply ∷ replies) run;
      none_accepted = ap (λ (r : Reply). accepted (step ∷ steps) (r ∷ replies)) (step_stopped x step reply stopped may) ∙ ap (λ l. l ++ accepted steps replies) (nothing_accepted step Stopped) ∙ after.none_accepted;
      none_acknowledged = λ done known.
          ap (λ (r : Reply). acknowledged_from k done known (step ∷ steps) (r ∷ replies)) (step_stopped x step reply stopped may)
          ∙ ap (λ n. acknowledged_from k (done + length (accepted_by step (Refused Stopped))) n steps replies) (nothing_acknowledged k done known step Stopped)
          ∙ after.none_acknowledged (done + length (accepted_by step (Refused Stopped))) known;
      none_in_flight = ap (λ (r : Reply). in_flight (step ∷ steps) (r ∷ replies)) (step_stopped x step reply stopped may) ∙ refused_flies step Stopped refl steps replies ∙ after.none_in_flight;
    }

-- ---- one step of a running store

-- A step that leaves the store running: its recovery points are those of one step more.
record Keeps (k : ℕ) (m : Map) (done : List (List Operation)) (known : ℕ) (x : Machine) (step : Step) (reply : Reply) : Type 0 where
  runs : IsRunning k m (done ++ accepted_by step reply) (acknowledged_by k (length done) known step reply) (next_machine x step reply).state
  flies : FliesOn step reply

-- A step that stops the store, with its batch in flight or none.
record Stops (x : Machine) (step : Step) : Type 0 where
  others : List CrashState
  is : next_machine x step (Refused Io) ≡ record x { state = record x.state { stopped = Some others } }
  flies : (steps : List Step) (replies : List Reply) → in_flight steps replies ≡ [] → in_flight (step ∷ steps) (Refused Io ∷ replies) ≡ in_flight (step ∷ []) (Refused Io ∷ [])
  besides : IsWithFlight (record x.state { stopped = Some others }) (Some others) (in_flight (step ∷ []) (Refused Io ∷ []))

-- none in flight
still_flies : (step : Step) (reply : Reply) → FliesOn step reply → (steps : List Step) (replies : List Reply) → in_flight steps replies ≡ [] → in_flight (step ∷ steps) (reply ∷ replies) ≡ in_flight (step ∷ []) (reply ∷ [])
still_flies step reply flies steps replies none = flies steps replies ∙ none ∙ sym (flies [] [])

module _ (k : ℕ) (m : Map) (x : Machine) (done : List (List Operation)) (known : ℕ) (runs : IsRunning k m done known x.state) where
  abbrev s : State
  s = x.state

  abbrev Leads : Step → Reply → Type 0
  Leads step reply = Keeps k m done known x step reply ⊎ (Stops x step × (reply ≡ Refused Io))

  same_done : (n : ℕ) (t : State) → IsRunning k m done n t → IsRunning k m (done ++ []) n t
  same_done n t is = subst (λ d. IsRunning k m d n t) (sym (append-nil done)) is

  synced_now : (t : State) → t.points ≡ all_synced s.points → t.stopped ≡ s.stopped → IsRunning k m done (length done) t
  synced_now t points stopped = record {
    points = points ∙ ap all_synced runs.points ∙ all_synced_beginnings k m done known runs.within;
    within = omega arith;
    runs = stopped ∙ runs.runs;
  }

  -- a refusal that changes nothing
  refused_keeps : (step : Step) (e : Refusal) → next_machine x step (Refused e) ≡ x → FliesOn step (Refused e) → Keeps k m done known x step (Refused e)
  refused_keeps step e same flies = record {
    runs = subst (λ (y : Machine). IsRunning k m (done ++ accepted_by step (Refused e)) (acknowledged_by k (length done) known step (Refused e)) y.state) (sym same)
        (subst (λ l. IsRunning k m (done ++ l) (acknowledged_by k (length done) known step (Refused e)) s) (sym (nothing_accepted step e))
        (subst (λ n. IsRunning k m (done ++ []) n s) (sym (nothing_acknowledged k (length done) known step e)) (same_done known s runs)));
    flies = flies;
  }

  -- ---- calls

  -- what an answer makes of the recovery points
  answered : (call : Call) → IsRunning k m (done ++ accepted_by (Called call) (answer s call)) (acknowledged_by k (length done) known (Called call) (answer s call)) (after s call)
  answered (Commit batch) = record {
    points = ap (λ p. with_batch p batch) runs.points ∙ with_batch_beginnings k m done known batch runs.within;
    within = rw length-append (omega (arith, runs.within));
    runs = runs.runs;
  }
  answered (CommitIf guards batch) = record {
    points = ap (λ p. with_batch p batch) runs.points ∙ with_batch_beginnings k m done known batch runs.within;
    within = rw length-append (omega (arith, runs.within));
    runs = runs.runs;
  }
  answered Sync = same_done (length done) (after s Sync) (synced_now (after s Sync) refl refl)
  answered (SyncTo number) =
      subst (λ n. IsRunning k m (done ++ []) (cond (nat_le number n) known (length done)) (after s (SyncTo number))) (ap (λ (p : RecoveryPoints). p.synced) runs.points)
      (by (nat_le number s.points.synced))
    where
      by : (b : Bool) → IsRunning k m (done ++ []) (cond b known (length done)) (cond b s (record s { points = all_synced s.points }))
      by true = same_done known s runs
      by false = same_done (length done) (record s { points = all_synced s.points }) (synced_now (record s { points = all_synced s.points }) refl refl)
  answered (Get at key) = same_done known s runs
  answered (Scan at from to limit) = same_done known s runs
  answered Snapshot = same_done known (after s Snapshot) (record { points = runs.points; within = runs.within; runs = runs.runs })
  answered (Release number) = same_done known (after s (Release number)) (record { points = runs.points; within = runs.within; runs = runs.runs })
  answered Rotate = same_done (length done) (after s Rotate) (synced_now (after s Rotate) refl refl)
  answered LogRoom = same_done known s runs

  answer_flies : (call : Call) → FliesOn (Called call) (answer s call)
  answer_flies (Commit batch) steps replies = refl
  answer_flies (CommitIf guards batch) steps replies = refl
  answer_flies Sync steps replies = refl
  answer_flies (SyncTo number) steps replies = refl
  answer_flies (Get at key) steps replies = refl
  answer_flies (Scan at from to limit) steps replies = refl
  answer_flies Snapshot steps replies = refl
  answer_flies (Release number) steps replies = refl
  answer_flies Rotate steps replies = refl
  answer_flies LogRoom steps replies = refl

  answer_keeps : (call : Call) (reply : Reply) → IsAnswer reply → reply ≡ decided s call → Keeps k m done known x (Called call) reply
  answer_keeps call reply answers is = by (full_refusal s call) refl (subst IsAnswer is answers)
    where
      goes : next s call (decided s call) ≡ completed s call
      goes = (decided_goes s call).1

      by : (o : Option Refusal) → full_refusal s call ≡ o → IsAnswer (reply_by s call o) → Keeps k m done known x (Called call) reply
      by (Some e) refused h = absurd h
      by None none h =
          let same : reply ≡ answer s call = is ∙ ap (reply_by s call) none in
          let then : next s call (answer s call) ≡ after s call = ap (next s call) (sym (ap (reply_by s call) none)) ∙ goes ∙ ap (state_by s call) none in
          subst (λ (r : Reply). Keeps k m done known x (Called call) r) (sym same) (record {
            runs = subst (λ (t : State). IsRunning k m (done ++ accepted_by (Called call) (answer s call)) (acknowledged_by k (length done) known (Called call) (answer s call)) t) (sym then) (answered call);
            flies = answer_flies call;
          })

  -- a fault where nothing was to be changed
  read_fault : (call : Call) → next s call (Refused Io) ≡ s → FliesOn (Called call) (Refused Io) → Leads (Called call) (Refused Io)
  read_fault call same flies = inl (refused_keeps (Called call) Io (λ i. record x { state = same i }) flies)

  -- and where something was
  sync_fault : (call : Call) → next s call (Refused Io) ≡ record s { stopped = Some (left_besides s call) } → FliesOn (Called call) (Refused Io) → AllByRecursion (IsPresent s) (left_besides s call) → Leads (Called call) (Refused Io)
  sync_fault call stops flies present = inr (
    record {
      others = left_besides s call;
      is = λ i. record x { state = stops i };
      flies = still_flies (Called call) (Refused Io) flies;
      besides = subst (IsWithFlight (record s { stopped = Some (left_besides s call) }) (Some (left_besides s call))) (sym (flies [] [])) present;
    },
    refl,
  )

  call_fault : (call : Call) → Leads (Called call) (Refused Io)
  call_fault (Commit batch) = inr (record { others = left_besides s (Commit batch); is = refl; flies = λ steps replies none. refl; besides = refl }, refl)
  call_fault (CommitIf guards batch) = inr (record { others = left_besides s (CommitIf guards batch); is = refl; flies = λ steps replies none. refl; besides = refl }, refl)
  call_fault Sync = sync_fault Sync refl (λ steps replies. refl) (call_present s Sync refl, tt)
  call_fault (SyncTo number) = by (nat_le number s.points.synced) refl
    where
      by : (b : Bool) → nat_le number s.points.synced ≡ b → Leads (Called (SyncTo number)) (Refused Io)
      by true is = read_fault (SyncTo number) (ap (λ (c : Bool). after_fault s (SyncTo number) (cond c Untouched Changes)) is) (λ steps replies. refl)
      by false is = sync_fault (SyncTo number) (ap (λ (c : Bool). after_fault s (SyncTo number) (cond c Untouched Changes)) is) (λ steps replies. refl) (call_present s (SyncTo number) refl, tt)
  call_fault (Get at key) = read_fault (Get at key) refl (λ steps replies. refl)
  call_fault (Scan at from to limit) = read_fault (Scan at from to limit) refl (λ steps replies. refl)
  call_fault Snapshot = read_fault Snapshot refl (λ steps replies. refl)
  call_fault (Release number) = read_fault (Release number) refl (λ steps replies. refl)
  call_fault Rotate = sync_fault Rotate refl (λ steps replies. refl) (call_present s Rotate refl, tt)
  call_fault LogRoom = read_fault LogRoom refl (λ steps replies. refl)

  -- a read of guards faulted
  no_reads : Untouched ≡ Reads → ⊥
  no_reads e = cc

  no_changes : Reads ≡ Changes → ⊥
  no_changes e = cc

  call_unread : (call : Call) → use_first call ≡ Reads → use_of s call ≡ Changes → Keeps k m done known x (Called call) Unread
  call_unread (CommitIf guards batch) reads changes = record { runs = same_done known s runs; flies = λ steps replies. refl }
  call_unread (Commit batch) reads changes = absurd (no_reads reads)
  call_unread Sync reads changes = absurd (no_reads reads)
  call_unread (SyncTo number) reads changes = absurd (no_reads reads)
  call_unread (Get at key) reads changes = absurd (no_changes changes)
  call_unread (Scan at from to limit) reads changes = absurd (no_changes changes)
  call_unread Snapshot reads changes = absurd (no_reads reads)
  call_unread (Release number) reads changes = absurd (no_reads reads)
  call_unread Rotate reads changes = absurd (no_reads reads)
  call_unread LogRoom reads changes = absurd (no_reads reads)

  call_leads : (call : Call) (reply : Reply) → Allows s call reply → Leads (Called call) reply
  call_leads call (Refused Io) may = call_fault call
  call_leads call (Refused e) may = inl (refused_keeps (Called call) e refl (refused_flies (Called call) e refl))
  call_leads call (Number n) may = inl (answer_keeps call (Number n) tt may)
  call_leads call Done may = inl (answer_keeps call Done tt may)
  call_leads call (Value v) may = inl (answer_keeps call (Value v) tt may)
  call_leads call (Rows page) may = inl (answer_keeps call (Rows page) tt may)
  call_leads call (Given job) may = inl (answer_keeps call (Given job) tt may)
  call_leads call (Handed input) may = inl (answer_keeps call (Handed input) tt may)
  call_leads call Unread may = let reads = unread_reads s call may in inl (call_unread call reads.1 reads.2)

  -- ---- pieces of work

  -- an install was answered
  installed_runs : (job : ℕ) → work_refusal x (Install job) ≡ None → IsRunning k m done (length done) (state_after x (Install job))
  installed_runs job none = by (held x job) (first_not (work_refusals x (Install job)) (none_taken (is_some s.stopped) Stopped (running_refusal x (Install job)) none).1)
    where
      by : (o : Option Slot) → is_none o ≡ false → IsRunning k m done (length done) (of_slot s (λ slot. installed (is_flush slot.job) s) o)
      by None some = absurd (false≢true (sym some))
      by (Some slot) some = synced_now (installed (is_flush slot.job) s) refl refl

  worked_runs : (piece : Work) → work_refusal x piece ≡ None → IsRunning k m done (acknowledged_by k (length done) known (Worked piece) (work_answer x piece)) (state_after x piece)
  worked_runs (Take asked) none = runs
  worked_runs (Read job) none = runs
  worked_runs (Ask job) none = runs
  worked_runs (Accept job result) none = runs
  worked_runs (Write job) none = runs
  worked_runs (Install job) none = installed_runs job none
  worked_runs (Drop job) none = runs

  work_keeps : (piece : Work) (reply : Reply) → IsAnswer reply → reply ≡ work_decided x piece → Keeps k m done known x (Worked piece) reply
  work_keeps piece reply answers is =
      let at = answered_unrefused x piece reply answers is in
      let here = same_done (acknowledged_by k (length done) known (Worked piece) (work_answer x piece)) (state_after x piece) (worked_runs piece at.0) in
      record {
        runs = subst (λ (t : Machine). IsRunning k m (done ++ []) (acknowledged_by k (length done) known (Worked piece) reply) t.state) (sym (goes_by_answer x piece reply answers))
            (subst (λ (r : Reply). IsRunning k m (done ++ []) (acknowledged_by k (length done) known (Worked piece) r) (state_after x piece)) (sym at.1) here);
        flies = λ steps replies. refl;
      }

  work_fault : (piece : Work) → Leads (Worked piece) (Refused Io)
  work_fault piece = by (work_use x piece) refl
    where
      by : (u : Use) → work_use x piece ≡ u → Leads (Worked piece) (Refused Io)
      by Untouched is = inl (refused_keeps (Worked piece) Io (ap (after_work_fault x piece) is) (λ steps replies. refl))
      by Reads is = inl (refused_keeps (Worked piece) Io (ap (after_work_fault x piece) is) (λ steps replies. refl))
      by Changes is = inr (
        record {
          others = work_left_besides x piece;
          is = ap (after_work_fault x piece) is;
          flies = λ steps replies none. none;
          besides = work_present x piece;
        },
        refl,
      )

  work_leads : (piece : Work) (reply : Reply) → WorkAllows x piece reply → Leads (Worked piece) reply
  work_leads piece (Refused Io) may = work_fault piece
  work_leads piece (Refused e) may = inl (refused_keeps (Worked piece) e refl (λ steps replies. refl))
  work_leads piece (Number n) may = inl (work_keeps piece (Number n) tt may)
  work_leads piece Done may = inl (work_keeps piece Done tt may)
  work_leads piece (Value v) may = inl (work_keeps piece (Value v) tt may)
  work_leads piece (Rows page) may = inl (work_keeps piece (Rows page) tt may)
  work_leads piece (Given job) may = inl (work_keeps piece (Given job) tt may)
  work_leads piece (Handed input) may = inl (work_keeps piece (Handed input) tt may)
  work_leads piece Unread may = absurd (never_unread x piece may)

  step_leads : (step : Step) (reply : Reply) → AllowsStep x step reply → Leads step reply
  step_leads (Called call) reply may = call_leads call reply may
  step_leads (Worked piece) reply may = work_leads piece reply may

-- ---- steps of a running store

module _ (k : ℕ) (m : Map) where
  -- what is to be shown of steps
  abbrev Reaches : List Step → List Reply → List (List Operation) → ℕ → Machine → Type 0
  Reaches steps replies done known x = IsReached k m (done ++ accepted steps replies) (acknowledged_from k (length done) known steps replies) (in_flight steps replies) (last_machine x steps replies).state

  module _ (step : Step) (steps : List Step) (reply : Reply) (replies : List Reply) (done : List (List Operation)) (known : ℕ) (x : Machine) where
    -- after a step that leaves the store running
    behind : FliesOn step reply → Reaches steps replies (done ++ accepted_by step reply) (acknowledged_by k (length done) known step reply) (next_machine x step reply) → Reaches (step ∷ steps) (reply ∷ replies) done known x
    behind flies reached =
        let more = accepted_by step reply in
        let by = acknowledged_by k (length done) known step reply in
        let t = (last_machine (next_machine x step reply) steps replies).state in
        subst (λ flight. IsReached k m (done ++ (more ++ accepted steps replies)) (acknowledged_from k (length done + length more) by steps replies) flight t) (sym (flies steps replies))
        (subst (λ d. IsReached k m d (acknowledged_from k (length done + length more) by steps replies) (in_flight steps replies) t) (append_assoc done more (accepted steps replies))
        (subst (λ n. IsReached k m ((done ++ more) ++ accepted steps replies) (acknowledged_from k n by steps replies) (in_flight steps replies) t) (length-append done more) reached))

  -- after a step that stops it
  stopped_behind : (step : Step) (steps : List Step) (replies : List Reply) (done : List (List Operation)) (known : ℕ) (x : Machine) → IsRunning k m done known x.state → Stops x step
      → Run (next_machine x step (Refused Io)) steps replies → Reaches (step ∷ steps) (Refused Io ∷ replies) done known x
  stopped_behind step steps replies done known x runs stops run =
      let t = record x.state { stopped = Some stops.others } in
      let y = record x { state = t } in
      let silent = quiet k y steps replies refl (subst (λ (z : Machine). Run z steps replies) stops.is run) in
      let last : (last_machine (next_machine x step (Refused Io)) steps replies).state ≡ t = ap (λ (z : Machine). (last_machine z steps replies).state) stops.is ∙ ap (λ (z : Machine). z.state) silent.last in
      let none : done ++ accepted (step ∷ steps) (Refused Io ∷ replies) ≡ done = ap (λ a. done ++ (a ++ accepted steps replies)) (nothing_accepted step Io) ∙ ap (λ l. done ++ l) silent.none_accepted ∙ append-nil done in
      let same : acknowledged_from k (length done) known (step ∷ steps) (Refused Io ∷ replies) ≡ known = silent.none_acknowledged _ _ ∙ nothing_acknowledged k (length done) known step Io in
      let flight = in_flight (step ∷ steps) (Refused Io ∷ replies) in
      let besides : IsWithFlight t (Some stops.others) flight = subst (IsWithFlight t (Some stops.others)) (sym (stops.flies steps replies silent.none_in_flight)) stops.besides in
      let here : IsReached k m done known flight t = record { points = runs.points; within = runs.within; besides = besides } in
      subst (λ (z : State). IsReached k m (done ++ accepted (step ∷ steps) (Refused Io ∷ replies)) (acknowledged_from k (length done) known (step ∷ steps) (Refused Io ∷ replies)) flight z) (sym last)
      (subst (λ d. IsReached k m d (acknowledged_from k (length done) known (step ∷ steps) (Refused Io ∷ replies)) flight t) (sym none)
      (subst (λ n. IsReached k m done n flight t) (sym same) here))

  -- any steps on a running store
  pub reached : (steps : List Step) (replies : List Reply) (done : List (List Operation)) (known : ℕ) (x : Machine) → IsRunning k m done known x.state → Run x steps replies → Reaches steps replies done known x
  reached [] [] done known x runs run = subst (λ d. IsReached k m d known [] x.state) (sym (append-nil done)) (record { points = runs.points; within = runs.within; besides = subst (λ (o : Option (List CrashState)). IsWithFlight x.state o []) (sym runs.runs) refl })
  reached [] (reply ∷ replies) done known x runs run = absurd run
  reached (step ∷ steps) [] done known x runs run = absurd run
  reached (step ∷ steps) (reply ∷ replies) done known x runs run = ⊎_elim
      (λ keeps. behind step steps reply replies done known x keeps.flies (reached steps replies (done ++ accepted_by step reply) (acknowledged_by k (length done) known step reply) (next_machine x step reply) keeps.runs run.1))
      (λ stops. subst (λ (r : Reply). Run (next_machine x step r) steps replies → Reaches (step ∷ steps) (r ∷ replies) done known x) (sym stops.1) (stopped_behind step steps replies done known x runs stops.0) run.1)
      (step_leads k m x done known runs step reply run.0)
