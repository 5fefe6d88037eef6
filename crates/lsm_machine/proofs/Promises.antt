-- After any steps a crash leaves a beginning of the accepted batches.
use Rattle.std.proofs.Common.{◌≡◌, ◌≤◌, ⊎_elim, ℕ, Bool, true, false, cond, List, [], ◌∷◌, ◌++◌, length, Option, Some, None, is_some, refl, ap, sym, subst, ◌∙◌, arith}
use Rattle.std.specs.Prelude.{Contains}
use Rattle.std.specs.List.{AllByRecursion}
use Rattle.std.proofs.Math.Nat.{add-zero}
use Rattle.std.proofs.lemmas.Bool.{false≢true}
use Rattle.std.proofs.lemmas.List.{append_assoc, append-nil, length-append, take-append-le, take_all}
use Rattle.std.proofs.lemmas.List.Elements.{Contains-append_cases}
use Rattle.lsm_codec.specs.Map.{Operation, apply_all}
use Rattle.lsm_device.specs.declared.refusal.Refusal.{Refusal}
use Rattle.lsm_device.specs.declared.refusal.Refusal.TheVariants.{Stopped}
use Rattle.lsm_root.specs.CrashState.{CrashState}
use Rattle.lsm_machine.specs.RecoveryPoints.{RecoveryPoints, recovery_points, with_batch, batch_count, present_map}
use Rattle.lsm_machine.specs.State.{State}
use Rattle.lsm_machine.specs.Calls.{Call}
use Rattle.lsm_machine.specs.Calls.{Commit, CommitIf, Sync, SyncTo, Get, Scan, Snapshot, Release, Rotate, LogRoom}
use Rattle.lsm_machine.specs.Refusals.{refusals, first_refusal, later_refusals, full_refusal}
use Rattle.lsm_machine.specs.Effects.{after}
use Rattle.lsm_machine.specs.Crash.{crash_state_at, left_between, left_with, may_leave, last_crash_state, left_besides, reopened}
use Rattle.lsm_machine.specs.Machine.{Machine, Step, Called, Worked}
use Rattle.lsm_machine.specs.Run.{left_in_step, last_machine}
use Rattle.lsm_machine.specs.Promise.{accepted, acknowledged, in_flight, IsAfterBeginning, beginnings, Promise}
use Rattle.lsm_machine.specs.WorkRefusals.{running_refusal, work_refusal}
use Rattle.lsm_machine.specs.WorkReplies.{work_left_besides}
use Rattle.lsm_machine.proofs.Flights.{IsMore, flight_more}
use Rattle.lsm_machine.proofs.Membership.{none_in, one_in, in_cases, map_cases}
use Rattle.lsm_machine.proofs.Points.{in_beginnings, present_beginnings, count_beginnings, with_batch_beginnings}
use Rattle.lsm_machine.proofs.Reached.{IsPresent, call_present, work_present, IsWithFlight, IsReached, IsRunning, reached}

module _ (opened : CrashState) (done : List (List Operation)) (known : ℕ) (flight : List (List Operation)) (t : State) (here : IsReached opened.count opened.map done known flight t) where
  -- a recovery point
  kept_between : (left : CrashState) → Contains (left_between t) left → IsAfterBeginning opened (done ++ flight) known left
  kept_between left found =
      let of = map_cases (crash_state_at t) (recovery_points t.points) left found in
      let at = in_beginnings opened.count opened.map done known of.0 here.within (subst (λ (p : RecoveryPoints). Contains (recovery_points p) of.0) here.points of.1) in
      record {
        holds = at.0;
        at_least = at.1;
        among = rw length-append (omega (arith, at.2));
        count = ap (λ (c : CrashState). c.count) of.2 ∙ at.3;
        same_map = ap (λ (c : CrashState). c.map) of.2 ∙ at.4 ∙ ap (apply_all opened.map) (sym (take-append-le at.0 done flight at.2));
      }

  -- all of the batches and one more
  kept_whole : (batch : List Operation) (left : CrashState) → left ≡ last_crash_state (after t (Commit batch)) → IsAfterBeginning opened (done ++ batch ∷ []) known left
  kept_whole batch left is =
      let all = done ++ batch ∷ [] in
      let points : (after t (Commit batch)).points ≡ beginnings opened.count opened.map all known =
      ap (λ p. with_batch p batch) here.points ∙ with_batch_beginnings opened.count opened.map done known batch here.within in
      let within : known ≤ length all = rw length-append (omega (arith, here.within)) in
      record {
        holds = length all;
        at_least = within;
        among = omega arith;
        count = ap (λ (c : CrashState). c.count) is ∙ ap batch_count points ∙ count_beginnings opened.count opened.map all known within;
        same_map = ap (λ (c : CrashState). c.map) is ∙ ap present_map points ∙ present_beginnings opened.count opened.map all known ∙ ap (apply_all opened.map) (sym (take_all (length all) all (omega arith)));
      }

  -- all of the batches
  kept_present : (left : CrashState) → IsPresent t left → IsAfterBeginning opened (done ++ []) known left
  kept_present left is = subst (λ l. IsAfterBeginning opened l known left) (sym (append-nil done)) (record {
    holds = length done;
    at_least = here.within;
    among = omega arith;
    count = is.0 ∙ ap batch_count here.points ∙ count_beginnings opened.count opened.map done known here.within;
    same_map = is.1 ∙ ap present_map here.points ∙ present_beginnings opened.count opened.map done known ∙ ap (apply_all opened.map) (sym (take_all (length done) done (omega arith)));
  })

  -- so it is with each of these
  present_among : (others : List CrashState) (left : CrashState) → AllByRecursion (IsPresent t) others → Contains others left → IsPresent t left
  present_among [] left each found = absurd (none_in left found)
  present_among (one ∷ rest) left each found = ⊎_elim
      (λ same. subst (IsPresent t) (sym same) each.0)
      (λ later. present_among rest left each.1 later)
      (in_cases one left rest found)

  kept_besides : (f : List (List Operation)) (others : List CrashState) (left : CrashState) → IsWithFlight t (Some others) f → Contains others left → IsAfterBeginning opened (done ++ f) known left
  kept_besides [] others left is found = kept_present left (present_among others left is found)
  kept_besides (batch ∷ []) others left is found = kept_whole batch left (one_in (last_crash_state (after t (Commit batch))) left (subst (λ l. Contains l left) is found))
  kept_besides (batch ∷ more ∷ rest) others left is found = absurd is

  kept_now : (left : CrashState) → Contains (may_leave t) left → IsAfterBeginning opened (done ++ flight) known left
  kept_now left found = by t.stopped here.besides found
    where
      by : (o : Option (List CrashState)) → IsWithFlight t o flight → Contains (left_with t o) left → IsAfterBeginning opened (done ++ flight) known left
      by None is h = kept_between left h
      by (Some others) is h = ⊎_elim (λ between. kept_between left between) (λ other. kept_besides flight others left is other) (Contains-append_cases (left_between t) others left h)

  -- a beginning of a list is one of a longer list
  longer_beginning : (all rest : List (List Operation)) (left : CrashState) → IsAfterBeginning opened all known left → IsAfterBeginning opened (all ++ rest) known left
  longer_beginning all rest left kept = record {
    holds = kept.holds;
    at_least = kept.at_least;
    among = rw length-append (omega (arith, kept.among));
    count = kept.count;
    same_map = kept.same_map ∙ ap (apply_all opened.map) (sym (take-append-le kept.holds all rest kept.among));
  }

  -- while the store runs, nothing is in flight
  none_yet : is_some t.stopped ≡ false → flight ≡ []
  none_yet running = by t.stopped running here.besides
    where
      by : (o : Option (List CrashState)) → is_some o ≡ false → IsWithFlight t o flight → flight ≡ []
      by None runs besides = besides
      by (Some others) runs besides = absurd (false≢true (sym runs))

  -- what a call adds that adds no batch
  kept_after : (call : Call) → in_flight (Called call ∷ []) [] ≡ [] → (left : CrashState) → Contains (left_besides t call) left → IsAfterBeginning opened (done ++ []) known left
  kept_after call adds left found = kept_present left (subst (IsPresent t) (sym (one_in (last_crash_state (after t call)) left found)) (call_present t call adds))

  -- what a call adds
  kept_by_call : (call : Call) (left : CrashState) → Contains (left_besides t call) left → IsAfterBeginning opened (done ++ in_flight (Called call ∷ []) []) known left
  kept_by_call (Commit batch) left found = kept_whole batch left (one_in (last_crash_state (after t (Commit batch))) left found)
  kept_by_call (CommitIf guards batch) left found = kept_whole batch left (one_in (last_crash_state (after t (Commit batch))) left found)
  kept_by_call Sync left found = kept_after Sync refl left found
  kept_by_call (SyncTo number) left found = kept_after (SyncTo number) refl left found
  kept_by_call (Get at key) left found = kept_after (Get at key) refl left found
  kept_by_call (Scan at from to limit) left found = kept_after (Scan at from to limit) refl left found
  kept_by_call Snapshot left found = kept_after Snapshot refl left found
  kept_by_call (Release number) left found = kept_after (Release number) refl left found
  kept_by_call Rotate left found = kept_after Rotate refl left found
  kept_by_call LogRoom left found = kept_after LogRoom refl left found

  -- what a step adds to what the state may leave, where nothing refuses it
  module _ (step : Step) (longer : List (List Operation)) (more : IsMore flight (in_flight (step ∷ []) []) longer) (left : CrashState) where
    kept_before : Contains (may_leave t) left → IsAfterBeginning opened (done ++ longer) known left
    kept_before found =
        subst (λ l. IsAfterBeginning opened l known left) (append_assoc done flight more.rest ∙ ap (λ l. done ++ l) (sym more.joined)) (longer_beginning (done ++ flight) more.rest left (kept_now left found))

    kept_added : is_some t.stopped ≡ false → IsAfterBeginning opened (done ++ in_flight (step ∷ []) []) known left → IsAfterBeginning opened (done ++ longer) known left
    kept_added running kept =
        let none = none_yet running in
        let same : longer ≡ in_flight (step ∷ []) [] = more.joined ∙ ap (λ l. l ++ more.rest) none ∙ more.fresh none in
        subst (λ l. IsAfterBeginning opened (done ++ l) known left) (sym same) kept

    kept_inside : (refused : Bool) (besides : List CrashState) → (refused ≡ false → is_some t.stopped ≡ false) → (Contains besides left → IsAfterBeginning opened (done ++ in_flight (step ∷ []) []) known left)
        → Contains (may_leave t ++ cond refused [] besides) left → IsAfterBeginning opened (done ++ longer) known left
    kept_inside refused besides runs adds found = ⊎_elim kept_before (by refused runs) (Contains-append_cases (may_leave t) (cond refused [] besides) left found)
      where
        by : (b : Bool) → (b ≡ false → is_some t.stopped ≡ false) → Contains (cond b [] besides) left → IsAfterBeginning opened (done ++ longer) known left
        by true runs h = absurd (none_in left h)
        by false runs h = kept_added (runs refl) (adds h)

-- where nothing refuses, the store runs
unrefused_runs : (stopped : Bool) (rest : Option Refusal) → is_some (cond stopped (Some Stopped) rest) ≡ false → stopped ≡ false
unrefused_runs true rest is = absurd (false≢true (sym is))
unrefused_runs false rest is = refl

module _ (opened : CrashState) (done : List (List Operation)) (known : ℕ) (flight : List (List Operation)) (x : Machine) (here : IsReached opened.count opened.map done known flight x.state) where
  inside_step : (step : Step) (longer : List (List Operation)) → IsMore flight (in_flight (step ∷ []) []) longer → (left : CrashState) → Contains (left_in_step x step) left → IsAfterBeginning opened (done ++ longer) known left
  inside_step (Called call) longer more left found =
      kept_inside opened done known flight x.state here (Called call) longer more left (is_some (full_refusal x.state call)) (left_besides x.state call)
      (unrefused_runs (is_some x.state.stopped) (first_refusal (refusals x.state call ++ later_refusals x.state call)))
      (λ added. kept_by_call opened done known flight x.state here call left added) found
  inside_step (Worked piece) longer more left found =
      kept_inside opened done known flight x.state here (Worked piece) longer more left (is_some (work_refusal x piece)) (work_left_besides x piece)
      (unrefused_runs (is_some x.state.stopped) (running_refusal x piece))
      (λ added. kept_present opened done known flight x.state here left (present_among opened done known flight x.state here (work_left_besides x piece) left (work_present x piece) added)) found

-- the state of a store that was just opened
starts : (log_sectors : ℕ) (opened : CrashState) → IsRunning opened.count opened.map [] 0 (reopened log_sectors opened)
starts log_sectors opened = record { points = λ i. record { synced = sym (add-zero opened.count) i; first = opened.map; later = [] }; within = omega arith; runs = refl }

pub promise : Promise
promise log_sectors opened m steps replies is run =
    let done = accepted steps replies in
    let known = acknowledged opened.count steps replies in
    let x = last_machine m steps replies in
    let start = subst (λ (s : State). IsRunning opened.count opened.map [] 0 s) (sym is) (starts log_sectors opened) in
    let here : IsReached opened.count opened.map done known (in_flight steps replies) x.state = reached opened.count opened.map steps replies [] 0 m start run in
    record {
      points = here.points;
      served = ap present_map here.points ∙ present_beginnings opened.count opened.map done known;
      counted = ap batch_count here.points ∙ count_beginnings opened.count opened.map done known here.within;
      between = λ left found. kept_now opened done known (in_flight steps replies) x.state here left found;
      inside = λ step left found. inside_step opened done known (in_flight steps replies) x here step (in_flight (steps ++ step ∷ []) replies) (flight_more m step steps replies run) left found;
    }
