-- What a crash may leave, from call to call.
use Rattle.std.proofs.Common.{◌≡◌, ⊎_elim, ℕ, Bool, true, false, cond, List, [], ◌∷◌, ◌++◌, Option, Some, None, is_some, refl, ap, sym, subst, ◌∙◌}
use Rattle.std.specs.Prelude.{Contains, nat_le, option_map}
use Rattle.std.proofs.lemmas.List.{append-nil}
use Rattle.std.proofs.lemmas.List.Elements.{Contains-append_left, Contains-append_right, Contains-append_cases}
use Rattle.lsm_codec.specs.Map.{Operation}
use Rattle.lsm_device.specs.declared.refusal.Refusal.{Refusal}
use Rattle.lsm_device.specs.declared.refusal.Refusal.TheVariants.{Io, Stopped}
use Rattle.lsm_root.specs.CrashState.{CrashState}
use Rattle.lsm_machine.specs.RecoveryPoints.{RecoveryPoint, recovery_points, present_point, with_batch, all_synced}
use Rattle.lsm_machine.specs.State.{OpenLog, State}
use Rattle.lsm_machine.specs.Calls.{Call, Reply}
use Rattle.lsm_machine.specs.Calls.{Commit, CommitIf, Sync, SyncTo, Get, Scan, Snapshot, Release, Rotate, LogRoom, Number, Done, Value, Rows, Given, Handed, Refused, Unread}
use Rattle.lsm_machine.specs.Refusals.{refusals, later_refusals, first_refusal, refusal, full_refusal}
use Rattle.lsm_machine.specs.Effects.{with_sectors, committed, after, decided, reply_by, Use, use_of}
use Rattle.lsm_machine.specs.Effects.{Untouched, Reads, Changes}
use Rattle.lsm_machine.specs.Crash.{closed_with, crash_state_at, left_between, left_with, may_leave, last_crash_state, left_besides, left_inside}
use Rattle.lsm_machine.specs.Run.{Allows, Admits, after_fault, next}
use Rattle.lsm_machine.proofs.Membership.{in_head, one_in, in_map, map_cases}
use Rattle.lsm_machine.proofs.Points.{present_in, with_batch_cases, present_synced}

-- a batch more in the open log closes no other region
pub closed_same : (closed count : ℕ) (batch : List Operation) (log : Option OpenLog) → closed_with closed count (option_map (with_sectors batch) log) ≡ closed_with closed count log
closed_same closed count batch (Some log) = refl
closed_same closed count batch None = refl

pub same_place : (s : State) (batch : List Operation) (point : RecoveryPoint) → crash_state_at (committed s batch) point ≡ crash_state_at s point
same_place s batch point = ap (λ n. let x : CrashState = record { count = point.count; map = point.map; closed = n; generation = s.generation } in x) (closed_same s.closed point.count batch s.open_log)

-- where the present map is kept, that is left
pub last_between : (s : State) → Contains (left_between s) (last_crash_state s)
last_between s = in_map (crash_state_at s) (recovery_points s.points) (present_point s.points) (present_in s.points)

-- so it is after a batch was added
commit_goes : (s : State) (batch : List Operation) (left : CrashState) → Contains (left_between (committed s batch)) left → Contains (left_between s ++ last_crash_state (committed s batch) ∷ []) left
commit_goes s batch left found =
    let at = crash_state_at (committed s batch) in
    let besides = last_crash_state (committed s batch) ∷ [] in
    let of = map_cases at (recovery_points (with_batch s.points batch)) left found in
    ⊎_elim
    (λ before. Contains-append_left (left_between s) besides left (subst (Contains (left_between s)) (sym (of.2 ∙ same_place s batch of.0))
    (in_map (crash_state_at s) (recovery_points s.points) of.0 before)))
    (λ last. Contains-append_right (left_between s) besides left (subst (Contains besides) (sym (of.2 ∙ ap at last)) (in_head _ [])))
    (with_batch_cases s.points batch of.0 of.1)

-- after an answer a crash leaves what it left before, or what the call adds to that
pub between_goes : (s : State) (call : Call) (left : CrashState) → Contains (left_between (after s call)) left → Contains (left_between s ++ left_besides s call) left
between_goes s (Commit batch) left found = commit_goes s batch left found
between_goes s (CommitIf guards batch) left found = commit_goes s batch left found
between_goes s Sync left found = Contains-append_left (left_between s) _ left (subst (Contains (left_between s)) (sym (one_in (last_crash_state s) left found)) (last_between s))
between_goes s (SyncTo number) left found = Contains-append_left (left_between s) _ left (by (nat_le number s.points.synced) found)
  where
    by : (b : Bool) → Contains (left_between (cond b s (record s { points = all_synced s.points }))) left → Contains (left_between s) left
    by true h = h
    by false h = subst (Contains (left_between s)) (sym (one_in (last_crash_state s) left h)) (last_between s)
between_goes s (Get at key) left found = Contains-append_left (left_between s) _ left found
between_goes s (Scan at from to limit) left found = Contains-append_left (left_between s) _ left found
between_goes s Snapshot left found = Contains-append_left (left_between s) _ left found
between_goes s (Release number) left found = Contains-append_left (left_between s) _ left found
between_goes s Rotate left found = Contains-append_right (left_between s) (left_besides s Rotate) left
    (subst (λ (x : CrashState). Contains (x ∷ []) left) (ap (crash_state_at (after s Rotate)) (sym (present_synced s.points))) found)
between_goes s LogRoom left found = Contains-append_left (left_between s) _ left found

pub stays_stopped : (s : State) (call : Call) → (after s call).stopped ≡ s.stopped
stays_stopped s (Commit batch) = refl
stays_stopped s (CommitIf guards batch) = refl
stays_stopped s Sync = refl
stays_stopped s (SyncTo number) = elim (nat_le number s.points.synced) as (λ b. (cond b s (record s { points = all_synced s.points })).stopped ≡ s.stopped) [ true ↦ refl | false ↦ refl ]
stays_stopped s (Get at key) = refl
stays_stopped s (Scan at from to limit) = refl
stays_stopped s Snapshot = refl
stays_stopped s (Release number) = refl
stays_stopped s Rotate = refl
stays_stopped s LogRoom = refl

pub with_others : (s t : State) (besides : List CrashState) (left : CrashState) → (Contains (left_between t) left → Contains (left_between s ++ besides) left)
    → (o : Option (List CrashState)) → Contains (left_with t o) left → Contains (left_with s o ++ besides) left
with_others s t besides left goes None found = goes found
with_others s t besides left goes (Some others) found = ⊎_elim
    (λ between. ⊎_elim
    (λ h. Contains-append_left (left_between s ++ others) besides left (Contains-append_left (left_between s) others left h))
    (λ h. Contains-append_right (left_between s ++ others) besides left h)
    (Contains-append_cases (left_between s) besides left (goes between)))
    (λ other. Contains-append_left (left_between s ++ others) besides left (Contains-append_right (left_between s) others left other))
    (Contains-append_cases (left_between t) others left found)

after_goes : (s : State) (call : Call) (left : CrashState) → Contains (may_leave (after s call)) left → Contains (may_leave s ++ left_besides s call) left
after_goes s call left found =
    with_others s (after s call) (left_besides s call) left (between_goes s call left) s.stopped
    (subst (λ (o : Option (List CrashState)). Contains (left_with (after s call) o) left) (stays_stopped s call) found)

-- the recovery points are left, whether the store runs or is stopped
pub between_may_leave : (s : State) (left : CrashState) → Contains (left_between s) left → Contains (may_leave s) left
between_may_leave s left found = by s.stopped
  where
    by : (o : Option (List CrashState)) → Contains (left_with s o) left
    by None = found
    by (Some others) = Contains-append_left (left_between s) others left found

-- what a call adds is left inside it, where nothing refuses it
pub inside_unrefused : (s : State) (call : Call) (left : CrashState) → is_some (full_refusal s call) ≡ false → Contains (may_leave s ++ left_besides s call) left → Contains (left_inside s call) left
inside_unrefused s call left unrefused found = subst (λ b. Contains (may_leave s ++ cond b [] (left_besides s call)) left) (sym unrefused) found

after_fault_goes : (s : State) (call : Call) (left : CrashState) (used : Use) → Contains (may_leave (after_fault s call used)) left → Contains (may_leave s ++ left_besides s call) left
after_fault_goes s call left Untouched found = Contains-append_left (may_leave s) (left_besides s call) left found
after_fault_goes s call left Reads found = Contains-append_left (may_leave s) (left_besides s call) left found
after_fault_goes s call left Changes found = ⊎_elim
    (λ between. Contains-append_left (may_leave s) (left_besides s call) left (between_may_leave s left between))
    (λ other. Contains-append_right (may_leave s) (left_besides s call) left other)
    (Contains-append_cases (left_between s) (left_besides s call) left found)

-- a reply that is no refusal
abbrev pub IsAnswer : Reply → Type 0
IsAnswer (Refused e) = ⊥
IsAnswer Unread = ⊥
IsAnswer reply = Unit {0}

pub answer_unrefused : (s : State) (call : Call) (reply : Reply) → IsAnswer reply → reply ≡ decided s call → is_some (full_refusal s call) ≡ false
answer_unrefused s call reply answers is = by (full_refusal s call) (subst IsAnswer is answers)
  where
    by : (o : Option Refusal) → IsAnswer (reply_by s call o) → is_some o ≡ false
    by None h = refl
    by (Some e) h = absurd h

-- what a crash may leave after a reply, it may leave inside the call
pub goes_inside : (s : State) (call : Call) (reply : Reply) (left : CrashState) → Allows s call reply → Contains (may_leave (next s call reply)) left → Contains (left_inside s call) left
goes_inside s call (Refused Io) left may found = inside_unrefused s call left may.0 (after_fault_goes s call left (use_of s call) found)
goes_inside s call (Refused e) left may found = Contains-append_left (may_leave s) _ left found
goes_inside s call (Number n) left may found = inside_unrefused s call left (answer_unrefused s call (Number n) tt may) (after_goes s call left found)
goes_inside s call Done left may found = inside_unrefused s call left (answer_unrefused s call Done tt may) (after_goes s call left found)
goes_inside s call (Value v) left may found = inside_unrefused s call left (answer_unrefused s call (Value v) tt may) (after_goes s call left found)
goes_inside s call (Rows page) left may found = inside_unrefused s call left (answer_unrefused s call (Rows page) tt may) (after_goes s call left found)
goes_inside s call (Given job) left may found = inside_unrefused s call left (answer_unrefused s call (Given job) tt may) (after_goes s call left found)
goes_inside s call (Handed input) left may found = inside_unrefused s call left (answer_unrefused s call (Handed input) tt may) (after_goes s call left found)
goes_inside s call Unread left may found = Contains-append_left (may_leave s) _ left found

-- and so it is of one that memory admits, where no guard is asked
module _ (s : State) (call : Call) (none : later_refusals s call ≡ []) where
  unasked : full_refusal s call ≡ refusal s call
  unasked =
      let tests : (is_some s.stopped, Stopped) ∷ (refusals s call ++ later_refusals s call) ≡ (is_some s.stopped, Stopped) ∷ refusals s call = ap (λ (later : List (Bool × Refusal)). (is_some s.stopped, Stopped) ∷ (refusals s call ++ later)) none ∙ ap (λ (all : List (Bool × Refusal)). (is_some s.stopped, Stopped) ∷ all) (append-nil (refusals s call)) in
      ap first_refusal tests

  nothing_refuses : is_some (refusal s call) ≡ false → is_some (full_refusal s call) ≡ false
  nothing_refuses is = ap (λ (o : Option Refusal). is_some o) unasked ∙ is

  answers_so : (reply : Reply) → IsAnswer reply → reply ≡ reply_by s call (refusal s call) → is_some (full_refusal s call) ≡ false
  answers_so reply answers is = answer_unrefused s call reply answers (is ∙ ap (reply_by s call) (sym unasked))

  pub admitted_inside : (reply : Reply) (left : CrashState) → Admits s call reply → Contains (may_leave (next s call reply)) left → Contains (left_inside s call) left
  admitted_inside (Refused Io) left may found = inside_unrefused s call left (nothing_refuses may.0) (after_fault_goes s call left (use_of s call) found)
  admitted_inside (Refused e) left may found = Contains-append_left (may_leave s) _ left found
  admitted_inside (Number n) left may found = inside_unrefused s call left (answers_so (Number n) tt may) (after_goes s call left found)
  admitted_inside Done left may found = inside_unrefused s call left (answers_so Done tt may) (after_goes s call left found)
  admitted_inside (Value v) left may found = inside_unrefused s call left (nothing_refuses may.0) (after_goes s call left found)
  admitted_inside (Rows page) left may found = inside_unrefused s call left (nothing_refuses may.0) (after_goes s call left found)
  admitted_inside (Given job) left may found = inside_unrefused s call left (answers_so (Given job) tt may) (after_goes s call left found)
  admitted_inside (Handed input) left may found = inside_unrefused s call left (answers_so (Handed input) tt may) (after_goes s call left found)
  admitted_inside Unread left may found = Contains-append_left (may_leave s) _ left found
