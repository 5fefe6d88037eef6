-- The base of a session stays live, with its map.
use Rattle.std.proofs.Common.{◌≡◌, ◌≢◌, ℕ, ◌==◌, Bool, true, false, not, cond, List, [], ◌∷◌, ◌++◌, Option, Some, None, is_some, refl, ap, ◌∙◌, arith, eq-eqb, if◌then◌else◌}
use Rattle.std.specs.Prelude.{find, All, nat_le}
use Rattle.std.proofs.lemmas.Bool.Decides.{nat_tests}
use Rattle.std.proofs.lemmas.List.Elements.{All-head, All-tail}
use Rattle.lsm_device.specs.declared.refusal.Refusal.TheVariants.{Io}
use Rattle.lsm_machine.specs.Calls.{Call, Reply}
use Rattle.lsm_machine.specs.Calls.{Commit, CommitIf, Sync, SyncTo, Get, Scan, Snapshot, Release, Rotate, LogRoom, Number, Done, Value, Rows, Given, Handed, Refused, Unread}
use Rattle.lsm_machine.specs.Effects.{after, next_taken, without, Use, use_of}
use Rattle.lsm_machine.specs.Effects.{Untouched, Reads, Changes}
use Rattle.lsm_machine.specs.RecoveryPoints.{present_map, all_synced}
use Rattle.lsm_machine.specs.Machine.{Machine, Step, Called, Worked}
use Rattle.lsm_machine.specs.Run.{after_fault, next, next_machine}
use Rattle.lsm_machine.specs.State.{State, LiveSnapshot, snapshot_of, may_ask, map_at, map_of_snapshot}
use Rattle.lsm_machine.specs.declared.asked.At.TheVariants.{Snap}
use Rattle.lsm_machine.proofs.WorkReplies.{work_keeps}
use Rattle.lsm_trail.specs.Begins.{Begin, base_of, first_machine}
use Rattle.lsm_trail.specs.History.{Event, AreServed, machine_behind, IsLegal, state_after}

module _ (n : ℕ) where
  abbrev found : List LiveSnapshot → Option LiveSnapshot
  found live = find (λ snapshot. snapshot.number == n) live

  -- a snapshot that is found is found before later ones
  found_before : (x : LiveSnapshot) (live more : List LiveSnapshot) → found live ≡ Some x → found (live ++ more) ≡ Some x
  found_before x [] more is = absurd cc
  found_before x (y ∷ live) more is = by (y.number == n) is (found_before x live more)
    where
      by : (b : Bool) → cond b (Some y) (found live) ≡ Some x → (found live ≡ Some x → found (live ++ more) ≡ Some x) → cond b (Some y) (found (live ++ more)) ≡ Some x
      by true here later = here
      by false there later = later there

  -- where none has the number, one that comes last is found
  found_last : (x : LiveSnapshot) (live : List LiveSnapshot) → found live ≡ None → x.number ≡ n → found (live ++ x ∷ []) ≡ Some x
  found_last x [] none is = ap (λ (b : Bool). cond b (Some x) None) (eq-eqb x.number n is)
  found_last x (y ∷ live) none is = by (y.number == n) none (λ none. found_last x live none is)
    where
      by : (b : Bool) → cond b (Some y) (found live) ≡ None → (found live ≡ None → found (live ++ x ∷ []) ≡ Some x) → cond b (Some y) (found (live ++ x ∷ [])) ≡ Some x
      by true here later = absurd cc
      by false there later = later there

  -- a release of another number forgets another
  found_without : (x : LiveSnapshot) (m : ℕ) (live : List LiveSnapshot) → m ≢ n → found live ≡ Some x → found (without m live) ≡ Some x
  found_without x m [] other is = absurd cc
  found_without x m (y ∷ live) other is = by (y.number == n) (y.number == m) refl refl is (found_without x m live other)
    where
      by : (b c : Bool) → (y.number == n) ≡ b → (y.number == m) ≡ c → cond b (Some y) (found live) ≡ Some x → (found live ≡ Some x → found (without m live) ≡ Some x)
          → found (cond (not c) (y ∷ without m live) (without m live)) ≡ Some x
      by true true mine released here later = absurd (other (grind (arith, nat_tests)))
      by true false mine kept here later = ap (λ (b : Bool). cond b (Some y) (found (without m live))) mine ∙ here
      by false true mine released there later = later there
      by false false mine kept there later = ap (λ (b : Bool). cond b (Some y) (found (without m live))) mine ∙ later there

  module _ (x : LiveSnapshot) where
    fault_keeps : (s : State) (call : Call) (used : Use) → snapshot_of s n ≡ Some x → snapshot_of (after_fault s call used) n ≡ Some x
    fault_keeps s call Untouched is = is
    fault_keeps s call Reads is = is
    fault_keeps s call Changes is = is

    sync_keeps : (s : State) (b : Bool) → snapshot_of s n ≡ Some x → snapshot_of (if b then s else record s { points = all_synced s.points }) n ≡ Some x
    sync_keeps s true is = is
    sync_keeps s false is = is

    after_keeps : (s : State) (call : Call) → call ≢ Release n → snapshot_of s n ≡ Some x → snapshot_of (after s call) n ≡ Some x
    after_keeps s (Commit batch) other is = is
    after_keeps s (CommitIf guards batch) other is = is
    after_keeps s Sync other is = is
    after_keeps s (SyncTo number) other is = sync_keeps s (nat_le number s.points.synced) is
    after_keeps s (Get at key) other is = is
    after_keeps s (Scan at from to limit) other is = is
    after_keeps s Snapshot other is = found_before x s.snapshots (next_taken s ∷ []) is
    after_keeps s (Release number) other is = found_without x number s.snapshots (λ same. other (ap Release same)) is
    after_keeps s Rotate other is = is
    after_keeps s LogRoom other is = is

    next_keeps : (s : State) (call : Call) (reply : Reply) → call ≢ Release n → snapshot_of s n ≡ Some x → snapshot_of (next s call reply) n ≡ Some x
    next_keeps s call (Refused Io) other is = fault_keeps s call (use_of s call) is
    next_keeps s call (Refused e) other is = is
    next_keeps s call (Number k) other is = after_keeps s call other is
    next_keeps s call Done other is = after_keeps s call other is
    next_keeps s call (Value v) other is = after_keeps s call other is
    next_keeps s call (Rows page) other is = after_keeps s call other is
    next_keeps s call (Given job) other is = after_keeps s call other is
    next_keeps s call (Handed input) other is = after_keeps s call other is
    next_keeps s call Unread other is = is

    step_keeps : (m : Machine) (step : Step) (reply : Reply) → step ≢ Called (Release n) → snapshot_of m.state n ≡ Some x → snapshot_of (next_machine m step reply).state n ≡ Some x
    step_keeps m (Called call) reply other is = next_keeps m.state call reply (λ same. other (ap Called same)) is
    step_keeps m (Worked piece) reply other is = work_keeps (λ s. snapshot_of s n) (λ s o. refl) (λ flush s. refl) m piece reply ∙ is

    history_keeps : (m : Machine) (log : List Event) → AreServed m log → All (λ e. e.step ≢ Called (Release n)) log → snapshot_of m.state n ≡ Some x → snapshot_of (machine_behind m log).state n ≡ Some x
    history_keeps m [] served others is = is
    history_keeps m (e ∷ log) (may, goes, served) others is =
        let kept = step_keeps m e.step e.reply (All-head (λ (x : Event). x.step ≢ Called (Release n)) e log others) is in
        history_keeps e.machine log served (All-tail (λ (x : Event). x.step ≢ Called (Release n)) e log others) (ap (λ (s : State). snapshot_of s n) goes.state ∙ kept)

-- the base, as it was pinned
abbrev base : Begin → LiveSnapshot
base b = next_taken b.store.state

pub base_kept : (b : Begin) (log : List Event) → IsLegal b log → snapshot_of (state_after b log) (base_of b) ≡ Some (base b)
base_kept b log legal = history_keeps (base_of b) (base b) (first_machine b) log legal.served legal.keeps_base (found_last (base_of b) (base b) b.store.state.snapshots legal.pinned.fresh refl)

pub base_live : (b : Begin) (log : List Event) → IsLegal b log → may_ask (state_after b log) (Snap (base_of b)) ≡ true
base_live b log legal = ap is_some (base_kept b log legal)

pub base_map : (b : Begin) (log : List Event) → IsLegal b log → map_at (state_after b log) (Snap (base_of b)) ≡ present_map b.store.state.points
base_map b log legal = ap map_of_snapshot (base_kept b log legal)
