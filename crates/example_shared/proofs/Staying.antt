-- What a client stored stays under its key, whatever steps others make that leave the key alone.
use Rattle.std.proofs.Common.{◌≡◌, ℕ, suc, Bool, true, false, ⊎_elim, Option, Some, None, List, [], ◌∷◌, ◌++◌, map, if◌then◌else◌, refl, ap, sym, ◌∙◌, subst}
use Rattle.std.specs.FinMap as finite
use Rattle.std.specs.List.{AllByRecursion}
use Rattle.std.specs.Prelude.{Contains, nat_le}
use Rattle.lsm_codec.specs.Keys.{Bytes}
use Rattle.lsm_codec.specs.Map.{Map, Operation, apply}
use Rattle.lsm_device.specs.declared.refusal.Refusal.TheVariants.{Io}
use Rattle.lsm_jobs.specs.Slots.{Slot}
use Rattle.lsm_levels.specs.Pick.{is_flush}
use Rattle.lsm_root.specs.CrashState.{CrashState}
use Rattle.lsm_machine.specs.Calls.{Call, Reply}
use Rattle.lsm_machine.specs.Calls.{Commit, CommitIf, Sync, SyncTo, Get, Scan, Snapshot, Release, Rotate, LogRoom, Refused, Unread}
use Rattle.lsm_machine.specs.Crash.{crash_state_at, last_crash_state, left_with, left_besides, may_leave}
use Rattle.lsm_machine.specs.Effects.{Use, use_of, after, committed, installed}
use Rattle.lsm_machine.specs.Effects.{Untouched, Reads, Changes}
use Rattle.lsm_machine.specs.Machine.{Machine, Step, Called, Worked}
use Rattle.lsm_machine.specs.RecoveryPoints.{points_from, last_map, present_map, all_synced}
use Rattle.lsm_machine.specs.Run.{after_fault, next, next_machine}
use Rattle.lsm_machine.specs.State.{State}
use Rattle.lsm_machine.specs.Work.{Work, Take, Read, Ask, Accept, Write, Install, Drop}
use Rattle.lsm_machine.specs.WorkEffects.{work_use, state_after}
use Rattle.lsm_machine.specs.WorkRefusals.{held, of_slot}
use Rattle.lsm_machine.specs.WorkReplies.{work_left_besides, after_work_fault, next_worked}
use Rattle.lsm_machine.proofs.Membership.{none_in, in_cases}

-- a step leaves a key alone: whatever batch it commits has no operation on it
abbrev pub LeavesAlone : Bytes → Step → Type 0
LeavesAlone key (Called (Commit batch)) = (m : Map) → finite.get (apply m batch) key ≡ finite.get m key
LeavesAlone key (Called (CommitIf guards batch)) = (m : Map) → finite.get (apply m batch) key ≡ finite.get m key
LeavesAlone key other = Unit {0}

-- ---- recovery points

pub last_push : (m : Map) (later : List Map) (next : Map) → last_map m (later ++ next ∷ []) ≡ next
last_push m [] next = refl
last_push m (x ∷ later) next = last_push x later next

all_append : {A : Type 0} (P : A → Type 0) (xs ys : List A) → AllByRecursion P xs → AllByRecursion P ys → AllByRecursion P (xs ++ ys)
all_append P [] ys all more = more
all_append P (x ∷ xs) ys all more = (all.0, all_append P xs ys all.1 more)

pub all_in : {A : Type 0} (P : A → Type 0) (xs : List A) (x : A) → AllByRecursion P xs → Contains xs x → P x
all_in P [] x all found = absurd (none_in x found)
all_in P (y ∷ ys) x all found = ⊎_elim (λ same. subst P (sym same) all.0) (λ later. all_in P ys x all.1 later) (in_cases y x ys found)

module _ (key value : Bytes) where
  -- the value stands under the key
  abbrev pub Has : Map → Type 0
  Has m = finite.get m key ≡ Some value

  -- so it is in each of these
  abbrev LeftHave : List CrashState → Type 0
  LeftHave lefts = AllByRecursion (λ (left : CrashState). Has left.map) lefts

  abbrev pub OthersHave : Option (List CrashState) → Type 0
  OthersHave None = Unit {0}
  OthersHave (Some lefts) = LeftHave lefts

  -- in the present map of a state
  abbrev pub HasNow : State → Type 0
  HasNow s = Has (present_map s.points)

  -- and in each map to which a crash may fall back
  pub record Stays (s : State) : Type 0 where
    pub maps : AllByRecursion Has (s.points.first ∷ s.points.later)
    pub others : OthersHave s.stopped

  last_has : (m : Map) (later : List Map) → AllByRecursion Has (m ∷ later) → Has (last_map m later)
  last_has m [] all = all.0
  last_has m (next ∷ later) all = last_has next later all.1

  now : (s : State) → Stays s → HasNow s
  now s stays = last_has s.points.first s.points.later stays.maps

  points_have : (s : State) (count : ℕ) (m : Map) (later : List Map) → AllByRecursion Has (m ∷ later) → LeftHave (map (crash_state_at s) (points_from count m later))
  points_have s count m [] all = (all.0, tt)
  points_have s count m (next ∷ later) all = (all.0, points_have s (suc count) next later all.1)

  pub all_left : (s : State) → Stays s → LeftHave (may_leave s)
  all_left s stays = by s.stopped stays.others
    where
      between : LeftHave (map (crash_state_at s) (points_from s.points.synced s.points.first s.points.later))
      between = points_have s s.points.synced s.points.first s.points.later stays.maps

      by : (others : Option (List CrashState)) → OthersHave others → LeftHave (left_with s others)
      by None have = between
      by (Some lefts) have = all_append (λ (left : CrashState). Has left.map) _ lefts between have

  -- ---- calls

  now_committed : (s : State) (batch : List Operation) → ((m : Map) → finite.get (apply m batch) key ≡ finite.get m key) → HasNow s → HasNow (committed s batch)
  now_committed s batch alone has = ap (λ (m : Map). finite.get m key) (last_push s.points.first s.points.later (apply (present_map s.points) batch)) ∙ alone (present_map s.points) ∙ has

  now_after : (s : State) (call : Call) → LeavesAlone key (Called call) → HasNow s → HasNow (after s call)
  now_after s (Commit batch) alone has = now_committed s batch alone has
  now_after s (CommitIf guards batch) alone has = now_committed s batch alone has
  now_after s Sync alone has = has
  now_after s (SyncTo number) alone has = by (nat_le number s.points.synced)
    where
      by : (b : Bool) → HasNow (if b then s else record s { points = all_synced s.points })
      by true = has
      by false = has
  now_after s (Get at k) alone has = has
  now_after s (Scan at from to limit) alone has = has
  now_after s Snapshot alone has = has
  now_after s (Release number) alone has = has
  now_after s Rotate alone has = has
  now_after s LogRoom alone has = has

  now_fault : (s : State) (call : Call) (most : Use) → HasNow s → HasNow (after_fault s call most)
  now_fault s call Untouched has = has
  now_fault s call Reads has = has
  now_fault s call Changes has = has

  now_next : (s : State) (call : Call) (reply : Reply) → LeavesAlone key (Called call) → HasNow s → HasNow (next s call reply)
  now_next s call (Refused Io) alone has = now_fault s call (use_of s call) has
  now_next s call (Refused e) alone has = has
  now_next s call Unread alone has = has
  now_next s call reply alone has = now_after s call alone has

  pub at_rest : (s : State) → HasNow s → OthersHave s.stopped → Stays (record s { points = all_synced s.points })
  at_rest s has others = record { maps = (has, tt); others = others }

  stays_committed : (s : State) (batch : List Operation) → ((m : Map) → finite.get (apply m batch) key ≡ finite.get m key) → Stays s → Stays (committed s batch)
  stays_committed s batch alone stays = record {
    maps = all_append Has (s.points.first ∷ s.points.later) (apply (present_map s.points) batch ∷ []) stays.maps (alone (present_map s.points) ∙ now s stays, tt);
    others = stays.others;
  }

  stays_after : (s : State) (call : Call) → LeavesAlone key (Called call) → Stays s → Stays (after s call)
  stays_after s (Commit batch) alone stays = stays_committed s batch alone stays
  stays_after s (CommitIf guards batch) alone stays = stays_committed s batch alone stays
  stays_after s Sync alone stays = at_rest s (now s stays) stays.others
  stays_after s (SyncTo number) alone stays = by (nat_le number s.points.synced)
    where
      by : (b : Bool) → Stays (if b then s else record s { points = all_synced s.points })
      by true = stays
      by false = at_rest s (now s stays) stays.others
  stays_after s (Get at k) alone stays = stays
  stays_after s (Scan at from to limit) alone stays = stays
  stays_after s Snapshot alone stays = record { maps = stays.maps; others = stays.others }
  stays_after s (Release number) alone stays = record { maps = stays.maps; others = stays.others }
  stays_after s Rotate alone stays = record { maps = (now s stays, tt); others = stays.others }
  stays_after s LogRoom alone stays = stays

  besides_have : (s : State) (call : Call) → LeavesAlone key (Called call) → HasNow s → LeftHave (left_besides s call)
  besides_have s (Commit batch) alone has = (now_committed s batch alone has, tt)
  besides_have s (CommitIf guards batch) alone has = (now_committed s batch alone has, tt)
  besides_have s Sync alone has = (has, tt)
  besides_have s (SyncTo number) alone has = by (nat_le number s.points.synced)
    where
      by : (b : Bool) → LeftHave (last_crash_state (if b then s else record s { points = all_synced s.points }) ∷ [])
      by true = (has, tt)
      by false = (has, tt)
  besides_have s (Get at k) alone has = (has, tt)
  besides_have s (Scan at from to limit) alone has = (has, tt)
  besides_have s Snapshot alone has = (has, tt)
  besides_have s (Release number) alone has = (has, tt)
  besides_have s Rotate alone has = (has, tt)
  besides_have s LogRoom alone has = (has, tt)

  stays_fault : (s : State) (call : Call) (most : Use) → LeavesAlone key (Called call) → Stays s → Stays (after_fault s call most)
  stays_fault s call Untouched alone stays = stays
  stays_fault s call Reads alone stays = stays
  stays_fault s call Changes alone stays = record { maps = stays.maps; others = besides_have s call alone (now s stays) }

  stays_next : (s : State) (call : Call) (reply : Reply) → LeavesAlone key (Called call) → Stays s → Stays (next s call reply)
  stays_next s call (Refused Io) alone stays = stays_fault s call (use_of s call) alone stays
  stays_next s call (Refused e) alone stays = stays
  stays_next s call Unread alone stays = stays
  stays_next s call reply alone stays = stays_after s call alone stays

  -- ---- pieces of work

  now_worked : (m : Machine) (piece : Work) → HasNow m.state → HasNow (state_after m piece)
  now_worked m (Take asked) has = has
  now_worked m (Read job) has = has
  now_worked m (Ask job) has = has
  now_worked m (Accept job result) has = has
  now_worked m (Write job) has = has
  now_worked m (Install job) has = by (held m job)
    where
      by : (slot : Option Slot) → HasNow (of_slot m.state (λ one. installed (is_flush one.job) m.state) slot)
      by None = has
      by (Some slot) = has
  now_worked m (Drop job) has = has

  now_work_fault : (m : Machine) (piece : Work) (most : Use) → HasNow m.state → HasNow (after_work_fault m piece most).state
  now_work_fault m piece Untouched has = has
  now_work_fault m piece Reads has = has
  now_work_fault m piece Changes has = has

  now_work : (m : Machine) (piece : Work) (reply : Reply) → HasNow m.state → HasNow (next_worked m piece reply).state
  now_work m piece (Refused Io) has = now_work_fault m piece (work_use m piece) has
  now_work m piece (Refused e) has = has
  now_work m piece reply has = now_worked m piece has

  stays_worked : (m : Machine) (piece : Work) → Stays m.state → Stays (state_after m piece)
  stays_worked m (Take asked) stays = stays
  stays_worked m (Read job) stays = stays
  stays_worked m (Ask job) stays = stays
  stays_worked m (Accept job result) stays = stays
  stays_worked m (Write job) stays = stays
  stays_worked m (Install job) stays = by (held m job)
    where
      by : (slot : Option Slot) → Stays (of_slot m.state (λ one. installed (is_flush one.job) m.state) slot)
      by None = stays
      by (Some slot) = record { maps = (now m.state stays, tt); others = stays.others }
  stays_worked m (Drop job) stays = stays

  work_besides_have : (m : Machine) (piece : Work) → HasNow m.state → LeftHave (work_left_besides m piece)
  work_besides_have m (Take asked) has = tt
  work_besides_have m (Read job) has = tt
  work_besides_have m (Ask job) has = tt
  work_besides_have m (Accept job result) has = tt
  work_besides_have m (Write job) has = tt
  work_besides_have m (Install job) has = (now_worked m (Install job) has, tt)
  work_besides_have m (Drop job) has = tt

  stays_work_fault : (m : Machine) (piece : Work) (most : Use) → Stays m.state → Stays (after_work_fault m piece most).state
  stays_work_fault m piece Untouched stays = stays
  stays_work_fault m piece Reads stays = stays
  stays_work_fault m piece Changes stays = record { maps = stays.maps; others = work_besides_have m piece (now m.state stays) }

  stays_work : (m : Machine) (piece : Work) (reply : Reply) → Stays m.state → Stays (next_worked m piece reply).state
  stays_work m piece (Refused Io) stays = stays_work_fault m piece (work_use m piece) stays
  stays_work m piece (Refused e) stays = stays
  stays_work m piece reply stays = stays_worked m piece stays

  -- ---- steps

  pub now_step : (m : Machine) (step : Step) (reply : Reply) → LeavesAlone key step → HasNow m.state → HasNow (next_machine m step reply).state
  now_step m (Called call) reply alone has = now_next m.state call reply alone has
  now_step m (Worked piece) reply alone has = now_work m piece reply has

  pub stays_step : (m : Machine) (step : Step) (reply : Reply) → LeavesAlone key step → Stays m.state → Stays (next_machine m step reply).state
  stays_step m (Called call) reply alone stays = stays_next m.state call reply alone stays
  stays_step m (Worked piece) reply alone stays = stays_work m piece reply stays
