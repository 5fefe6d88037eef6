-- What two clients stored outlasts crashes, whoever else works on the jobs of their store.
use Rattle.std.proofs.Common.{◌≡◌, ◌≢◌, ℕ, zero, suc, ◌+◌, ◌≤◌, ◌==◌, Bool, true, false, cond, Option, Some, None, List, [], ◌∷◌, if◌then◌else◌, refl, ap, sym, ◌∙◌, subst, arith, eq-eqb}
use Rattle.std.proofs.lemmas.Cmp.{nat_list_cmp_total, tied_itself}
use Rattle.std.specs.FinMap as finite
use Rattle.std.specs.FinMap.{get-insert, nat_cmp-IsAntisymmetric, slice_cmp-IsAntisymmetric}
use Rattle.std.specs.List.{AllByRecursion}
use Rattle.std.specs.Ordering.{is_eq}
use Rattle.std.specs.Prelude.{Contains, is_some}
use Rattle.std.specs.declared.cmp.Ordering.{Ordering}
use Rattle.std.specs.declared.cmp.Ordering.TheVariants.{Less, Equal, Greater}
use Rattle.lsm_codec.specs.Keys.{Bytes, byte_order}
use Rattle.lsm_codec.specs.Map.{Map, Operation, apply}
use Rattle.lsm_device.specs.Disk.{image}
use Rattle.lsm_device.specs.Medium.{disk}
use Rattle.lsm_device.specs.Outcomes.{Leaves}
use Rattle.lsm_device.specs.declared.refusal.Refusal.TheVariants.{Stopped}
use Rattle.lsm_root.specs.CrashState.{CrashState}
use Rattle.lsm_open.specs.Image.{StandFor}
use Rattle.lsm_open.specs.Recovering.{StandForOne}
use Rattle.lsm_store.specs.Backing.{StoreView, IsBacked}
use Rattle.lsm_machine.specs.Calls.{Call, Reply}
use Rattle.lsm_machine.specs.Calls.{Commit, Sync, Number, Done, Value, Rows, Given, Handed, Refused, Unread}
use Rattle.lsm_machine.specs.Crash.{may_leave}
use Rattle.lsm_machine.specs.Effects.{after, decided, reply_by}
use Rattle.lsm_machine.specs.Machine.{Machine, Step, Called, Worked}
use Rattle.lsm_machine.specs.RecoveryPoints.{present_map}
use Rattle.lsm_machine.specs.Refusals.{first_refusal}
use Rattle.lsm_machine.specs.Run.{Allows, AllowsStep, Run, next, next_machine, last_machine}
use Rattle.lsm_machine.specs.State.{State}
use Rattle.lsm_lives.specs.Asked.{Replied}
use Rattle.lsm_trail.specs.Begins.{Begin, first_machine}
use Rattle.lsm_trail.specs.History.{Event, called, steps_of, replies_of, entries_by, is_call, calls_in, IsLegal, state_after, TrailView}
use Rattle.lsm_trail.specs.Knowledge.{Known}
use Rattle.lsm_shared.specs.Sessions.{begin_with, IsEnded}
use Rattle.example_shared.specs.Shares.{one_put, IsAnswer, IsStored, IsShared, HasBoth, OutlastCrashes}
use Rattle.example_shared.proofs.Staying.{LeavesAlone, Has, HasNow, Stays, OthersHave, last_push, all_in, all_left, at_rest, now_step, stays_step}

-- ---- maps with one value put

get_same : (m : Map) (key value : Bytes) → finite.get (finite.insert m key value) key ≡ Some value
get_same m key value = get-insert nat_list_cmp_total m key value key
    ∙ ap (λ (b : Bool). cond b (Some value) (finite.get m key)) (ap is_eq (tied_itself nat_list_cmp_total key))

told_apart : (a b : Bytes) → a ≢ b → (o : Ordering) → byte_order a b ≡ o → is_eq o ≡ false
told_apart a b apart Less is = refl
told_apart a b apart Equal is = absurd (apart (slice_cmp-IsAntisymmetric nat_cmp-IsAntisymmetric a b is))
told_apart a b apart Greater is = refl

get_other : (m : Map) (key value other : Bytes) → other ≢ key → finite.get (finite.insert m key value) other ≡ finite.get m other
get_other m key value other apart = get-insert nat_list_cmp_total m key value other
    ∙ ap (λ (b : Bool). cond b (Some value) (finite.get m other)) (told_apart other key apart (byte_order other key) refl)

-- ---- calls that were answered

answered : (s : State) (call : Call) (reply : Reply) → IsAnswer (Replied reply) → next s call reply ≡ after s call
answered s call (Number n) is = refl
answered s call Done is = refl
answered s call (Value v) is = refl
answered s call (Rows page) is = refl
answered s call (Given job) is = refl
answered s call (Handed input) is = refl
answered s call (Refused e) is = absurd is
answered s call Unread is = absurd is

-- so the state has decided it
is_decided : (s : State) (call : Call) (reply : Reply) → IsAnswer (Replied reply) → Allows s call reply → reply ≡ decided s call
is_decided s call (Refused e) is allowed = absurd is
is_decided s call Unread is allowed = absurd is
is_decided s call reply is allowed = allowed

-- and a store that has synced was not stopped
not_stopped : (s : State) (reply : Reply) → IsAnswer (Replied reply) → Allows s Sync reply → s.stopped ≡ None
not_stopped s reply is allowed = by s.stopped refl
  where
    by : (stopped : Option (List CrashState)) → s.stopped ≡ stopped → s.stopped ≡ None
    by None e = e
    by (Some lefts) e = absurd (subst (λ (r : Reply). IsAnswer (Replied r)) (is_decided s Sync reply is allowed ∙ ap (λ (o : Option (List CrashState)). reply_by s Sync (first_refusal ((is_some o, Stopped) ∷ []))) e) is)

-- ---- the entries of one client, and those of others

-- the machine after these entries, as the replies tell it
abbrev behind : Machine → List Event → Machine
behind m log = last_machine m (steps_of log) (replies_of log)

abbrev AreRun : Machine → List Event → Type 0
AreRun m log = Run m (steps_of log) (replies_of log)

module _ (key value : Bytes) (client : ℕ) where
  -- whatever others enter leaves the key alone
  abbrev OthersLeaveAlone : List Event → Type 0
  OthersLeaveAlone log = AllByRecursion (λ (e : Event). (e.client == client) ≡ false → LeavesAlone key e.step) log

  -- none of these entries is the client's
  not_mine : (e : Event) (log : List Event) → entries_by client (e ∷ log) ≡ [] → ((e.client == client) ≡ false) × (entries_by client log ≡ [])
  not_mine e log none = by (e.client == client) refl none
    where
      by : (b : Bool) → (e.client == client) ≡ b → (if b then e ∷ entries_by client log else entries_by client log) ≡ [] → ((e.client == client) ≡ false) × (entries_by client log ≡ [])
      by true is none = absurd (cc none)
      by false is none = (is, none)

  -- what outlasts crashes still does after entries of others
  goes_on : (m : Machine) (log : List Event) → OthersLeaveAlone log → entries_by client log ≡ [] → Stays key value m.state → Stays key value (behind m log).state
  goes_on m [] alone none stays = stays
  goes_on m (e ∷ log) alone none stays =
      let theirs = not_mine e log none in
      goes_on (next_machine m e.step e.reply) log alone.1 theirs.1 (stays_step key value m e.step e.reply (alone.0 theirs.0) stays)

  -- a sync of the client makes it so
  syncs : (m : Machine) (e : Event) (reply : Reply) (machine : Machine) → e ≡ called client Sync reply machine → IsAnswer (Replied reply) → AllowsStep m e.step e.reply → HasNow key value m.state → Stays key value (next_machine m e.step e.reply).state
  syncs m e reply machine is answer allowed has = subst (λ (x : Event). Stays key value (next_machine m x.step x.reply).state) (sym is) here
    where
      allows : Allows m.state Sync reply
      allows = subst (λ (x : Event). AllowsStep m x.step x.reply) is allowed

      here : Stays key value (next m.state Sync reply)
      here = subst (Stays key value) (sym (answered m.state Sync reply answer))
          (at_rest key value m.state has (subst (OthersHave key value) (sym (not_stopped m.state reply answer allows)) tt))

  -- a commit of the client puts the value there
  commits : (m : Machine) (e : Event) (reply : Reply) (machine : Machine) → e ≡ called client (Commit (one_put key value)) reply machine → IsAnswer (Replied reply) → HasNow key value (next_machine m e.step e.reply).state
  commits m e reply machine is answer = subst (λ (x : Event). HasNow key value (next_machine m x.step x.reply).state) (sym is)
      (subst (HasNow key value) (sym (answered m.state (Commit (one_put key value)) reply answer))
      (ap (λ (m : Map). finite.get m key) (last_push m.state.points.first m.state.points.later (apply (present_map m.state.points) (one_put key value))) ∙ get_same (present_map m.state.points) key value))

  until_sync : (m : Machine) (log : List Event) (reply : Reply) (machine : Machine) → AreRun m log → OthersLeaveAlone log → IsAnswer (Replied reply)
      → entries_by client log ≡ called client Sync reply machine ∷ [] → HasNow key value m.state → Stays key value (behind m log).state
  until_sync m [] reply machine run alone answer are has = absurd (cc are)
  until_sync m (e ∷ log) reply machine run alone answer are has = by (e.client == client) refl are
      (λ theirs rest. until_sync (next_machine m e.step e.reply) log reply machine run.1 alone.1 answer rest (now_step key value m e.step e.reply (alone.0 theirs) has))
    where
      by : (b : Bool) → (e.client == client) ≡ b → (if b then e ∷ entries_by client log else entries_by client log) ≡ called client Sync reply machine ∷ []
          → ((e.client == client) ≡ false → entries_by client log ≡ called client Sync reply machine ∷ [] → Stays key value (behind (next_machine m e.step e.reply) log).state)
          → Stays key value (behind (next_machine m e.step e.reply) log).state
      by true mine are later = goes_on (next_machine m e.step e.reply) log alone.1 (cc are) (syncs m e reply machine (cc are) answer run.0 has)
      by false theirs are later = later theirs are

  until_commit : (m : Machine) (log : List Event) (committed synced : Reply) (one two : Machine) → AreRun m log → OthersLeaveAlone log → IsAnswer (Replied committed) → IsAnswer (Replied synced)
      → entries_by client log ≡ called client (Commit (one_put key value)) committed one ∷ called client Sync synced two ∷ [] → Stays key value (behind m log).state
  until_commit m [] committed synced one two run alone commit sync are = absurd (cc are)
  until_commit m (e ∷ log) committed synced one two run alone commit sync are = by (e.client == client) refl are
      (λ theirs rest. until_commit (next_machine m e.step e.reply) log committed synced one two run.1 alone.1 commit sync rest)
    where
      by : (b : Bool) → (e.client == client) ≡ b → (if b then e ∷ entries_by client log else entries_by client log) ≡ called client (Commit (one_put key value)) committed one ∷ called client Sync synced two ∷ []
          → ((e.client == client) ≡ false → entries_by client log ≡ called client (Commit (one_put key value)) committed one ∷ called client Sync synced two ∷ [] → Stays key value (behind (next_machine m e.step e.reply) log).state)
          → Stays key value (behind (next_machine m e.step e.reply) log).state
      by true mine are later = until_sync (next_machine m e.step e.reply) log synced two run.1 alone.1 sync (cc are) (commits m e committed one (cc are) commit)
      by false theirs are later = later theirs are

  -- ---- which entries leave the key alone

  abbrev AllLeaveAlone : List Event → Type 0
  AllLeaveAlone log = AllByRecursion (λ (e : Event). LeavesAlone key e.step) log

  -- where those of each other client do
  others_do : (log : List Event) → ((x : ℕ) → (x == client) ≡ false → AllLeaveAlone (entries_by x log)) → OthersLeaveAlone log
  others_do [] each = tt
  others_do (e ∷ log) each = (
    λ other. (subst (λ (b : Bool). AllLeaveAlone (if b then e ∷ entries_by e.client log else entries_by e.client log)) (eq-eqb e.client e.client refl) (each e.client other)).0,
    others_do log (λ x other. rest x (e.client == x) (each x other)),
  )
    where
      rest : (x : ℕ) (b : Bool) → AllLeaveAlone (if b then e ∷ entries_by x log else entries_by x log) → AllLeaveAlone (entries_by x log)
      rest x true all = all.1
      rest x false all = all

  -- pieces of work do
  work_does : (log : List Event) → calls_in log ≡ 0 → AllLeaveAlone log
  work_does [] none = tt
  work_does (e ∷ log) none = (by e.step none, work_does log (omega (arith, none)))
    where
      by : (step : Step) → (if is_call step then 1 else 0) + calls_in log ≡ 0 → LeavesAlone key step
      by (Called call) none = absurd (omega (arith, none))
      by (Worked piece) none = tt

  -- who stored another value under another key does
  store_does : (other : Bytes × Bytes) (number : ℕ) (log : List Event) → key ≢ other.0 → IsStored number (one_put other.0 other.1) log → AllLeaveAlone log
  store_does other number log apart stored = subst AllLeaveAlone (sym stored.are) ((λ m. get_other m other.0 other.1 key apart), (tt, tt))

-- ---- both values

module _ (first second : Bytes × Bytes) (apart : first.0 ≢ second.0) (b : Begin) (log : List Event)
    (one : IsStored 0 (one_put first.0 first.1) (entries_by 0 log)) (two : IsStored 1 (one_put second.0 second.1) (entries_by 1 log))
    (work : (x : ℕ) → 2 ≤ x → calls_in (entries_by x log) ≡ 0) where
  beside_first : (x : ℕ) → (x == 0) ≡ false → AllLeaveAlone first.0 first.1 0 (entries_by x log)
  beside_first zero other = absurd (cc other)
  beside_first (suc zero) other = store_does first.0 first.1 0 second 1 (entries_by 1 log) apart two
  beside_first (suc (suc x)) other = work_does first.0 first.1 0 (entries_by (suc (suc x)) log) (work (suc (suc x)) (omega arith))

  beside_second : (x : ℕ) → (x == 1) ≡ false → AllLeaveAlone second.0 second.1 1 (entries_by x log)
  beside_second zero other = store_does second.0 second.1 1 first 0 (entries_by 0 log) (λ same. apart (sym same)) one
  beside_second (suc zero) other = absurd (cc other)
  beside_second (suc (suc x)) other = work_does second.0 second.1 1 (entries_by (suc (suc x)) log) (work (suc (suc x)) (omega arith))

  -- whatever a crash leaves has both
  both_left : IsLegal b log → IsBacked b.store → (left : CrashState) → Contains (may_leave (state_after b log)) left → HasBoth first second left.map
  both_left legal backed left found =
      let runs = legal.run backed in
      let here = subst (λ (s : State). Contains (may_leave s) left) runs.state found in
      let first_stays = until_commit first.0 first.1 0 (first_machine b) log one.committed one.synced one.machines.0 one.machines.1 runs.run (others_do first.0 first.1 0 log beside_first) one.answered.0 one.answered.1 one.are in
      let second_stays = until_commit second.0 second.1 1 (first_machine b) log two.committed two.synced two.machines.0 two.machines.1 runs.run (others_do second.0 second.1 1 log beside_second) two.answered.0 two.answered.1 two.are in (
        all_in (λ (left : CrashState). Has first.0 first.1 left.map) (may_leave (behind (first_machine b) log).state) left (all_left first.0 first.1 _ first_stays) here,
        all_in (λ (left : CrashState). Has second.0 second.1 left.map) (may_leave (behind (first_machine b) log).state) left (all_left second.0 second.1 _ second_stays) here,
      )

-- when a session has ended, a crash leaves what the state after its trail may leave
abbrev TrailTells : Type 0
TrailTells = (b : Begin) (clients : List Known) (store : StoreView) (trail : TrailView) → IsEnded b clients store trail → IsBacked b.store
    → Leaves (StandForOne b.store.state.log_sectors (may_leave (state_after b trail.log))) (disk store.device)

-- and so both values outlast crashes
pub both_outlast : (first second : Bytes × Bytes) → first.0 ≢ second.0 → (old : StoreView) (clients limit : ℕ) (b : Begin) (one two : List Operation) (store : StoreView) (trail : TrailView)
    → old.state.log_sectors ≡ 128 → IsBacked old → b ≡ begin_with old clients limit → one ≡ one_put first.0 first.1 → two ≡ one_put second.0 second.1
    → TrailTells → IsShared b one two store trail → OutlastCrashes first second store
both_outlast first second apart old clients limit b one two store trail sectors backed begin_is one_is two_is tells shared = λ mask.
    let is_backed : IsBacked b.store = subst (λ (c : Begin). IsBacked c.store) (sym begin_is) backed in
    let first_stored = subst (λ (l : List Operation). IsStored 0 l (entries_by 0 trail.log)) one_is shared.first_stored in
    let second_stored = subst (λ (l : List Operation). IsStored 1 l (entries_by 1 trail.log)) two_is shared.second_stored in
    let left = tells b shared.clients store trail shared.ended is_backed mask in (
      left.0,
      both_left first second apart b trail.log first_stored second_stored shared.others shared.ended.legal is_backed left.0 left.1,
      subst (λ (n : ℕ). StandFor n left.0 (image mask (disk store.device))) (ap (λ (c : Begin). c.store.state.log_sectors) begin_is ∙ sectors) left.2,
    )
