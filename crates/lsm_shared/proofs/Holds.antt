-- What one hold of the lock does to a session.
use Rattle.std.proofs.Common.{◌≡◌, ◌≢◌, ℕ, ◌+◌, ◌<◌, ◌≤◌, ◌==◌, Bool, true, false, cond, is_some, List, [], ◌∷◌, ◌++◌, length, Some, None, Result, Ok, Err, refl, ap, sym, ◌∙◌, subst, arith, zero-le, append_assoc, length-append}
use Rattle.std.specs.Prelude.{IsTrue, IsNone, IfErr, IsErrAnd, MatchResult}
use Rattle.std.proofs.lemmas.Bool.Decides.{nat_tests}
use Rattle.std.proofs.lemmas.List.{append-nil}
use Rattle.lsm_device.specs.declared.refusal.Refusal.{Refusal}
use Rattle.lsm_device.specs.declared.refusal.Refusal.TheVariants.{NoMemory, Io}
use Rattle.lsm_store.specs.Backing.{StoreView, IsBacked, machine_of}
use Rattle.lsm_machine.specs.Calls.{Call, Reply}
use Rattle.lsm_machine.specs.Calls.{Commit, CommitIf, Sync, SyncTo, Get, Scan, Snapshot, Release, Rotate, LogRoom, Number, Done, Value, Rows, Given, Handed, Refused, Unread}
use Rattle.lsm_machine.specs.Effects.{after, takes_memory}
use Rattle.lsm_machine.specs.Machine.{Machine, Step, Called, Worked}
use Rattle.lsm_machine.specs.Run.{Allows, Admits, AllowsStep, AdmitsStep, GoesTo, asks_value, asks_page, next, next_machine}
use Rattle.lsm_merge.specs.Inputs.{MergeInput}
use Rattle.lsm_store.specs.Serving.{Serves, reply_in}
use Rattle.lsm_machine.specs.State.{State}
use Rattle.lsm_machine.specs.WorkEffects.{work_called, work_by}
use Rattle.lsm_store.specs.Working.{ServesStep}
use Rattle.lsm_machine.proofs.Running.{value_wanted, page_wanted}
use Rattle.lsm_store.proofs.ServedSteps.{served_goes, served_work}
use Rattle.lsm_machine.proofs.Steps.{step_stopped}
use Rattle.lsm_trail.specs.Begins.{base_of}
use Rattle.lsm_trail.specs.Following.{MayFollow}
use Rattle.lsm_trail.specs.History.{Event, event, called, replies_of, IsLegal, inputs_of, IsNextNumber, TakesResult, machine_after, entries_by}
use Rattle.lsm_trail.specs.Knowledge.{SessionId, Known, known}
use Rattle.lsm_trail.proofs.Histories.{after_more, legal_none, entries_by-mine}
use Rattle.lsm_trail.proofs.Lists.{prefix_self}
use Rattle.lsm_lives.specs.Asked.{Told, Replied}
use Rattle.lsm_lives.specs.Calls.{reply_of, told_of}
use Rattle.lsm_lives.specs.declared.calls.Reply.{Reply as GivenReply}
use Rattle.lsm_lives.proofs.Made.{called_told}
use Rattle.lsm_shared.specs.Holds.{AreServedBy}
use Rattle.lsm_shared.specs.Sessions.{IsPinned, SessionView, IsSession, Knows, Finds, HasSeen, Enters, EntersOne, EntersStep, IsMade, IsFull, IsReserved, FindsNoMemory, IsLost}
use Rattle.lsm_shared.proofs.Faults.{device_unused, device_entered, device_kept}

-- ---- a step that a store served

served_admits : (old : StoreView) (step : Step) (reply : Reply) (new : StoreView) → ServesStep old step reply new → AdmitsStep (machine_of old) step reply
served_admits old (Called call) reply new serves = serves.admitted
served_admits old (Worked piece) reply new works = works.admitted

served_allows : (old : StoreView) (step : Step) (reply : Reply) (new : StoreView) → ServesStep old step reply new → IsBacked old → AllowsStep (machine_of old) step reply
served_allows old (Called call) reply new serves = serves.allowed
served_allows old (Worked piece) reply new works = works.allowed

served_backed : (old : StoreView) (step : Step) (reply : Reply) (new : StoreView) → ServesStep old step reply new → IsBacked old → IsBacked new
served_backed old (Called call) reply new serves = serves.backed
served_backed old (Worked piece) reply new works = works.backed

-- ---- a reply for which memory was short

-- a call that asks for a value changes nothing, and takes memory
value_kept : (m : Machine) (call : Call) → IsTrue (asks_value call) → (after m.state call ≡ m.state) × (work_called m call ≡ m.work) × IsTrue (takes_memory call)
value_kept m (Get at key) is = (refl, refl, refl)
value_kept m (Commit batch) is = absurd (cc is)
value_kept m (CommitIf guards batch) is = absurd (cc is)
value_kept m Sync is = absurd (cc is)
value_kept m (SyncTo number) is = absurd (cc is)
value_kept m (Scan at from to limit) is = absurd (cc is)
value_kept m Snapshot is = absurd (cc is)
value_kept m (Release number) is = absurd (cc is)
value_kept m Rotate is = absurd (cc is)
value_kept m LogRoom is = absurd (cc is)

-- and so does one that asks for a page
page_kept : (m : Machine) (call : Call) → IsTrue (asks_page call) → (after m.state call ≡ m.state) × (work_called m call ≡ m.work) × IsTrue (takes_memory call)
page_kept m (Scan at from to limit) is = (refl, refl, refl)
page_kept m (Commit batch) is = absurd (cc is)
page_kept m (CommitIf guards batch) is = absurd (cc is)
page_kept m Sync is = absurd (cc is)
page_kept m (SyncTo number) is = absurd (cc is)
page_kept m (Get at key) is = absurd (cc is)
page_kept m Snapshot is = absurd (cc is)
page_kept m (Release number) is = absurd (cc is)
page_kept m Rotate is = absurd (cc is)
page_kept m LogRoom is = absurd (cc is)

-- a reply for which memory was short has changed nothing
lost : (m : Machine) (call : Call) (reply : Reply) → Admits m.state call reply → IsLost reply → (next m.state call reply ≡ m.state) × (work_by m call reply ≡ m.work) × Admits m.state call (Refused NoMemory)
lost m call (Refused NoMemory) admitted short = (refl, refl, admitted)
lost m call (Refused e) admitted short = absurd short
lost m call (Number n) admitted short = absurd short
lost m call Done admitted short = absurd short
lost m call (Value None) admitted short = absurd short
lost m call (Value (Some v)) admitted short = let k = value_kept m call admitted.1 in (k.0, k.1, (admitted.0, k.2))
lost m call (Given job) admitted short = absurd short
lost m call (Handed input) admitted short = absurd short
lost m call Unread admitted short = absurd short
lost m call (Rows page) admitted short = let k = page_kept m call admitted.1 in (k.0, k.1, (admitted.0, k.2))

-- what was told of a call, and the reply of which it was told, are short of memory alike
pub lost_in : (call : Call) (s : State) (told : Reply) → IsLost told → IsLost (reply_in call s told)
lost_in (CommitIf guards batch) s (Refused NoMemory) short = short
lost_in (CommitIf guards batch) s (Refused e) short = absurd short
lost_in (CommitIf guards batch) s (Number n) short = absurd short
lost_in (CommitIf guards batch) s Done short = absurd short
lost_in (CommitIf guards batch) s (Value v) short = short
lost_in (CommitIf guards batch) s (Rows page) short = short
lost_in (CommitIf guards batch) s (Given job) short = absurd short
lost_in (CommitIf guards batch) s (Handed input) short = absurd short
lost_in (CommitIf guards batch) s Unread short = absurd short
lost_in (Commit batch) s told short = short
lost_in Sync s told short = short
lost_in (SyncTo number) s told short = short
lost_in (Get at key) s told short = short
lost_in (Scan at from to limit) s told short = short
lost_in Snapshot s told short = short
lost_in (Release number) s told short = short
lost_in Rotate s told short = short
lost_in LogRoom s told short = short

-- what holds of what was told, and of each fault, holds of the reply
of_told : (P : Reply → Type 0) → P Unread → (call : Call) (s : State) (told : Reply) → P told → P (reply_in call s told)
of_told P unread (CommitIf guards batch) s (Refused Io) h = by (is_some s.stopped)
  where
    by : (b : Bool) → P (cond b (Refused Io) Unread)
    by true = h
    by false = unread
of_told P unread (CommitIf guards batch) s (Refused e) h = h
of_told P unread (CommitIf guards batch) s (Number n) h = h
of_told P unread (CommitIf guards batch) s Done h = h
of_told P unread (CommitIf guards batch) s (Value v) h = h
of_told P unread (CommitIf guards batch) s (Rows page) h = h
of_told P unread (CommitIf guards batch) s (Given job) h = h
of_told P unread (CommitIf guards batch) s (Handed input) h = h
of_told P unread (CommitIf guards batch) s Unread h = h
of_told P unread (Commit batch) s told h = h
of_told P unread Sync s told h = h
of_told P unread (SyncTo number) s told h = h
of_told P unread (Get at key) s told h = h
of_told P unread (Scan at from to limit) s told h = h
of_told P unread Snapshot s told h = h
of_told P unread (Release number) s told h = h
of_told P unread Rotate s told h = h
of_told P unread LogRoom s told h = h

pub made_in : (call : Call) (s : State) (told : Reply) → told ≢ Refused NoMemory → reply_in call s told ≢ Refused NoMemory
made_in call s told other = of_told (λ r. r ≢ Refused NoMemory) (λ e. cc) call s told other

pub number_in : (inputs : List MergeInput) (n : ℕ) (call : Call) (s : State) (told : Reply) → IsNextNumber inputs told n → IsNextNumber inputs (reply_in call s told) n
number_in inputs n call s told next = of_told (λ r. IsNextNumber inputs r n) tt call s told next

-- where the state allows the reply, it allows that memory was short
lost_allowed : (s : State) (call : Call) (reply : Reply) → Allows s call reply → IsLost reply → Allows s call (Refused NoMemory)
lost_allowed s call (Refused NoMemory) allowed short = allowed
lost_allowed s call (Refused e) allowed short = absurd short
lost_allowed s call (Number n) allowed short = absurd short
lost_allowed s call Done allowed short = absurd short
lost_allowed s call (Value (Some v)) allowed short = value_wanted s call v allowed
lost_allowed s call (Value None) allowed short = absurd short
lost_allowed s call (Given job) allowed short = absurd short
lost_allowed s call (Handed input) allowed short = absurd short
lost_allowed s call Unread allowed short = absurd short
lost_allowed s call (Rows page) allowed short = page_wanted s call page allowed

-- a stopped store replies nothing of the kind
lost_running : (s : StoreView) (call : Call) (reply : Reply) → Admits s.state call reply → IsLost reply → IsNone s.state.stopped
lost_running s call reply admitted short = by (is_some s.state.stopped) refl
  where
    by : (b : Bool) → is_some s.state.stopped ≡ b → IsNone s.state.stopped
    by false none = none
    by true some = absurd (subst IsLost (step_stopped (machine_of s) (Called call) reply some admitted) short)

-- so the machine is as it was
lost_machine : (old new : StoreView) (call : Call) (reply : Reply) → Serves old call reply new → IsLost reply → machine_of new ≡ machine_of old
lost_machine old new call reply serves short =
    let l = lost (machine_of old) call reply serves.admitted short in
    let state : new.state ≡ old.state = serves.state ∙ l.0 in
    let work : new.work ≡ old.work = serves.worked (subst (λ (s : State). IsNone s.stopped) (sym state) (lost_running old call reply serves.admitted short)) ∙ l.1 in
    λ i. record { state = state i; work = work i }

-- ---- what a hold finds

pub finds_now : (id : SessionId) (base : ℕ) (store : StoreView) (log : List Event) (c : Known) → IsSession id base store log → Knows id.begin log c → Finds id (record { store = store; log = log }) c
finds_now id base store log c session knows = record { legal = session.legal; machine = session.machine; backed = session.backed; room = session.room; knows = knows }

-- a client that was shown the history has seen it
pub seen_now : (id : SessionId) (old : SessionView) (c d : Known) → Finds id old c → d ≡ known id.begin c.number old.log c.mine → HasSeen id old d
seen_now id old c d f is = subst (HasSeen id old) (sym is) record {
  finds = record { legal = f.legal; machine = f.machine; backed = f.backed; room = f.room; knows = record { begin = refl; seen = prefix_self old.log; own = f.knows.own } };
  all = refl;
}

-- ---- an entry

module _ (id : SessionId) (base : ℕ) (store new : StoreView) (log : List Event) (session : IsSession id base store log) (step : Step) (reply : Reply) (serves : ServesStep store step reply new) (client result : ℕ) (e : Event) (is : e ≡ event client step reply result (machine_of new)) where
  -- it may come next
  pub may_follow : reply ≢ Refused NoMemory → reply ≢ Given None → step ≢ Called (Release (base_of id.begin)) → IsNextNumber (inputs_of log) reply result → TakesResult (inputs_of log) step result → MayFollow id.begin log e
  may_follow made taken keeps next takes = subst (MayFollow id.begin log) (sym is) record {
    admitted = subst (λ (m : Machine). AdmitsStep m step reply) session.machine (served_admits store step reply new serves);
    goes = subst (λ (m : Machine). GoesTo m step reply (machine_of new)) session.machine (served_goes store step reply new serves);
    allowed = λ began. subst (λ (m : Machine). AllowsStep m step reply) session.machine (served_allows store step reply new serves (session.backed began));
    work = λ began running. served_work store step reply new serves (session.backed began) running ∙ ap (λ (m : Machine). (next_machine m step reply).work) session.machine;
    next = next;
    takes = takes;
    made = made;
    taken = taken;
    keeps = keeps;
  }

  module _ (after : List Event) (behind : after ≡ log ++ e ∷ []) (legal : IsLegal id.begin after) (room : length log < id.begin.limit) where
    machine_entered : machine_of new ≡ machine_after id.begin after
    machine_entered = sym (ap (machine_after id.begin) behind ∙ after_more id.begin log e ∙ ap (λ (x : Event). x.machine) is)

    room_left : length after ≤ id.begin.limit
    room_left = omega (arith, room, ap length behind, length-append log (e ∷ []))

    -- the session after it
    pub session_entered : IsSession id base new after
    session_entered = record {
      number = session.number;
      legal = legal;
      machine = machine_entered;
      backed = λ began. served_backed store step reply new serves (session.backed began);
      device = device_entered id.begin.store.device store log after step reply new e session.device serves (ap (λ (x : Event). x.reply) is) behind;
      room = room_left;
    }

    -- what a hold did that made it
    pub entered_one : (old : SessionView) → record { store = store; log = log } ≡ old → (c d : Known) → Finds id old c → client ≡ c.number → d ≡ known id.begin c.number after (c.mine ++ e ∷ [])
        → EntersOne id old c (event c.number step reply result (machine_of new)) (record { store = new; log = after }) d
    entered_one old was c d finds by knows =
        let shown : e ≡ event c.number step reply result (machine_of new) = is ∙ ap (λ (n : ℕ). event n step reply result (machine_of new)) by in
        subst (λ (v : SessionView). Finds id v c → EntersOne id v c (event c.number step reply result (machine_of new)) (record { store = new; log = after }) d) was
        (λ found. subst (λ (x : Event). EntersOne id (record { store = store; log = log }) c x (record { store = new; log = after }) d) shown record {
          enters = record {
            finds = found;
            log = behind;
            legal = legal;
            machine = machine_entered;
            backed = λ began. served_backed store step reply new serves (session.backed began);
            room = room_left;
            own = ap (entries_by c.number) behind ∙ entries_by-mine c.number log e (ap (λ (x : Event). x.client) shown) ∙ ap (λ (l : List Event). l ++ e ∷ []) found.knows.own;
            client = knows;
          };
          serves = subst (λ (x : Event). ServesStep store x.step x.reply new) (sym is) serves;
          machine = ap (λ (x : Event). x.machine) is;
        }) finds

-- ---- no entry

-- a client that made no entry has seen the history, which is as it was, and so is the machine
pub entered_none : (id : SessionId) (old : SessionView) (new : StoreView) (c d : Known) → Finds id old c → d ≡ known id.begin c.number old.log c.mine → machine_of new ≡ machine_of old.store → (IsBacked old.store → IsBacked new)
    → Enters id old c [] (record { store = new; log = old.log }) d
entered_none id old new c d f is same backed = record {
  finds = f;
  log = sym (append-nil old.log);
  legal = f.legal;
  machine = same ∙ f.machine;
  backed = λ began. backed (f.backed began);
  room = f.room;
  own = f.knows.own ∙ sym (append-nil c.mine);
  client = is ∙ ap (known id.begin c.number old.log) (sym (append-nil c.mine));
}

-- the session after a call for which memory was short
pub session_kept : (id : SessionId) (base : ℕ) (store new : StoreView) (log : List Event) → IsSession id base store log → (call : Call) (reply : Reply) → Serves store call reply new → IsLost reply → IsSession id base new log
session_kept id base store new log session call reply serves short = record {
  number = session.number;
  legal = session.legal;
  machine = lost_machine store new call reply serves short ∙ session.machine;
  backed = λ began. serves.backed (session.backed began);
  device = device_kept id.begin.store.device (replies_of log) store (Called call) reply new session.device serves short;
  room = session.room;
}

-- what its hold did
pub short_to : (id : SessionId) (old : SessionView) (new : StoreView) (c d : Known) (call : Call) (reply : Reply) → Finds id old c → d ≡ known id.begin c.number old.log c.mine → length old.log < id.begin.limit
    → Serves old.store call reply new → IsLost reply → FindsNoMemory id old c call (record { store = new; log = old.log }) d
short_to id old new c d call reply finds is room serves short = record {
  enters = entered_none id old new c d finds is (lost_machine old.store new call reply serves short) serves.backed;
  room = room;
  admitted = (lost (machine_of old.store) call reply serves.admitted short).2;
  allowed = λ began. lost_allowed old.store.state call reply (serves.allowed (finds.backed began)) short;
  reply = reply;
  lost = short;
  serves = serves;
}

-- what a hold did that found no place
pub full_to : (id : SessionId) (old : SessionView) (c d : Known) → Finds id old c → d ≡ known id.begin c.number old.log c.mine → length old.log ≡ id.begin.limit → IsFull id old c old d
full_to id old c d finds is full = record { enters = entered_none id old old.store c d finds is refl (λ b. b); full = full; same = refl }

-- and one that was to release the base
pub reserved_to : (id : SessionId) (old : SessionView) (c d : Known) (call : Call) → Finds id old c → d ≡ known id.begin c.number old.log c.mine → length old.log < id.begin.limit → call ≡ Release (base_of id.begin) → IsReserved id old c call old d
reserved_to id old c d call finds is room releases = record { enters = entered_none id old old.store c d finds is refl (λ b. b); room = room; releases = releases; same = refl }

-- the same where the parts of the session are known
pub short_was : (id : SessionId) (store new : StoreView) (log : List Event) (old : SessionView) → record { store = store; log = log } ≡ old → (c d : Known) (call : Call) (reply : Reply) → Finds id old c → d ≡ known id.begin c.number old.log c.mine
    → length log < id.begin.limit → Serves store call reply new → IsLost reply → FindsNoMemory id old c call (record { store = new; log = log }) d
short_was id store new log old was c d call reply finds shown room serves short =
    subst (λ (v : SessionView). Finds id v c → d ≡ known id.begin c.number v.log c.mine → FindsNoMemory id v c call (record { store = new; log = log }) d) was
    (λ f is. short_to id (record { store = store; log = log }) new c d call reply f is room serves short) finds shown

-- what a client knows of an entry that was made after it was shown the history
pub knows_then : (id : SessionId) (after log : List Event) (c me d : Known) (e : Event) → me ≡ known id.begin c.number log c.mine → d ≡ known id.begin me.number after (me.mine ++ e ∷ []) → d ≡ known id.begin c.number after (c.mine ++ e ∷ [])
knows_then id after log c me d e shown is = is ∙ (λ i. known id.begin (shown i).number after ((shown i).mine ++ e ∷ []))

-- the call of a step, or any where it is a piece of work
abbrev call_in : Step → Call
call_in (Called call) = call
call_in (Worked piece) = Sync

pub keeps_base : (id : SessionId) (base : ℕ) (call : Call) → base ≡ base_of id.begin → call ≢ Release base → Called call ≢ Called (Release (base_of id.begin))
keeps_base id base call number free same = free (ap call_in same ∙ ap Release (sym number))

-- a session that begins
pub session_begun : (id : SessionId) (base : ℕ) (store : StoreView) (log : List Event) → log ≡ [] → IsPinned id.begin base store → IsSession id base store log
session_begun id base store log none pinned = subst (IsSession id base store) (sym none) record {
  number = pinned.number;
  legal = legal_none id.begin pinned.could;
  machine = pinned.machine;
  backed = pinned.backed;
  device = device_unused id.begin.store.device store.device pinned.unused;
  room = zero-le;
}

-- an entry whose reply is told
pub entered_step : (id : SessionId) (old new : SessionView) (c d : Known) (step : Step) (reply : Reply) (result : ℕ) (answer told : Told) → answer ≡ told → told ≡ Replied reply → EntersOne id old c (event c.number step reply result (machine_of new.store)) new d → EntersStep id old c step result answer new d
entered_step id old new c d step reply result answer told alike is one = record { reply = reply; told = alike ∙ is; one = one }

-- and one of a call, of whose reply that is told
pub called_step : {A : Type 0} (id : SessionId) (old new : SessionView) (c d : Known) (call : Call) (answer : Told) (given : GivenReply A) → answer ≡ told_of given → told_of given ≡ Replied (reply_of given)
    → EntersOne id old c (called c.number call (reply_in call new.store.state (reply_of given)) (machine_of new.store)) new d → IsMade id old c call answer new d
called_step id old new c d call answer given alike is one =
    record { reply = reply_in call new.store.state (reply_of given); told = alike ∙ called_told given call new.store.state is; one = one }

-- a place is left where the trail isn't full
pub place_left : (n limit : ℕ) (full : Bool) → full ≡ (n == limit) → full ≡ false → n ≤ limit → n < limit
place_left n limit full is not le = grind (arith, nat_tests)

pub none_left : (n limit : ℕ) (full : Bool) → full ≡ (n == limit) → full ≡ true → n ≡ limit
none_left n limit full is so = grind (arith, nat_tests)

-- a property of a result whose error is known
pub refused_with : {T : Type 0} (res : Result T Refusal) (e f : Refusal) (P : Refusal → Type 0) → IsErrAnd res (λ x. x ≡ e) → e ≡ f → P f → IfErr res P
refused_with (Ok x) e f P is known p = tt
refused_with (Err x) e f P is known p = subst P (sym (is ∙ known)) p

pub denied_with : {T : Type 0} (res : Result T Refusal) (e f : Refusal) (P : T → Type 0) (Q : Refusal → Type 0) → IsErrAnd res (λ x. x ≡ e) → e ≡ f → Q f → MatchResult res P Q
denied_with (Ok x) e f P Q is known q = absurd is
denied_with (Err x) e f P Q is known q = subst Q (sym (is ∙ known)) q

-- ---- entries one after another

pub enters_join : (id : SessionId) (old mid new : SessionView) (c d f : Known) (xs ys : List Event) → Enters id old c xs mid d → Enters id mid d ys new f → Enters id old c (xs ++ ys) new f
enters_join id old mid new c d f xs ys one two =
    let number : d.number ≡ c.number = ap (λ (k : Known). k.number) one.client in
    let mine : d.mine ≡ c.mine ++ xs = ap (λ (k : Known). k.mine) one.client in
    record {
      finds = one.finds;
      log = two.log ∙ ap (λ (l : List Event). l ++ ys) one.log ∙ append_assoc old.log xs ys;
      legal = two.legal;
      machine = two.machine;
      backed = two.backed;
      room = two.room;
      own = ap (λ (n : ℕ). entries_by n new.log) (sym number) ∙ two.own ∙ ap (λ (l : List Event). l ++ ys) mine ∙ append_assoc c.mine xs ys;
      client = two.client ∙ (λ i. known id.begin (number i) new.log (mine i ++ ys)) ∙ ap (known id.begin c.number new.log) (append_assoc c.mine xs ys);
    }

-- and so were they served
pub served_join : (old mid new : StoreView) (xs ys : List Event) → AreServedBy old xs mid → AreServedBy mid ys new → AreServedBy old (xs ++ ys) new
served_join old mid new [] ys same two = subst (λ (s : StoreView). AreServedBy s ys new) same two
served_join old mid new (x ∷ xs) ys (first, serves, rest) two = (first, serves, served_join first mid new xs ys rest two)

-- a client that made entries has seen them
pub seen_then : (id : SessionId) (old new : SessionView) (c d : Known) (xs : List Event) → Enters id old c xs new d → HasSeen id new d
seen_then id old new c d xs e = subst (HasSeen id new) (sym e.client) record {
  finds = record { legal = e.legal; machine = e.machine; backed = e.backed; room = e.room; knows = record { begin = refl; seen = prefix_self new.log; own = e.own } };
  all = refl;
}

-- entries of a client that was shown the history first are entries after what it had seen before
pub shown_before : (id : SessionId) (old new : SessionView) (c d f : Known) (xs : List Event) → Finds id old c → d ≡ known id.begin c.number old.log c.mine → Enters id old d xs new f → Enters id old c xs new f
shown_before id old new c d f xs finds is e =
    let number : d.number ≡ c.number = ap (λ (k : Known). k.number) is in
    let mine : d.mine ≡ c.mine = ap (λ (k : Known). k.mine) is in
    record {
      finds = finds;
      log = e.log;
      legal = e.legal;
      machine = e.machine;
      backed = e.backed;
      room = e.room;
      own = ap (λ (n : ℕ). entries_by n new.log) (sym number) ∙ e.own ∙ ap (λ (l : List Event). l ++ xs) mine;
      client = e.client ∙ (λ i. known id.begin (number i) new.log (mine i ++ xs));
    }
