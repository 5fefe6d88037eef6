-- Turns over the slots, one place after another.
use Rattle.std.proofs.Common.{◌≡◌, ◌≢◌, ℕ, ◌-◌, ◌≤◌, Bool, true, false, Option, Some, None, List, [], ◌∷◌, ◌++◌, length, drop, take, get_or, Result, Ok, Err, refl, ap, sym, ◌∙◌, subst, arith, append_assoc, if◌then◌else◌}
use Rattle.std.specs.Arc.{arc_value}
use Rattle.std.specs.Prelude.{MatchResult}
use Rattle.std.proofs.Math.Seq.{take-length}
use Rattle.std.proofs.lemmas.List.{map-append}
use Rattle.lsm_device.specs.declared.refusal.Refusal.{Refusal}
use Rattle.lsm_device.specs.declared.refusal.Refusal.TheVariants.{NoMemory, Io, BadTable, TooManyRuns, TooManyTables}
use Rattle.lsm_store.specs.Backing.{StoreView, machine_of}
use Rattle.lsm_machine.specs.Calls.{Reply}
use Rattle.lsm_machine.specs.Calls.{Number, Done, Value, Rows, Given, Handed, Refused, Unread}
use Rattle.lsm_machine.specs.Machine.{Machine, Step, Worked}
use Rattle.lsm_machine.specs.Pieces.{piece_at, is_of_full_levels, is_put_off, unless_put_off, next_among}
use Rattle.lsm_machine.specs.Work.{Work, Install, Ask}
use Rattle.lsm_machine.specs.WorkRefusals.{work_refusal}
use Rattle.lsm_machine.specs.WorkReplies.{work_reply_by, work_decided, WorkAdmits}
use Rattle.lsm_store.specs.Working.{Works}
use Rattle.lsm_machine.proofs.WorkReplies.{refused_work}
use Rattle.lsm_lives.specs.Asked.{Told, Replied}
use Rattle.lsm_lives.specs.Calls.{told_of}
use Rattle.lsm_lives.specs.declared.calls.Reply.{Reply as GivenReply}
use Rattle.lsm_trail.specs.History.{Event, worked, lent_to, steps_of}
use Rattle.lsm_trail.specs.Knowledge.{SessionId, Known, known}
use Rattle.lsm_shared.specs.Holds.{AreServedBy, IsPutBack, StaysIfIdle, TakesAmong, StopsAmong}
use Rattle.lsm_shared.specs.Sessions.{SessionView, Finds, HasSeen, Enters, EntersOne, EntersStep}
use Rattle.lsm_shared.specs.Turns.{tells_full_levels, with_piece, pieces_among, as_steps, AreOfTurn, IsTurn, StopsBefore}
use Rattle.lsm_shared.specs.declared.turn.Turn.{Turn}
use Rattle.lsm_shared.specs.declared.turn.Turn.TheVariants as turn
use Rattle.lsm_shared.proofs.Holds.{enters_join, served_join, entered_none, shown_before}
use Rattle.lsm_machine.proofs.NextPieces.{none_not_full}

-- ---- the pieces at one place, and after it

module _ (m : Machine) where
  idle_by : (o : Option Work) → unless_put_off m o None ≡ None → (later : List Work) (next : Option Work) → (with_piece m o later ≡ with_piece m o [] ++ later) × (unless_put_off m o next ≡ next)
  idle_by None none later next = (refl, refl)
  idle_by (Some work) none later next = by (is_put_off m work) none
    where
      by : (b : Bool) → (if b then None else Some work) ≡ None → (work ∷ (if b then later else []) ≡ (work ∷ (if b then [] else [])) ++ later) × ((if b then next else Some work) ≡ next)
      by true none = (refl, refl)
      by false none = absurd (cc none)

  -- where nothing is next at a place, a turn goes on after it
  idle_first : (place : ℕ) (rest : List ℕ) → next_among m (place ∷ []) ≡ None → (pieces_among m (place ∷ rest) ≡ pieces_among m (place ∷ []) ++ pieces_among m rest) × (next_among m (place ∷ rest) ≡ next_among m rest)
  idle_first place rest none = idle_by (piece_at m place) none (pieces_among m rest) (next_among m rest)

  done_by : (o : Option Work) (w : Work) → unless_put_off m o None ≡ Some w → (later : List Work) (next : Option Work) → (with_piece m o later ≡ with_piece m o []) × (unless_put_off m o next ≡ Some w)
  done_by None w some later next = absurd (cc some)
  done_by (Some work) w some later next = by (is_put_off m work) some
    where
      by : (b : Bool) → (if b then None else Some work) ≡ Some w → (work ∷ (if b then later else []) ≡ work ∷ (if b then [] else [])) × ((if b then next else Some work) ≡ Some w)
      by true some = absurd (cc some)
      by false some = (refl, some)

  -- where something is, it ends there
  done_first : (place : ℕ) (rest : List ℕ) (w : Work) → next_among m (place ∷ []) ≡ Some w → (pieces_among m (place ∷ rest) ≡ pieces_among m (place ∷ [])) × (next_among m (place ∷ rest) ≡ Some w)
  done_first place rest w some = done_by (piece_at m place) w some (pieces_among m rest) (next_among m rest)

  tail_by : (o : Option Work) (later : List Work) → (tail : List Work) × (with_piece m o later ≡ with_piece m o [] ++ tail)
  tail_by None later = (later, refl)
  tail_by (Some work) later = by (is_put_off m work)
    where
      by : (b : Bool) → (tail : List Work) × (work ∷ (if b then later else []) ≡ (work ∷ (if b then [] else [])) ++ tail)
      by true = (later, refl)
      by false = ([], refl)

  -- the pieces at a place are the first ones
  tail_of : (place : ℕ) (rest : List ℕ) → (tail : List Work) × (pieces_among m (place ∷ rest) ≡ pieces_among m (place ∷ []) ++ tail)
  tail_of place rest = tail_by (piece_at m place) (pieces_among m rest)

  one_by : (o : Option Work) (w : Work) → o ≡ Some w → (with_piece m o [] ≡ w ∷ []) × (unless_put_off m o None ≡ (if is_put_off m w then None else Some w))
  one_by None w is = absurd (cc is)
  one_by (Some work) w is = subst (λ (o : Option Work). (with_piece m o [] ≡ w ∷ []) × (unless_put_off m o None ≡ (if is_put_off m w then None else Some w))) (sym is) (by (is_put_off m w), refl)
    where
      by : (b : Bool) → w ∷ (if b then [] else []) ≡ w ∷ []
      by true = refl
      by false = refl

  none_by : (o : Option Work) → o ≡ None → (with_piece m o [] ≡ []) × (unless_put_off m o None ≡ None)
  none_by None is = (refl, refl)
  none_by (Some work) is = absurd (cc is)

  -- the pieces of a place that waits for this one, or for none
  pieces_at : (place : ℕ) (w : Work) → piece_at m place ≡ Some w → (pieces_among m (place ∷ []) ≡ w ∷ []) × (next_among m (place ∷ []) ≡ (if is_put_off m w then None else Some w))
  pieces_at place w at = one_by (piece_at m place) w at

  pieces_none : (place : ℕ) → piece_at m place ≡ None → (pieces_among m (place ∷ []) ≡ []) × (next_among m (place ∷ []) ≡ None)
  pieces_none place at = none_by (piece_at m place) at

-- ---- a turn over no place, and over one

steps-append : (xs ys : List Event) → steps_of (xs ++ ys) ≡ steps_of xs ++ steps_of ys
steps-append xs ys = map-append (λ (e : Event). e.step) xs ys

as_steps-append : (xs ys : List Work) → as_steps (xs ++ ys) ≡ as_steps xs ++ as_steps ys
as_steps-append xs ys = map-append Worked xs ys

-- a client that has seen the history makes no entry
enters_none : (id : SessionId) (old : SessionView) (c : Known) → HasSeen id old c → Enters id old c [] old c
enters_none id old c h = entered_none id old old.store c c h.finds (λ i. known (h.finds.knows.begin i) c.number (h.all i) c.mine) refl (λ b. b)

pub idle_nowhere : {A : Type 0} (id : SessionId) (old : SessionView) (c : Known) (places : List ℕ) → places ≡ [] → HasSeen id old c → TakesAmong {A = A} id old c places turn.Idle old c
idle_nowhere {A = A} id old c places none h = subst (λ (ps : List ℕ). TakesAmong {A = A} id old c ps turn.Idle old c) (sym none) record {
  entries = [];
  enters = enters_none id old c h;
  serves = refl;
  takes = record { steps = refl; ends = refl };
  stays = refl;
}

pub idle_at : {A : Type 0} (id : SessionId) (old : SessionView) (c : Known) (place : ℕ) → piece_at (machine_of old.store) place ≡ None → HasSeen id old c → TakesAmong {A = A} id old c (place ∷ []) turn.Idle old c
idle_at id old c place at h =
    let p = pieces_none (machine_of old.store) place at in
    record { entries = []; enters = enters_none id old c h; serves = refl; takes = record { steps = sym (ap as_steps p.0); ends = p.1 }; stays = refl }

-- the same where the parts of the session are known
pub idle_was : {A : Type 0} (id : SessionId) (store : StoreView) (log : List Event) (old : SessionView) → record { store = store; log = log } ≡ old → (c : Known) (place : ℕ) → None ≡ piece_at (machine_of store) place → HasSeen id old c → TakesAmong {A = A} id old c (place ∷ []) turn.Idle old c
idle_was {A = A} id store log old was c place at seen = idle_at {A = A} id old c place (subst (λ (v : SessionView). piece_at (machine_of v.store) place ≡ None) was (sym at)) seen

-- an entry of the piece that a place waits for
of_one : (m : Machine) (place : ℕ) (w : Work) (e : Event) (next : Option Work) → piece_at m place ≡ Some w → e.step ≡ Worked w → (if is_put_off m w then None else Some w) ≡ next → AreOfTurn m (place ∷ []) next (e ∷ [])
of_one m place w e next at step is =
    let p = pieces_at m place w at in
    record { steps = ap (λ (s : Step). s ∷ []) step ∙ sym (ap as_steps p.0); ends = p.1 ∙ is }

-- one entry was served
one_served : (id : SessionId) (old new : SessionView) (c d : Known) (e : Event) → EntersOne id old c e new d → AreServedBy old.store (e ∷ []) new.store
one_served id old new c d e one = (new.store, one.serves, refl)

pub did_at : {A : Type 0} (id : SessionId) (old new : SessionView) (c d : Known) (place : ℕ) (w : Work) (reply : GivenReply A) → piece_at (machine_of old.store) place ≡ Some w → is_put_off (machine_of old.store) w ≡ false
    → EntersStep id old c (Worked w) 0 (told_of reply) new d → TakesAmong id old c (place ∷ []) (turn.Did reply) new d
did_at id old new c d place w reply at on e =
    let m = machine_of old.store in
    let entry = worked c.number w e.reply (machine_of new.store) in
    record {
      entries = entry ∷ [];
      enters = e.one.enters;
      serves = one_served id old new c d entry e.one;
      takes = ([], w, e.reply, machine_of new.store, e.told, refl, of_one m place w entry (Some w) at refl (ap (λ (b : Bool). if b then None else Some w) on));
      stays = tt;
    }

pub lent_at : {A : Type 0} (id : SessionId) (old new : SessionView) (c d : Known) (place job : ℕ) (taken : Turn A) (e : Event) → piece_at (machine_of old.store) place ≡ Some (Ask job) → e.step ≡ Worked (Ask job)
    → EntersOne id old c e new d → ((AreOfTurn (machine_of old.store) (place ∷ []) (Some (Ask job)) (e ∷ [])) → IsTurn (machine_of old.store) (place ∷ []) c.number taken (e ∷ [])) → StaysIfIdle taken old new
    → TakesAmong id old c (place ∷ []) taken new d
lent_at id old new c d place job taken e at step one makes stays = record {
  entries = e ∷ [];
  enters = one.enters;
  serves = one_served id old new c d e one;
  takes = makes (of_one (machine_of old.store) place (Ask job) e (Some (Ask job)) at step refl);
  stays = stays;
}

-- a piece that is no entry
pub put_back_at : (id : SessionId) (old new : SessionView) (c d : Known) (place : ℕ) (w : Work) (r : Refusal) → piece_at (machine_of old.store) place ≡ Some w → IsPutBack id old c w r new d → StopsAmong id old c (place ∷ []) r new d
put_back_at id old new c d place w r at p = record {
  entries = [];
  enters = p.enters;
  left = w;
  mid = old.store;
  serves = refl;
  out = p.out;
  stops = record { more = []; steps = sym (ap as_steps (pieces_at (machine_of old.store) place w at).0) };
  denied = p.denied;
}

-- ---- installs that are put off

module _ (m : Machine) (job : ℕ) where
  decided_by : (o : Option Refusal) → tells_full_levels (Replied (work_reply_by m (Install job) o)) ≡ is_of_full_levels o
  decided_by None = refl
  decided_by (Some e) = refl

  decided_full : (reply : Reply) → reply ≡ work_decided m (Install job) → tells_full_levels (Replied reply) ≡ is_put_off m (Install job)
  decided_full reply is = ap (λ (r : Reply). tells_full_levels (Replied r)) is ∙ decided_by (work_refusal m (Install job))

  -- the reply to an install tells whether it is put off
  full_told : (reply : Reply) → WorkAdmits m (Install job) reply → tells_full_levels (Replied reply) ≡ is_put_off m (Install job)
  full_told (Refused NoMemory) admitted = sym (none_not_full (work_refusal m (Install job)) admitted)
  full_told (Refused Io) admitted = sym (none_not_full (work_refusal m (Install job)) admitted.0)
  full_told (Refused BadTable) admitted = sym (none_not_full (work_refusal m (Install job)) admitted.0)
  full_told (Refused e) admitted = decided_full (Refused e) admitted
  full_told (Number n) admitted = decided_full (Number n) admitted
  full_told Done admitted = decided_full Done admitted
  full_told (Value v) admitted = decided_full (Value v) admitted
  full_told (Rows page) admitted = decided_full (Rows page) admitted
  full_told (Given taken) admitted = decided_full (Given taken) admitted
  full_told (Handed input) admitted = decided_full (Handed input) admitted
  full_told Unread admitted = decided_full Unread admitted

-- an install that is put off leaves the machine as it was
refused_stays : (old new : SessionView) (job : ℕ) (reply : Reply) → (e : Refusal) → reply ≡ Refused e → e ≢ Io → Works old.store (Install job) reply new.store → machine_of new.store ≡ machine_of old.store
refused_stays old new job reply e is other works =
    let w = subst (λ (r : Reply). Works old.store (Install job) r new.store) is works in
    let next = refused_work (machine_of old.store) (Install job) e other in
    λ i. record { state = (w.state ∙ ap (λ (m : Machine). m.state) next) i; work = (w.worked ∙ ap (λ (m : Machine). m.work) next) i }

full_refusal : (reply : Reply) → tells_full_levels (Replied reply) ≡ true → (e : Refusal) × (reply ≡ Refused e) × (e ≢ Io)
full_refusal (Refused TooManyRuns) full = (TooManyRuns, refl, λ e. cc)
full_refusal (Refused TooManyTables) full = (TooManyTables, refl, λ e. cc)
full_refusal (Refused e) full = absurd (cc full)
full_refusal (Number n) full = absurd (cc full)
full_refusal Done full = absurd (cc full)
full_refusal (Value v) full = absurd (cc full)
full_refusal (Rows page) full = absurd (cc full)
full_refusal (Given taken) full = absurd (cc full)
full_refusal (Handed input) full = absurd (cc full)
full_refusal Unread full = absurd (cc full)

pub passed_at : {A : Type 0} (id : SessionId) (old new : SessionView) (c d : Known) (place job : ℕ) (answer : Told) → piece_at (machine_of old.store) place ≡ Some (Install job) → tells_full_levels answer ≡ true
    → EntersStep id old c (Worked (Install job)) 0 answer new d → TakesAmong {A = A} id old c (place ∷ []) turn.Idle new d
passed_at id old new c d place job answer at full e =
    let m = machine_of old.store in
    let entry = worked c.number (Install job) e.reply (machine_of new.store) in
    let told : tells_full_levels (Replied e.reply) ≡ true = sym (ap tells_full_levels e.told) ∙ full in
    let off : is_put_off m (Install job) ≡ true = sym (full_told m job e.reply e.one.serves.admitted) ∙ told in
    let why = full_refusal e.reply told in
    record {
      entries = entry ∷ [];
      enters = e.one.enters;
      serves = one_served id old new c d entry e.one;
      takes = of_one m place (Install job) entry None at refl (ap (λ (b : Bool). if b then None else Some (Install job)) off);
      stays = refused_stays old new job e.reply why.0 why.1 why.2 e.one.serves;
    }

pub installed_at : {A : Type 0} (id : SessionId) (old new : SessionView) (c d : Known) (place job : ℕ) (reply : GivenReply A) → piece_at (machine_of old.store) place ≡ Some (Install job) → tells_full_levels (told_of reply) ≡ false
    → EntersStep id old c (Worked (Install job)) 0 (told_of reply) new d → TakesAmong id old c (place ∷ []) (turn.Did reply) new d
installed_at id old new c d place job reply at room e =
    did_at id old new c d place (Install job) reply at (sym (full_told (machine_of old.store) job e.reply e.one.serves.admitted) ∙ sym (ap tells_full_levels e.told) ∙ room) e

-- ---- one place after another

module _ (id : SessionId) (old mid new : SessionView) (c d f : Known) (place : ℕ) (rest : List ℕ) where
  module _ {A : Type 0} (one : TakesAmong {A = A} id old c (place ∷ []) turn.Idle mid d) where
    abbrev m : Machine
    m = machine_of old.store

    number_then : d.number ≡ c.number
    number_then = ap (λ (k : Known). k.number) one.enters.client

    joined : (ys : List Event) (next : Option Work) → AreOfTurn (machine_of mid.store) rest next ys → AreOfTurn m (place ∷ rest) next (one.entries ++ ys)
    joined ys next behind =
        let first = idle_first m place rest one.takes.ends in
        let here = subst (λ (x : Machine). AreOfTurn x rest next ys) one.stays behind in
        record {
          steps = steps-append one.entries ys ∙ (λ i. one.takes.steps i ++ here.steps i) ∙ sym (as_steps-append (pieces_among m (place ∷ [])) (pieces_among m rest)) ∙ ap as_steps (sym first.0);
          ends = first.1 ∙ here.ends;
        }

    turn_then : (taken : Turn A) (ys : List Event) → IsTurn (machine_of mid.store) rest d.number taken ys → IsTurn m (place ∷ rest) c.number taken (one.entries ++ ys)
    turn_then turn.Idle ys t = joined ys None t
    turn_then (turn.Did reply) ys (passed, work, answer, behind, told, is, are) = (
      one.entries ++ passed,
      work,
      answer,
      behind,
      told,
      ap (λ (l : List Event). one.entries ++ l) (is ∙ ap (λ (n : ℕ). passed ++ worked n work answer behind ∷ []) number_then) ∙ sym (append_assoc one.entries passed (worked c.number work answer behind ∷ [])),
      joined ys (Some work) are,
    )
    turn_then (turn.Merge job result input) ys (passed, behind, is, are) = (
      one.entries ++ passed,
      behind,
      ap (λ (l : List Event). one.entries ++ l) (is ∙ ap (λ (n : ℕ). passed ++ lent_to n job (arc_value input) result behind ∷ []) number_then) ∙ sym (append_assoc one.entries passed (lent_to c.number job (arc_value input) result behind ∷ [])),
      joined ys (Some (Ask job)) are,
    )

    stays_then : (taken : Turn A) → StaysIfIdle taken mid new → StaysIfIdle taken old new
    stays_then turn.Idle stays = stays ∙ one.stays
    stays_then (turn.Did reply) stays = tt
    stays_then (turn.Merge job result input) stays = tt

    takes_on : (taken : Turn A) → TakesAmong id mid d rest taken new f → TakesAmong id old c (place ∷ rest) taken new f
    takes_on taken t = record {
      entries = one.entries ++ t.entries;
      enters = enters_join id old mid new c d f one.entries t.entries one.enters t.enters;
      serves = served_join old.store mid.store new.store one.entries t.entries one.serves t.serves;
      takes = turn_then taken t.entries t.takes;
      stays = stays_then taken t.stays;
    }

    stops_on : (r : Refusal) → StopsAmong id mid d rest r new f → StopsAmong id old c (place ∷ rest) r new f
    stops_on r s =
        let first = idle_first m place rest one.takes.ends in
        let behind = subst (λ (x : Machine). StopsBefore x rest s.entries s.left) one.stays s.stops in
        record {
          entries = one.entries ++ s.entries;
          enters = enters_join id old mid new c d f one.entries s.entries one.enters s.enters;
          left = s.left;
          mid = s.mid;
          serves = served_join old.store mid.store s.mid one.entries s.entries one.serves s.serves;
          out = s.out;
          stops = record {
            more = behind.more;
            steps = ap (λ (l : List Step). l ++ as_steps (s.left ∷ behind.more)) (steps-append one.entries s.entries)
                ∙ append_assoc (steps_of one.entries) (steps_of s.entries) (as_steps (s.left ∷ behind.more))
                ∙ (λ i. one.takes.steps i ++ behind.steps i)
                ∙ sym (as_steps-append (pieces_among m (place ∷ [])) (pieces_among m rest)) ∙ ap as_steps (sym first.0);
          };
          denied = s.denied;
        }

    pub goes_on : (res : Result (Turn A) Refusal) → MatchResult res (λ taken. TakesAmong id mid d rest taken new f) (λ r. StopsAmong id mid d rest r new f)
        → MatchResult res (λ taken. TakesAmong id old c (place ∷ rest) taken new f) (λ r. StopsAmong id old c (place ∷ rest) r new f)
    goes_on (Ok taken) t = takes_on taken t
    goes_on (Err r) s = stops_on r s

module _ (id : SessionId) (old new : SessionView) (c d : Known) (place : ℕ) (rest : List ℕ) where
  abbrev n : Machine
  n = machine_of old.store

  of_more : (next : Work) (entries : List Event) → AreOfTurn n (place ∷ []) (Some next) entries → AreOfTurn n (place ∷ rest) (Some next) entries
  of_more next entries are = let first = done_first n place rest next are.ends in record { steps = are.steps ∙ ap as_steps (sym first.0); ends = first.1 }

  -- a turn that ended at the first place is one over all of them
  pub ends_first : {A : Type 0} (taken : Turn A) → taken ≢ turn.Idle → TakesAmong id old c (place ∷ []) taken new d → TakesAmong id old c (place ∷ rest) taken new d
  ends_first turn.Idle busy t = absurd (busy refl)
  ends_first (turn.Did reply) busy t = record {
    entries = t.entries;
    enters = t.enters;
    serves = t.serves;
    takes = let (passed, work, answer, behind, told, is, are) = t.takes in (passed, work, answer, behind, told, is, of_more work t.entries are);
    stays = tt;
  }
  ends_first (turn.Merge job result input) busy t = record {
    entries = t.entries;
    enters = t.enters;
    serves = t.serves;
    takes = let (passed, behind, is, are) = t.takes in (passed, behind, is, of_more (Ask job) t.entries are);
    stays = tt;
  }

  -- and so is one that stopped there
  pub stops_first : (r : Refusal) → StopsAmong id old c (place ∷ []) r new d → StopsAmong id old c (place ∷ rest) r new d
  stops_first r s =
      let tail = tail_of n place rest in
      record {
        entries = s.entries;
        enters = s.enters;
        left = s.left;
        mid = s.mid;
        serves = s.serves;
        out = s.out;
        stops = record {
          more = s.stops.more ++ tail.0;
          steps = ap (λ (l : List Step). steps_of s.entries ++ l) (as_steps-append (s.left ∷ s.stops.more) tail.0)
              ∙ sym (append_assoc (steps_of s.entries) (as_steps (s.left ∷ s.stops.more)) (as_steps tail.0))
              ∙ ap (λ (l : List Step). l ++ as_steps tail.0) s.stops.steps
              ∙ sym (as_steps-append (pieces_among n (place ∷ [])) tail.0) ∙ ap as_steps (sym tail.1);
        };
        denied = s.denied;
      }

-- ---- after a client that was shown the history

module _ (id : SessionId) (old new : SessionView) (c me d : Known) (finds : Finds id old c) (shown : me ≡ known id.begin c.number old.log c.mine) (places : List ℕ) where
  shown_takes : {A : Type 0} (taken : Turn A) → TakesAmong id old me places taken new d → TakesAmong id old c places taken new d
  shown_takes taken t = record {
    entries = t.entries;
    enters = shown_before id old new c me d t.entries finds shown t.enters;
    serves = t.serves;
    takes = subst (λ (n : ℕ). IsTurn (machine_of old.store) places n taken t.entries) (ap (λ (k : Known). k.number) shown) t.takes;
    stays = t.stays;
  }

  shown_stops : (r : Refusal) → StopsAmong id old me places r new d → StopsAmong id old c places r new d
  shown_stops r s = record {
    entries = s.entries;
    enters = shown_before id old new c me d s.entries finds shown s.enters;
    left = s.left;
    mid = s.mid;
    serves = s.serves;
    out = s.out;
    stops = s.stops;
    denied = s.denied;
  }

  shown_turn : {A : Type 0} (res : Result (Turn A) Refusal) → MatchResult res (λ taken. TakesAmong id old me places taken new d) (λ r. StopsAmong id old me places r new d)
      → MatchResult res (λ taken. TakesAmong id old c places taken new d) (λ r. StopsAmong id old c places r new d)
  shown_turn (Ok taken) t = shown_takes taken t
  shown_turn (Err r) s = shown_stops r s

pub turn_begun : {A : Type 0} (res : Result (Turn A) Refusal) (id : SessionId) (was old new : SessionView) (c me d : Known) (places wanted : List ℕ) → was ≡ old → places ≡ wanted → Finds id old c → me ≡ known id.begin c.number old.log c.mine
    → MatchResult res (λ taken. TakesAmong id was me places taken new d) (λ r. StopsAmong id was me places r new d)
    → MatchResult res (λ taken. TakesAmong id old c wanted taken new d) (λ r. StopsAmong id old c wanted r new d)
turn_begun res id was old new c me d places wanted same are finds shown h =
    shown_turn id old new c me d finds shown wanted res
    (subst (λ (x : SessionView × List ℕ). MatchResult res (λ taken. TakesAmong id x.0 me x.1 taken new d) (λ r. StopsAmong id x.0 me x.1 r new d)) (λ i. (same i, are i)) h)

-- ---- places as a slice

module _ {A : Type 0} (id : SessionId) (old mid : SessionView) (c d : Known) where
  pub among_more : (new : SessionView) (f : Known) (places : List ℕ) → 1 ≤ length places → (taken : Turn A) → taken ≡ turn.Idle → TakesAmong {A = A} id old c (get_or places 0 0 ∷ []) taken mid d
      → (res : Result (Turn A) Refusal) → MatchResult res (λ t. TakesAmong id mid d (take (length places - 1) (drop 1 places)) t new f) (λ r. StopsAmong id mid d (take (length places - 1) (drop 1 places)) r new f)
      → MatchResult res (λ t. TakesAmong id old c places t new f) (λ r. StopsAmong id old c places r new f)
  among_more new f [] some taken is one res behind = absurd (omega (arith, some))
  among_more new f (place ∷ rest) some taken is one res behind =
      let all : take (length (place ∷ rest) - 1) rest ≡ rest = ap (λ (n : ℕ). take n rest) (omega arith) ∙ take-length rest in
      goes_on id old mid new c d f place rest (subst (λ (t : Turn A). TakesAmong {A = A} id old c (place ∷ []) t mid d) is one) res
      (subst (λ (ps : List ℕ). MatchResult res (λ t. TakesAmong id mid d ps t new f) (λ r. StopsAmong id mid d ps r new f)) all behind)

  pub among_ended : (places : List ℕ) → 1 ≤ length places → (taken : Turn A) → taken ≢ turn.Idle → TakesAmong {A = A} id old c (get_or places 0 0 ∷ []) taken mid d → TakesAmong id old c places taken mid d
  among_ended [] some taken busy one = absurd (omega (arith, some))
  among_ended (place ∷ rest) some taken busy one = ends_first id old mid c d place rest taken busy one

pub among_stopped : (id : SessionId) (old mid : SessionView) (c d : Known) (places : List ℕ) → 1 ≤ length places → (r : Refusal) → StopsAmong id old c (get_or places 0 0 ∷ []) r mid d → StopsAmong id old c places r mid d
among_stopped id old mid c d [] some r one = absurd (omega (arith, some))
among_stopped id old mid c d (place ∷ rest) some r one = stops_first id old mid c d place rest r one
