-- What a hold of the lock tells the client.
use Rattle.std.proofs.Common.{◌≡◌, ℕ, ◌≤◌, List, [], ◌∷◌, ◌++◌, length, Option, Some, None, option_map, Result, Ok, Err, ap, sym, ◌∙◌, subst, append_assoc}
use Rattle.std.specs.Arc.{arc_value}
use Rattle.std.specs.Prelude.{Contains, IfOk, IfErr, MatchResult}
use Rattle.std.proofs.lemmas.List.Elements.{Contains-push}
use Rattle.std.proofs.lemmas.List.{append-nil}
use Rattle.lsm_device.specs.declared.refusal.Refusal.{Refusal}
use Rattle.lsm_device.specs.declared.refusal.Refusal.TheVariants.{NoMemory, TrailFull, NotYours}
use Rattle.lsm_levels.specs.declared.choosing.Choice.{Choice}
use Rattle.lsm_merge.specs.Results.{MergeResult}
use Rattle.lsm_store.specs.Backing.{machine_of}
use Rattle.lsm_machine.specs.Calls.{Call}
use Rattle.lsm_machine.specs.Calls.{Given, Refused}
use Rattle.lsm_machine.specs.Machine.{Machine, Worked}
use Rattle.lsm_machine.specs.Pieces.{next_piece, places_from}
use Rattle.lsm_machine.specs.Run.{Admits, Allows}
use Rattle.lsm_machine.specs.State.{State}
use Rattle.lsm_machine.specs.Work.{Work, Take}
use Rattle.lsm_machine.specs.WorkReplies.{work_decided}
use Rattle.lsm_lives.specs.Asked.{Told}
use Rattle.lsm_lives.specs.Calls.{told_of}
use Rattle.lsm_lives.specs.declared.calls.Reply.{Reply as GivenReply}
use Rattle.lsm_trail.specs.History.{Event, lent_to, machine_after, IsLegal, entries_by}
use Rattle.lsm_trail.specs.Knowledge.{SessionId, Known, Sees}
use Rattle.lsm_shared.specs.Clients.{Adds, MakesCall, Denies, IsNoCall}
use Rattle.lsm_shared.specs.Due.{places_due, next_due, MayMerge}
use Rattle.lsm_shared.specs.Holds.{IsPutBack, IsTakenOf, IsNotTakenOf, IsTakenNext, IsNotTakenNext, TakesAmong, StopsAmong, IsBroughtBy, StopsBringing}
use Rattle.lsm_shared.specs.Sessions.{SessionView, Enters, EntersStep, IsMade, IsRefused}
use Rattle.lsm_shared.specs.Turns.{Gives, MayChoose, MakesPiece, IsNoPiece, TakesOf, IsNotTaken, TakesNext, IsNoNext, IsTurn, MayRest, TakesTurn, StopsBefore, DeniesWork, IsNoTurn, MayPause, TakesDue, IsNotDue, HasLent, Brings, IsNotBrought}
use Rattle.lsm_shared.specs.declared.turn.Turn.{Turn}
use Rattle.lsm_shared.specs.declared.turn.Turn.TheVariants as turn

module _ (id : SessionId) (old new : SessionView) (c d : Known) (entries : List Event) (e : Enters id old c entries new d) where
  -- what others did since
  abbrev others : List Event
  others = e.finds.knows.seen.0

  before : c.seen ++ others ≡ old.log
  before = e.finds.knows.seen.1

  begin_is : d.begin ≡ id.begin
  begin_is = ap (λ (k : Known). k.begin) e.client

  number_is : d.number ≡ c.number
  number_is = ap (λ (k : Known). k.number) e.client

  seen_is : d.seen ≡ new.log
  seen_is = ap (λ (k : Known). k.seen) e.client

  mine_is : d.mine ≡ c.mine ++ entries
  mine_is = ap (λ (k : Known). k.mine) e.client

  adds : Adds c others entries d
  adds = record {
    begin = begin_is ∙ sym e.finds.knows.begin;
    number = number_is;
    seen = seen_is ∙ e.log ∙ ap (λ (l : List Event). l ++ entries) (sym before);
    mine = mine_is;
    legal = subst (λ (k : Known). IsLegal k.begin k.seen) (sym e.client) e.legal;
    own = (λ i. entries_by (number_is i) (seen_is i)) ∙ e.own ∙ sym mine_is;
    room = subst (λ (k : Known). length k.seen ≤ k.begin.limit) (sym e.client) e.room;
  }

  -- the machine that the hold found
  machine_found : machine_of old.store ≡ machine_after d.begin (c.seen ++ others)
  machine_found = e.finds.machine ∙ (λ i. machine_after (sym begin_is i) (sym before i))

  -- and the one that it left
  machine_left : machine_of new.store ≡ machine_after d.begin d.seen
  machine_left = e.machine ∙ (λ i. machine_after (sym begin_is i) (sym seen_is i))

  -- why a piece of work is no entry after it
  denied_then : (left : Work) (r : Refusal) → DeniesWork id.begin new.log left r → DeniesWork d.begin d.seen left r
  denied_then left r denied = subst (λ (k : Known). DeniesWork k.begin k.seen left r) (sym e.client) denied

-- where a hold made no entry, the client has seen the history
sees : (id : SessionId) (old new : SessionView) (c d : Known) → Enters id old c [] new d → Sees c d
sees id old new c d e = record {
  begin = (adds id old new c d [] e).begin;
  number = (adds id old new c d [] e).number;
  seen = (others id old new c d [] e, before id old new c d [] e ∙ sym (append-nil old.log) ∙ sym e.log ∙ sym (seen_is id old new c d [] e));
  mine = mine_is id old new c d [] e ∙ append-nil c.mine;
  legal = (adds id old new c d [] e).legal;
  own = (adds id old new c d [] e).own;
  room = (adds id old new c d [] e).room;
}

-- a client that is denied a call has seen the history after which it is denied
denied_call : (id : SessionId) (old new : SessionView) (c d : Known) (call : Call) (r : Refusal) → Enters id old c [] new d → Denies id.begin old.log call r → IsNoCall c call r d
denied_call id old new c d call r e why =
    (sees id old new c d e, subst (λ (k : Known). Denies k.begin k.seen call r) (sym e.client) (subst (λ (l : List Event). Denies id.begin l call r) (sym (append-nil old.log) ∙ sym e.log) why))

no_call : (id : SessionId) (old new : SessionView) (c d : Known) (call : Call) (r : Refusal) → IsRefused id old c call r new d → IsNoCall c call r d
no_call id old new c d call TrailFull h = denied_call id old new c d call TrailFull h.enters h.full
no_call id old new c d call NotYours h = denied_call id old new c d call NotYours h.enters (h.room, h.releases)
no_call id old new c d call NoMemory h =
    let state = ap (λ (m : Machine). m.state) h.enters.finds.machine in
    denied_call id old new c d call NoMemory h.enters (h.room, subst (λ (s : State). Admits s call (Refused NoMemory)) state h.admitted, λ began. subst (λ (s : State). Allows s call (Refused NoMemory)) state (h.allowed began))
no_call id old new c d call r h = absurd h

pub tells_made : {T : Type 0} (res : Result T Refusal) (f : T → Told) (id : SessionId) (old new : SessionView) (c d : Known) (call : Call) → IfOk res (λ r. IsMade id old c call (f r) new d) → IfOk res (λ r. MakesCall c call (f r) d)
tells_made (Ok r) f id old new c d call made = record {
  reply = made.reply;
  told = made.told;
  others = others id old new c d _ made.one.enters;
  machine = machine_of new.store;
  adds = adds id old new c d _ made.one.enters;
}
tells_made (Err e) f id old new c d call made = tt

pub tells_refused : {T : Type 0} (res : Result T Refusal) (id : SessionId) (old new : SessionView) (c d : Known) (call : Call) → IfErr res (λ e. IsRefused id old c call e new d) → IfErr res (λ e. IsNoCall c call e d)
tells_refused (Ok r) id old new c d call refused = tt
tells_refused (Err e) id old new c d call refused = no_call id old new c d call e refused

-- ---- turns

rests_then : {A : Type 0} (id : SessionId) (old new : SessionView) (c d : Known) (taken : Turn A) → TakesAmong id old c (places_from c.number) taken new d → MayRest taken d
rests_then id old new c d turn.Idle t =
    let e = t.enters in
    let machine : machine_after d.begin d.seen ≡ machine_of old.store = sym (machine_left id old new c d t.entries e) ∙ t.stays in
    (λ i. next_piece (machine i) (number_is id old new c d t.entries e i)) ∙ t.takes.ends
rests_then id old new c d (turn.Did reply) t = tt
rests_then id old new c d (turn.Merge job result input) t = tt

takes_turn : {A : Type 0} (id : SessionId) (old new : SessionView) (c d : Known) (taken : Turn A) → TakesAmong id old c (places_from c.number) taken new d → TakesTurn c taken d
takes_turn id old new c d taken t = record {
  others = others id old new c d t.entries t.enters;
  entries = t.entries;
  adds = adds id old new c d t.entries t.enters;
  takes = subst (λ (m : Machine). IsTurn m (places_from c.number) c.number taken t.entries) (machine_found id old new c d t.entries t.enters) t.takes;
  rests = rests_then id old new c d taken t;
}

no_turn : (id : SessionId) (old new : SessionView) (c d : Known) (r : Refusal) → StopsAmong id old c (places_from c.number) r new d → IsNoTurn c r d
no_turn id old new c d r s = record {
  others = others id old new c d s.entries s.enters;
  entries = s.entries;
  adds = adds id old new c d s.entries s.enters;
  left = s.left;
  stops = subst (λ (m : Machine). StopsBefore m (places_from c.number) s.entries s.left) (machine_found id old new c d s.entries s.enters) s.stops;
  denied = denied_then id old new c d s.entries s.enters s.left r s.denied;
}

pub tells_turn : {A : Type 0} (res : Result (Turn A) Refusal) (id : SessionId) (old new : SessionView) (c d : Known)
    → MatchResult res (λ taken. TakesAmong id old c (places_from c.number) taken new d) (λ r. StopsAmong id old c (places_from c.number) r new d)
    → MatchResult res (λ taken. TakesTurn c taken d) (λ r. IsNoTurn c r d)
tells_turn (Ok taken) id old new c d t = takes_turn id old new c d taken t
tells_turn (Err r) id old new c d s = no_turn id old new c d r s

-- what a turn handed out was lent by its last entry
has_lent : {A : Type 0} (c d : Known) (others entries : List Event) (m : Machine) (places : List ℕ) (taken : Turn A) → Adds c others entries d → IsTurn m places c.number taken entries → HasLent taken d
has_lent c d others entries m places turn.Idle adds t = tt
has_lent c d others entries m places (turn.Did reply) adds t = tt
has_lent c d others entries m places (turn.Merge job result input) adds t =
    let (passed, behind, is, are) = t in
    let e = lent_to c.number job (arc_value input) result behind in
    let mine : d.mine ≡ (c.mine ++ passed) ++ e ∷ [] = adds.mine ∙ ap (λ (l : List Event). c.mine ++ l) is ∙ sym (append_assoc c.mine passed (e ∷ [])) in
    record { client = c.number; machine = behind; among = subst (λ (l : List Event). Contains l e) (sym mine) (Contains-push (c.mine ++ passed) e) }

pub tells_lent : {A : Type 0} (res : Result (Turn A) Refusal) (c d : Known) → MatchResult res (λ taken. TakesTurn c taken d) (λ r. IsNoTurn c r d) → IfOk res (λ taken. HasLent taken d)
tells_lent (Ok taken) c d t = has_lent c d t.others t.entries _ _ taken t.adds t.takes
tells_lent (Err r) c d t = tt

-- ---- turns over the places that are due

-- the places that are due where a hold found the machine
abbrev due_at : SessionView → Known → List ℕ
due_at old c = places_due (machine_of old.store) c.number

pauses_then : {A : Type 0} (id : SessionId) (old new : SessionView) (c d : Known) (taken : Turn A) → TakesAmong id old c (due_at old c) taken new d → MayPause taken d
pauses_then id old new c d turn.Idle t =
    let e = t.enters in
    let machine : machine_after d.begin d.seen ≡ machine_of old.store = sym (machine_left id old new c d t.entries e) ∙ t.stays in
    (λ i. next_due (machine i) (number_is id old new c d t.entries e i)) ∙ t.takes.ends
pauses_then id old new c d (turn.Did reply) t = tt
pauses_then id old new c d (turn.Merge job result input) t = tt

takes_due : {A : Type 0} (id : SessionId) (old new : SessionView) (c d : Known) (taken : Turn A) → TakesAmong id old c (due_at old c) taken new d → TakesDue c taken d
takes_due id old new c d taken t = record {
  others = others id old new c d t.entries t.enters;
  entries = t.entries;
  adds = adds id old new c d t.entries t.enters;
  takes = subst (λ (m : Machine). IsTurn m (places_due m c.number) c.number taken t.entries) (machine_found id old new c d t.entries t.enters) t.takes;
  rests = pauses_then id old new c d taken t;
}

not_due : (id : SessionId) (old new : SessionView) (c d : Known) (r : Refusal) → StopsAmong id old c (due_at old c) r new d → IsNotDue c r d
not_due id old new c d r s = record {
  others = others id old new c d s.entries s.enters;
  entries = s.entries;
  adds = adds id old new c d s.entries s.enters;
  left = s.left;
  stops = subst (λ (m : Machine). StopsBefore m (places_due m c.number) s.entries s.left) (machine_found id old new c d s.entries s.enters) s.stops;
  denied = denied_then id old new c d s.entries s.enters s.left r s.denied;
}

pub tells_due : {A : Type 0} (res : Result (Turn A) Refusal) (id : SessionId) (old new : SessionView) (c d : Known)
    → MatchResult res (λ taken. TakesAmong id old c (due_at old c) taken new d) (λ r. StopsAmong id old c (due_at old c) r new d)
    → MatchResult res (λ taken. TakesDue c taken d) (λ r. IsNotDue c r d)
tells_due (Ok taken) id old new c d t = takes_due id old new c d taken t
tells_due (Err r) id old new c d s = not_due id old new c d r s

pub tells_due_lent : {A : Type 0} (res : Result (Turn A) Refusal) (c d : Known) → MatchResult res (λ taken. TakesDue c taken d) (λ r. IsNotDue c r d) → IfOk res (λ taken. HasLent taken d)
tells_due_lent (Ok taken) c d t = has_lent c d t.others t.entries _ _ taken t.adds t.takes
tells_due_lent (Err r) c d t = tt

-- ---- one piece

abbrev made_piece : (id : SessionId) (old new : SessionView) (c d : Known) (work : Work) (answer : Told) → EntersStep id old c (Worked work) 0 answer new d → MakesPiece c work answer d
made_piece id old new c d work answer p = record {
  reply = p.reply;
  told = p.told;
  others = others id old new c d _ p.one.enters;
  behind = machine_of new.store;
  adds = adds id old new c d _ p.one.enters;
}

no_piece : (id : SessionId) (old new : SessionView) (c d : Known) (work : Work) (r : Refusal) → IsPutBack id old c work r new d → IsNoPiece c work r d
no_piece id old new c d work r b = record {
  others = others id old new c d [] b.enters;
  adds = adds id old new c d [] b.enters;
  denied = denied_then id old new c d [] b.enters work r b.denied;
}

-- where a hold made no entry, the client has seen the history after which it found the machine
machine_seen : (id : SessionId) (old new : SessionView) (c d : Known) → Enters id old c [] new d → machine_of old.store ≡ machine_after d.begin d.seen
machine_seen id old new c d e =
    let log : old.log ≡ d.seen = sym (append-nil old.log) ∙ sym e.log ∙ sym (seen_is id old new c d [] e) in
    e.finds.machine ∙ (λ i. machine_after (sym (begin_is id old new c d [] e) i) (log i))

not_taken : (id : SessionId) (old new : SessionView) (c d : Known) (choice : Choice) (r : Refusal) → IsNotTakenOf id old c choice r new d → IsNotTaken c choice r d
not_taken id old new c d choice r t = record {
  piece = no_piece id old new c d (Take (Some choice)) r t.piece;
  gives = subst (λ (m : Machine). Gives m (Take (Some choice))) (machine_seen id old new c d t.piece.enters) t.gives;
}

pub tells_of : {A : Type 0} (res : Result (Option (GivenReply A)) Refusal) (id : SessionId) (old new : SessionView) (c d : Known) (choice : Choice)
    → MatchResult res (λ taken. IsTakenOf id old c choice (option_map told_of taken) new d) (λ r. IsNotTakenOf id old c choice r new d)
    → MatchResult res (λ taken. TakesOf c choice (option_map told_of taken) d) (λ r. IsNotTaken c choice r d)
tells_of (Ok None) id old new c d choice t =
    (sees id old new c d t.enters, subst (λ (m : Machine). work_decided m (Take (Some choice)) ≡ Given None) (machine_seen id old new c d t.enters) t.none)
tells_of (Ok (Some reply)) id old new c d choice t = made_piece id old new c d (Take (Some choice)) (told_of reply) t
tells_of (Err r) id old new c d choice t = not_taken id old new c d choice r t

pub tells_next : {A : Type 0} (res : Result (Option (GivenReply A)) Refusal) (id : SessionId) (old new : SessionView) (c d : Known)
    → MatchResult res (λ taken. IsTakenNext id old c (option_map told_of taken) new d) (λ r. IsNotTakenNext id old c r new d)
    → MatchResult res (λ taken. TakesNext c (option_map told_of taken) d) (λ r. IsNoNext c r d)
tells_next (Ok None) id old new c d t = sees id old new c d t.0
tells_next (Ok (Some reply)) id old new c d t = record {
  choice = t.choice;
  piece = made_piece id old new c d (Take (Some t.choice)) (told_of reply) t.step;
  may = subst (λ (m : Machine). MayChoose m t.choice) (machine_found id old new c d _ t.step.one.enters) t.may;
  next = subst MayMerge (machine_found id old new c d _ t.step.one.enters) t.next;
}
tells_next (Err r) id old new c d t = (t.0, not_taken id old new c d t.0 r t.1)

-- ---- results

pub tells_brought : {A : Type 0} (res : Result (GivenReply A) Refusal) (id : SessionId) (old new : SessionView) (c d : Known) (job result : ℕ) (made : MergeResult)
    → MatchResult res (λ reply. IsBroughtBy id old c job result made (told_of reply) new d) (λ r. StopsBringing id old c job result made r new d)
    → MatchResult res (λ reply. Brings c job result made (told_of reply) d) (λ r. IsNotBrought c job result made r d)
tells_brought (Ok reply) id old new c d job result made b =
    record { reply = b.reply; told = b.told; others = others id old new c d b.entries b.enters; entries = b.entries; adds = adds id old new c d b.entries b.enters; brought = b.brought }
tells_brought (Err r) id old new c d job result made s = record {
  others = others id old new c d s.entries s.enters;
  entries = s.entries;
  adds = adds id old new c d s.entries s.enters;
  left = s.left;
  behind = s.behind;
  denied = denied_then id old new c d s.entries s.enters s.left r s.denied;
}
