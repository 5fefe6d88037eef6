-- Places that are due, and turns over them.
use Rattle.std.proofs.Common.{◌≡◌, ◌↔◌, ◌≤◌, ℕ, Bool, true, false, not, Option, Some, None, option_map, List, [], ◌∷◌, ◌++◌, length, filter, Result, Ok, Err, refl, ap, sym, ◌∙◌, subst, arith, if◌then◌else◌}
use Rattle.std.specs.List.{AllByRecursion}
use Rattle.std.specs.Prelude.{IsTrue, MatchResult}
use Rattle.lsm_device.specs.declared.refusal.Refusal.{Refusal}
use Rattle.lsm_levels.specs.Pick.{inputs}
use Rattle.lsm_levels.specs.Stored.{LiesWithin}
use Rattle.lsm_levels.specs.Tables.{Table}
use Rattle.lsm_jobs.specs.Reading.{CanBeRead, JobCanBeRead}
use Rattle.lsm_jobs.specs.Slots.{Slot, Slots, slot_of}
use Rattle.lsm_jobs.specs.Turns.{turn_of}
use Rattle.lsm_jobs.specs.declared.turns.JobTurn.{JobTurn}
use Rattle.lsm_store.specs.Backing.{StoreView, machine_of}
use Rattle.lsm_machine.specs.Machine.{Machine}
use Rattle.lsm_machine.specs.Pieces.{piece_at, unless_put_off, next_among, places_from}
use Rattle.lsm_machine.specs.Work.{Work, Ask}
use Rattle.lsm_machine.proofs.NextPieces.{told_beyond}
use Rattle.lsm_trail.specs.History.{Event}
use Rattle.lsm_trail.specs.Knowledge.{SessionId, Known, known}
use Rattle.lsm_shared.specs.Due.{has_flush_at, has_merge_at, are_none, takes_in_none, is_for_flush, is_for_merge, places_due, or_none, due_or_none}
use Rattle.lsm_shared.specs.Holds.{TakesAmong, StopsAmong}
use Rattle.lsm_shared.specs.Sessions.{SessionView, Finds}
use Rattle.lsm_shared.specs.Turns.{with_piece, pieces_among, as_steps, AreOfTurn, IsTurn}
use Rattle.lsm_shared.specs.declared.turn.Turn.{Turn}
use Rattle.lsm_shared.specs.declared.turn.Turn.TheVariants as turn
use Rattle.lsm_shared.proofs.Turning.{turn_begun}

-- ---- what a slot holds

-- tables lie within no sector where there are none, and then alone
of_tables : (read : Bool) (tables : List Table) → (read ≡ true → AllByRecursion (LiesWithin 0 1) tables) → (length tables ≤ 1024 → AllByRecursion (LiesWithin 0 1) tables → read ≡ true) → read ≡ are_none tables
of_tables read [] lie told = told (omega arith) tt
of_tables true (t ∷ more) lie told = absurd (omega (arith, (lie refl).0.ends))
of_tables false (t ∷ more) lie told = refl

same_slot : (a b : Slot) → Some a ≡ Some b → a ≡ b
same_slot a b is = cc

-- whether those of a job do
pub told_none : (read : Bool) (job : ℕ) (slots : Slots) → IsTrue read ↔ JobCanBeRead 0 1 job slots → read ≡ takes_in_none (slot_of job slots)
told_none read job slots told = by (slot_of job slots) refl
  where
    by : (o : Option Slot) → slot_of job slots ≡ o → read ≡ takes_in_none o
    by None none = told.1 (record { is = λ slot some. absurd (cc (sym none ∙ some)) })
    by (Some slot) some = of_tables read (inputs slot.job)
        (λ yes. ((told.0 yes).is slot some).within)
        (λ few within. told.1 (record { is = λ other also. subst (λ (s : Slot). CanBeRead 0 1 s.job) (same_slot slot other (sym some ∙ also)) (record { few = few; within = within }) }))

none_here : (o : Option Slot) → None ≡ option_map turn_of o → o ≡ None
none_here None is = refl
none_here (Some slot) is = absurd (cc is)

same_turn : (a b : JobTurn) → Some a ≡ Some b → a ≡ b
same_turn a b is = cc

turn_here : (turn : JobTurn) (o : Option Slot) → Some turn ≡ option_map turn_of o → (slot : Slot) × (o ≡ Some slot) × (turn.job ≡ slot.number)
turn_here turn None is = absurd (cc is)
turn_here turn (Some slot) is = (slot, refl, ap (λ (t : JobTurn). t.job) (same_turn turn (turn_of slot) is))

-- a free slot, and one that holds a job, by what is told of its turn
module _ (slots : Slots) (o : Option Slot) where
  pub free_for_flush : (due : Bool) → None ≡ option_map turn_of o → due ≡ is_for_flush due slots o
  free_for_flush due none = sym (ap (is_for_flush due slots) (none_here o none))

  pub free_for_merge : None ≡ option_map turn_of o → false ≡ is_for_merge slots o
  free_for_merge none = sym (ap (is_for_merge slots) (none_here o none))

  pub held_for_flush : (due : Bool) (turn : JobTurn) (told : Bool) → Some turn ≡ option_map turn_of o → told ≡ takes_in_none (slot_of turn.job slots) → told ≡ is_for_flush due slots o
  held_for_flush due turn told some is =
      let here = turn_here turn o some in
      is ∙ ap (λ (job : ℕ). takes_in_none (slot_of job slots)) here.2 ∙ sym (ap (is_for_flush due slots) here.1)

  pub held_for_merge : (turn : JobTurn) (told : Bool) → Some turn ≡ option_map turn_of o → told ≡ takes_in_none (slot_of turn.job slots) → not told ≡ is_for_merge slots o
  held_for_merge turn told some is =
      let here = turn_here turn o some in
      ap not (is ∙ ap (λ (job : ℕ). takes_in_none (slot_of job slots)) here.2) ∙ sym (ap (is_for_merge slots) here.1)

-- ---- places that are asked alike

-- a turn over these places does the same as one over those
abbrev Alike : Machine → List ℕ → List ℕ → Type 0
Alike m xs ys = (pieces_among m xs ≡ pieces_among m ys) × (next_among m xs ≡ next_among m ys)

module _ (m : Machine) where
  -- at the place of no slot nothing waits
  none_there : piece_at m 4 ≡ None
  none_there = sym (told_beyond m 4 (omega arith))

  both_first : (place : ℕ) (xs ys : List ℕ) → Alike m xs ys → Alike m (place ∷ xs) (place ∷ ys)
  both_first place xs ys alike = (ap (with_piece m (piece_at m place)) alike.0, ap (unless_put_off m (piece_at m place)) alike.1)

  none_first : (xs ys : List ℕ) → Alike m xs ys → Alike m (4 ∷ xs) ys
  none_first xs ys alike = (
    ap (λ (o : Option Work). with_piece m o (pieces_among m xs)) none_there ∙ alike.0,
    ap (λ (o : Option Work). unless_put_off m o (next_among m xs)) none_there ∙ alike.1,
  )

  one_first : (b : Bool) (place : ℕ) (xs kept ys : List ℕ) → Alike m xs (kept ++ ys) → Alike m ((if b then place else 4) ∷ xs) ((if b then place ∷ kept else kept) ++ ys)
  one_first true place xs kept ys alike = both_first place xs (kept ++ ys) alike
  one_first false place xs kept ys alike = none_first xs (kept ++ ys) alike

  -- those that pass a test are asked, in the place of each other one none
  passed : (passes : ℕ → Bool) (places xs ys : List ℕ) → Alike m xs ys → Alike m (or_none passes places ++ xs) (filter passes places ++ ys)
  passed passes [] xs ys alike = alike
  passed passes (place ∷ rest) xs ys alike = one_first (passes place) place (or_none passes rest ++ xs) (filter passes rest) ys (passed passes rest xs ys alike)

  last_first : (b : Bool) (place : ℕ) (xs kept : List ℕ) → Alike m xs kept → Alike m ((if b then place else 4) ∷ xs) (if b then place ∷ kept else kept)
  last_first true place xs kept alike = both_first place xs kept alike
  last_first false place xs kept alike = none_first xs kept alike

  passed_last : (passes : ℕ → Bool) (places : List ℕ) → Alike m (or_none passes places) (filter passes places)
  passed_last passes [] = (refl, refl)
  passed_last passes (place ∷ rest) = last_first (passes place) place (or_none passes rest) (filter passes rest) (passed_last passes rest)

  due_alike : (number : ℕ) → Alike m (due_or_none m number) (places_due m number)
  due_alike number = passed (has_flush_at m) (places_from number) (or_none (has_merge_at m) (places_from number)) (filter (has_merge_at m) (places_from number)) (passed_last (has_merge_at m) (places_from number))

-- ---- turns over them

module _ (id : SessionId) (old new : SessionView) (c d : Known) (xs ys : List ℕ) (alike : Alike (machine_of old.store) xs ys) where
  abbrev m : Machine
  m = machine_of old.store

  are_alike : (next : Option Work) (entries : List Event) → AreOfTurn m xs next entries → AreOfTurn m ys next entries
  are_alike next entries are = record { steps = are.steps ∙ ap as_steps alike.0; ends = sym alike.1 ∙ are.ends }

  turn_alike : {A : Type 0} (taken : Turn A) (entries : List Event) → IsTurn m xs c.number taken entries → IsTurn m ys c.number taken entries
  turn_alike turn.Idle entries are = are_alike None entries are
  turn_alike (turn.Did reply) entries (passed, work, answer, behind, told, is, are) = (passed, work, answer, behind, told, is, are_alike (Some work) entries are)
  turn_alike (turn.Merge job result input) entries (passed, behind, is, are) = (passed, behind, is, are_alike (Some (Ask job)) entries are)

  takes_alike : {A : Type 0} (res : Result (Turn A) Refusal) → MatchResult res (λ taken. TakesAmong id old c xs taken new d) (λ r. StopsAmong id old c xs r new d)
      → MatchResult res (λ taken. TakesAmong id old c ys taken new d) (λ r. StopsAmong id old c ys r new d)
  takes_alike (Ok taken) t = record { entries = t.entries; enters = t.enters; serves = t.serves; takes = turn_alike taken t.entries t.takes; stays = t.stays }
  takes_alike (Err r) s = record {
    entries = s.entries;
    enters = s.enters;
    left = s.left;
    mid = s.mid;
    serves = s.serves;
    out = s.out;
    stops = record { more = s.stops.more; steps = s.stops.steps ∙ ap as_steps alike.0 };
    denied = s.denied;
  }

pub due_begun : {A : Type 0} (res : Result (Turn A) Refusal) (id : SessionId) (store : StoreView) (log : List Event) (was old new : SessionView) (c me d : Known) (places : List ℕ) (number : ℕ)
    → record { store = store; log = log } ≡ was → was ≡ old → places ≡ due_or_none (machine_of store) number → number ≡ c.number → Finds id old c → me ≡ known id.begin c.number old.log c.mine
    → MatchResult res (λ taken. TakesAmong id was me places taken new d) (λ r. StopsAmong id was me places r new d)
    → MatchResult res (λ taken. TakesAmong id old c (places_due (machine_of old.store) c.number) taken new d) (λ r. StopsAmong id old c (places_due (machine_of old.store) c.number) r new d)
due_begun res id store log was old new c me d places number view same are by finds shown h =
    let asked = due_or_none (machine_of old.store) c.number in
    let here : record { store = store; log = log } ≡ old = view ∙ same in
    let wanted : places ≡ asked = are ∙ (λ i. due_or_none (machine_of (here i).store) (by i)) in
    takes_alike id old new c d asked (places_due (machine_of old.store) c.number) (due_alike (machine_of old.store) c.number) res
    (turn_begun res id was old new c me d places asked same wanted finds shown h)
