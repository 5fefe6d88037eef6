-- What a machine decides of a piece of work, what memory admits, and what a crash may leave after it.
use Rattle.std.proofs.Common.{◌≡◌, ⊎_elim, Bool, true, false, cond, List, [], ◌∷◌, ◌++◌, Option, Some, None, is_some, refl, ap, sym, subst, ◌∙◌}
use Rattle.std.specs.Prelude.{Contains, IsNone}
use Rattle.std.proofs.lemmas.List.Elements.{Contains-append_left, Contains-append_right, Contains-append_cases}
use Rattle.lsm_device.specs.declared.refusal.Refusal.{Refusal}
use Rattle.lsm_device.specs.declared.refusal.Refusal.TheVariants.{NoMemory, Io, Stopped, BadTable}
use Rattle.lsm_jobs.specs.Slots.{Slot}
use Rattle.lsm_levels.specs.Pick.{is_flush}
use Rattle.lsm_root.specs.CrashState.{CrashState}
use Rattle.lsm_machine.specs.Calls.{Reply}
use Rattle.lsm_machine.specs.Calls.{Number, Done, Value, Rows, Given, Handed, Refused, Unread}
use Rattle.lsm_machine.specs.Crash.{crash_state_at, left_between, may_leave, last_crash_state}
use Rattle.lsm_machine.specs.Effects.{Use, installed}
use Rattle.lsm_machine.specs.Effects.{Untouched, Reads, Changes}
use Rattle.lsm_machine.specs.Machine.{Machine}
use Rattle.lsm_machine.specs.State.{State}
use Rattle.lsm_machine.specs.Work.{Work, Take, Read, Ask, Accept, Write, Install, Drop}
use Rattle.lsm_machine.specs.WorkEffects.{work_answer, work_after, state_after, work_use}
use Rattle.lsm_machine.specs.WorkRefusals.{held, of_slot, work_refusals, running_refusal, work_refusal}
use Rattle.lsm_machine.specs.WorkReplies.{work_reply_by, work_decided, WorkAllows, MayFindNoTable, WorkAdmits, work_left_besides, work_left_inside, after_work_fault, next_worked, worked_by}
use Rattle.lsm_machine.proofs.CrashStates.{IsAnswer, between_may_leave, with_others}
use Rattle.lsm_machine.proofs.Points.{present_synced}
use Rattle.lsm_machine.proofs.Running.{IsDecided, first_decided, no_none}

-- a refusal that the machine decides tells of no fault, and not of memory or a table
pub work_decided_so : (m : Machine) (piece : Work) → IsDecided (work_refusal m piece)
work_decided_so m piece = by (is_some m.state.stopped) piece
  where
    by : (b : Bool) (p : Work) → IsDecided (cond b (Some Stopped) (running_refusal m p))
    by true p = tt
    by false (Take asked) = first_decided (work_refusals m (Take asked)) (tt, tt)
    by false (Read job) = first_decided (work_refusals m (Read job)) (tt, (tt, tt))
    by false (Ask job) = first_decided (work_refusals m (Ask job)) (tt, (tt, tt))
    by false (Accept job result) = first_decided (work_refusals m (Accept job result)) (tt, (tt, (tt, (tt, (tt, tt)))))
    by false (Write job) = first_decided (work_refusals m (Write job)) (tt, (tt, tt))
    by false (Install job) = first_decided (work_refusals m (Install job)) (tt, (tt, (tt, (tt, (tt, tt)))))
    by false (Drop job) = first_decided (work_refusals m (Drop job)) (tt, tt)

module _ (m : Machine) where
  -- what is answered is no refusal
  lent_answers : (o : Option Slot) → IsAnswer (of_slot Done (λ slot. Handed slot.input) o)
  lent_answers None = tt
  lent_answers (Some slot) = tt

  answers : (piece : Work) → IsAnswer (work_answer m piece)
  answers (Take asked) = tt
  answers (Read job) = tt
  answers (Ask job) = lent_answers (held m job)
  answers (Accept job result) = tt
  answers (Write job) = tt
  answers (Install job) = tt
  answers (Drop job) = tt

  module _ (piece : Work) where
    -- a reply that is no refusal is the answer, and nothing refuses the piece
    pub answered_unrefused : (reply : Reply) → IsAnswer reply → reply ≡ work_decided m piece → (work_refusal m piece ≡ None) × (reply ≡ work_answer m piece)
    answered_unrefused reply answer is = by (work_refusal m piece) refl is (subst IsAnswer is answer)
      where
        by : (o : Option Refusal) → work_refusal m piece ≡ o → reply ≡ work_reply_by m piece o → IsAnswer (work_reply_by m piece o) → (work_refusal m piece ≡ None) × (reply ≡ work_answer m piece)
        by None none same answer = (none, same)
        by (Some e) some same answer = absurd answer

    -- the machine goes on by an answer
    pub goes_by_answer : (reply : Reply) → IsAnswer reply → next_worked m piece reply ≡ record { state = state_after m piece; work = work_after m piece }
    goes_by_answer (Refused e) answer = absurd answer
    goes_by_answer Unread answer = absurd answer
    goes_by_answer (Number n) answer = refl
    goes_by_answer Done answer = refl
    goes_by_answer (Value value) answer = refl
    goes_by_answer (Rows page) answer = refl
    goes_by_answer (Given job) answer = refl
    goes_by_answer (Handed input) answer = refl

    allows_answer : (reply : Reply) → IsAnswer reply → reply ≡ work_decided m piece → WorkAllows m piece reply
    allows_answer (Refused e) answer is = absurd answer
    allows_answer Unread answer is = absurd answer
    allows_answer (Number n) answer is = is
    allows_answer Done answer is = is
    allows_answer (Value value) answer is = is
    allows_answer (Rows page) answer is = is
    allows_answer (Given job) answer is = is
    allows_answer (Handed input) answer is = is

    allows_refusal : (e : Refusal) → IsDecided (Some e) → Refused e ≡ work_decided m piece → WorkAllows m piece (Refused e) × (next_worked m piece (Refused e) ≡ m)
    allows_refusal NoMemory d is = absurd d
    allows_refusal Io d is = absurd d
    allows_refusal e d is = (is, refl)

    -- what the machine decides it allows, and goes on by it
    pub work_goes : WorkAllows m piece (work_decided m piece) × (next_worked m piece (work_decided m piece) ≡ worked_by m piece (work_refusal m piece))
    work_goes = by (work_refusal m piece) refl (work_decided_so m piece)
      where
        by : (o : Option Refusal) → work_refusal m piece ≡ o → IsDecided o → WorkAllows m piece (work_reply_by m piece o) × (next_worked m piece (work_reply_by m piece o) ≡ worked_by m piece o)
        by (Some e) is d = allows_refusal e d (ap (work_reply_by m piece) (sym is))
        by None is d = (allows_answer (work_answer m piece) (answers piece) (ap (work_reply_by m piece) (sym is)), goes_by_answer (work_answer m piece) (answers piece))

    -- a machine decides no bad table
    pub no_bad_table_worked : WorkAllows m piece (Refused BadTable) → ⊥
    no_bad_table_worked allows = by (work_refusal m piece) (work_decided_so m piece) allows
      where
        by : (o : Option Refusal) → IsDecided o → Refused BadTable ≡ work_reply_by m piece o → ⊥
        by None h e = subst IsAnswer (sym e) (answers piece)
        by (Some refused) h e = let same : BadTable ≡ refused = cc in subst (λ (r : Refusal). IsDecided (Some r)) (sym same) h

    -- nor that a read of guards faulted
    pub never_unread : Unread ≡ work_decided m piece → ⊥
    never_unread is = by (work_refusal m piece) is
      where
        by : (o : Option Refusal) → Unread ≡ work_reply_by m piece o → ⊥
        by None e = subst IsAnswer (sym e) (answers piece)
        by (Some refused) e = cc

    -- what a machine allows, memory admits
    pub admits_work : (reply : Reply) → WorkAllows m piece reply → WorkAdmits m piece reply
    admits_work (Refused BadTable) allows = absurd (no_bad_table_worked allows)
    admits_work (Refused e) allows = allows
    admits_work (Number n) allows = allows
    admits_work Done allows = allows
    admits_work (Value value) allows = allows
    admits_work (Rows page) allows = allows
    admits_work (Given job) allows = allows
    admits_work (Handed input) allows = allows
    admits_work Unread allows = allows

    -- a refusal that tells of no fault changes nothing
    pub refused_work : (e : Refusal) → (e ≡ Io → ⊥) → next_worked m piece (Refused e) ≡ m
    refused_work Io other = absurd (other refl)
    refused_work e other = refl

-- ---- a stopped store

some_stopped : Some Stopped ≡ None → ⊥
some_stopped e = cc

module _ (m : Machine) (others : List CrashState) (is : m.state.stopped ≡ Some others) where
  pub refuses : (piece : Work) → work_refusal m piece ≡ Some Stopped
  refuses piece = ap (λ (o : Option (List CrashState)). cond (is_some o) (Some Stopped) (running_refusal m piece)) is

  wants_none : (piece : Work) → WorkAdmits m piece (Refused NoMemory) → ⊥
  wants_none (Take asked) may = no_none (subst IsNone (refuses (Take asked)) may.0)
  wants_none (Read job) may = no_none (subst IsNone (refuses (Read job)) may)
  wants_none (Ask job) may = no_none (subst IsNone (refuses (Ask job)) may)
  wants_none (Accept job result) may = ⊎_elim
      (λ none. some_stopped (sym (refuses (Accept job result)) ∙ none))
      (λ full. let same = sym (refuses (Accept job result)) ∙ full in cc)
      may
  wants_none (Write job) may = may
  wants_none (Install job) may = no_none (subst IsNone (refuses (Install job)) may)
  wants_none (Drop job) may = may

  finds_tables : (piece : Work) → MayFindNoTable m piece → ⊥
  finds_tables (Take asked) may = may
  finds_tables (Read job) may = no_none (subst IsNone (refuses (Read job)) may)
  finds_tables (Ask job) may = may
  finds_tables (Accept job result) may = may
  finds_tables (Write job) may = may
  finds_tables (Install job) may = no_none (subst IsNone (refuses (Install job)) may.0)
  finds_tables (Drop job) may = may

  -- it refuses each piece
  pub stopped_work : (piece : Work) (reply : Reply) → WorkAdmits m piece reply → reply ≡ Refused Stopped
  stopped_work piece (Refused NoMemory) may = absurd (wants_none piece may)
  stopped_work piece (Refused Io) may = absurd (no_none (subst IsNone (refuses piece) may.0))
  stopped_work piece (Refused BadTable) may = absurd (finds_tables piece may)
  stopped_work piece (Refused e) may = may ∙ ap (work_reply_by m piece) (refuses piece)
  stopped_work piece (Number n) may = may ∙ ap (work_reply_by m piece) (refuses piece)
  stopped_work piece Done may = may ∙ ap (work_reply_by m piece) (refuses piece)
  stopped_work piece (Value v) may = may ∙ ap (work_reply_by m piece) (refuses piece)
  stopped_work piece (Rows page) may = may ∙ ap (work_reply_by m piece) (refuses piece)
  stopped_work piece (Given job) may = may ∙ ap (work_reply_by m piece) (refuses piece)
  stopped_work piece (Handed input) may = may ∙ ap (work_reply_by m piece) (refuses piece)
  stopped_work piece Unread may = may ∙ ap (work_reply_by m piece) (refuses piece)

-- ---- what a crash may leave

installed_goes : (flush : Bool) (s : State) (left : CrashState) → Contains (left_between (installed flush s)) left → Contains (left_between s ++ last_crash_state (installed flush s) ∷ []) left
installed_goes flush s left found = Contains-append_right (left_between s) (last_crash_state (installed flush s) ∷ []) left
    (subst (λ (x : CrashState). Contains (x ∷ []) left) (ap (crash_state_at (installed flush s)) (sym (present_synced s.points))) found)

module _ (m : Machine) (left : CrashState) where
  slot_goes : (o : Option Slot) → let t = of_slot m.state (λ slot. installed (is_flush slot.job) m.state) o in Contains (may_leave t) left → Contains (may_leave m.state ++ last_crash_state t ∷ []) left
  slot_goes None found = Contains-append_left (may_leave m.state) (last_crash_state m.state ∷ []) left found
  slot_goes (Some slot) found =
      with_others m.state (installed (is_flush slot.job) m.state) (last_crash_state (installed (is_flush slot.job) m.state) ∷ []) left (installed_goes (is_flush slot.job) m.state left) m.state.stopped found

  after_work_goes : (piece : Work) → Contains (may_leave (state_after m piece)) left → Contains (may_leave m.state ++ work_left_besides m piece) left
  after_work_goes (Take asked) found = Contains-append_left (may_leave m.state) [] left found
  after_work_goes (Read job) found = Contains-append_left (may_leave m.state) [] left found
  after_work_goes (Ask job) found = Contains-append_left (may_leave m.state) [] left found
  after_work_goes (Accept job result) found = Contains-append_left (may_leave m.state) [] left found
  after_work_goes (Write job) found = Contains-append_left (may_leave m.state) [] left found
  after_work_goes (Install job) found = slot_goes (held m job) found
  after_work_goes (Drop job) found = Contains-append_left (may_leave m.state) [] left found

  module _ (piece : Work) where
    unrefused_inside : is_some (work_refusal m piece) ≡ false → Contains (may_leave m.state ++ work_left_besides m piece) left → Contains (work_left_inside m piece) left
    unrefused_inside unrefused found = subst (λ b. Contains (may_leave m.state ++ cond b [] (work_left_besides m piece)) left) (sym unrefused) found

    fault_goes : (used : Use) → Contains (may_leave (after_work_fault m piece used).state) left → Contains (may_leave m.state ++ work_left_besides m piece) left
    fault_goes Untouched found = Contains-append_left (may_leave m.state) (work_left_besides m piece) left found
    fault_goes Reads found = Contains-append_left (may_leave m.state) (work_left_besides m piece) left found
    fault_goes Changes found = ⊎_elim
        (λ between. Contains-append_left (may_leave m.state) (work_left_besides m piece) left (between_may_leave m.state left between))
        (λ other. Contains-append_right (may_leave m.state) (work_left_besides m piece) left other)
        (Contains-append_cases (left_between m.state) (work_left_besides m piece) left found)

    answer_inside : (reply : Reply) → IsAnswer reply → reply ≡ work_decided m piece → Contains (may_leave (state_after m piece)) left → Contains (work_left_inside m piece) left
    answer_inside reply answer is found = unrefused_inside (ap is_some (answered_unrefused m piece reply answer is).0) (after_work_goes piece found)

    -- what a crash may leave after a reply, it may leave inside the piece
    pub work_inside : (reply : Reply) → WorkAdmits m piece reply → Contains (may_leave (next_worked m piece reply).state) left → Contains (work_left_inside m piece) left
    work_inside (Refused Io) may found = unrefused_inside may.0 (fault_goes (work_use m piece) found)
    work_inside (Refused e) may found = Contains-append_left (may_leave m.state) _ left found
    work_inside (Number n) may found = answer_inside (Number n) tt may found
    work_inside Done may found = answer_inside Done tt may found
    work_inside (Value v) may found = answer_inside (Value v) tt may found
    work_inside (Rows page) may found = answer_inside (Rows page) tt may found
    work_inside (Given job) may found = answer_inside (Given job) tt may found
    work_inside (Handed input) may found = answer_inside (Handed input) tt may found
    work_inside Unread may found = absurd (never_unread m piece may)

-- ---- what pieces of work keep of the state

module _ {X : Type 0} (f : State → X) (stopping : (s : State) (o : Option (List CrashState)) → f (record s { stopped = o }) ≡ f s) (installing : (flush : Bool) (s : State) → f (installed flush s) ≡ f s) (m : Machine) (piece : Work) where
  slot_keeps : (o : Option Slot) → f (of_slot m.state (λ slot. installed (is_flush slot.job) m.state) o) ≡ f m.state
  slot_keeps None = refl
  slot_keeps (Some slot) = installing (is_flush slot.job) m.state

  after_keeps : (p : Work) → f (state_after m p) ≡ f m.state
  after_keeps (Take asked) = refl
  after_keeps (Read job) = refl
  after_keeps (Ask job) = refl
  after_keeps (Accept job result) = refl
  after_keeps (Write job) = refl
  after_keeps (Install job) = slot_keeps (held m job)
  after_keeps (Drop job) = refl

  fault_keeps : (used : Use) → f (after_work_fault m piece used).state ≡ f m.state
  fault_keeps Untouched = refl
  fault_keeps Reads = refl
  fault_keeps Changes = stopping m.state (Some (work_left_besides m piece))

  -- what neither a stop nor an install changes
  pub work_keeps : (reply : Reply) → f (next_worked m piece reply).state ≡ f m.state
  work_keeps (Refused Io) = fault_keeps (work_use m piece)
  work_keeps (Refused e) = refl
  work_keeps (Number n) = after_keeps piece
  work_keeps Done = after_keeps piece
  work_keeps (Value v) = after_keeps piece
  work_keeps (Rows page) = after_keeps piece
  work_keeps (Given job) = after_keeps piece
  work_keeps (Handed input) = after_keeps piece
  work_keeps Unread = after_keeps piece
