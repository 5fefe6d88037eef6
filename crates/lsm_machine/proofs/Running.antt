-- What a state decides of a call, and what memory admits.
use Rattle.std.proofs.Common.{◌≡◌, ◌<◌, ◌⊎◌, inl, inr, ⊎_elim, ℕ, suc, ◌+◌, Bool, true, false, not, cond, List, [], ◌∷◌, ◌++◌, length, Option, Some, None, is_some, refl, ap, sym, subst, ◌∙◌, arith}
use Rattle.std.specs.Prelude.{IsNone, IsTrue}
use Rattle.std.specs.List.{AllByRecursion}
use Rattle.std.specs.FinMap as finite
use Rattle.lsm_device.specs.declared.refusal.Refusal.{Refusal}
use Rattle.lsm_device.specs.declared.refusal.Refusal.TheVariants.{NoMemory, Io, Stopped, BadTable, GuardFailed}
use Rattle.lsm_root.specs.CrashState.{CrashState}
use Rattle.lsm_codec.specs.Keys.{Bytes}
use Rattle.lsm_codec.specs.Map.{Map}
use Rattle.lsm_codec.specs.Guards.{Condition, is_met}
use Rattle.lsm_machine.specs.RecoveryPoints.{present_map}
use Rattle.lsm_machine.specs.State.{State, map_at}
use Rattle.lsm_mem.specs.Paging.{Page}
use Rattle.lsm_machine.specs.Calls.{Call, Reply}
use Rattle.lsm_machine.specs.Calls.{Commit, CommitIf, Sync, SyncTo, Get, Scan, Snapshot, Release, Rotate, LogRoom, Number, Done, Value, Rows, Given, Handed, Refused, Unread}
use Rattle.lsm_machine.specs.Refusals.{refusals, first_refusal, refusal, guard_refusals, later_refusals, full_refusal}
use Rattle.lsm_machine.specs.Effects.{answer, after, decided, completed, reply_by, state_by, takes_memory, wants_memory}
use Rattle.lsm_machine.proofs.CrashStates.{IsAnswer, answer_unrefused}
use Rattle.lsm_machine.proofs.GuardReads.{unread_reads}
use Rattle.lsm_machine.specs.Run.{Allows, Admits, asks_value, asks_page, guards_of, next}

-- ---- ample memory, and no fault

-- a refusal that the state decides is not one of these
abbrev pub IsDecided : Option Refusal → Type 0
IsDecided (Some NoMemory) = ⊥
IsDecided (Some Io) = ⊥
IsDecided (Some BadTable) = ⊥
IsDecided other = Unit {0}

pub first_decided : (tests : List (Bool × Refusal)) → AllByRecursion (λ test. IsDecided (Some test.1)) tests → IsDecided (first_refusal tests)
first_decided [] each = tt
first_decided (test ∷ rest) each = one test.0 (first_decided rest each.1)
  where
    one : (b : Bool) → IsDecided (first_refusal rest) → IsDecided (cond b (Some test.1) (first_refusal rest))
    one true later = each.0
    one false later = later

-- guards tell of none of these
pub guards_decided : (place : ℕ) (m : Map) (guards : List Condition) → AllByRecursion (λ test. IsDecided (Some test.1)) (guard_refusals place m guards)
guards_decided place m [] = tt
guards_decided place m (guard ∷ rest) = (tt, guards_decided (suc place) m rest)

pub full_decided : (s : State) (call : Call) → IsDecided (full_refusal s call)
full_decided s call = by (is_some s.stopped) call
  where
    by : (b : Bool) (c : Call) → IsDecided (cond b (Some Stopped) (first_refusal (refusals s c ++ later_refusals s c)))
    by true c = tt
    by false (Commit batch) = first_decided (refusals s (Commit batch)) (tt, (tt, tt))
    by false (CommitIf guards batch) = first_decided (refusals s (CommitIf guards batch) ++ later_refusals s (CommitIf guards batch)) (tt, (tt, (tt, guards_decided 0 (present_map s.points) guards)))
    by false Sync = tt
    by false (SyncTo number) = first_decided (refusals s (SyncTo number)) (tt, tt)
    by false (Get at key) = first_decided (refusals s (Get at key)) (tt, (tt, tt))
    by false (Scan at from to limit) = first_decided (refusals s (Scan at from to limit)) (tt, (tt, (tt, tt)))
    by false Snapshot = first_decided (refusals s Snapshot) (tt, (tt, tt))
    by false (Release number) = first_decided (refusals s (Release number)) (tt, tt)
    by false Rotate = first_decided (refusals s Rotate) (tt, (tt, (tt, tt)))
    by false LogRoom = tt

-- ---- refusals before others

-- where none of all holds, none of the first ones does
pub first_before : (tests more : List (Bool × Refusal)) → is_some (first_refusal (tests ++ more)) ≡ false → is_some (first_refusal tests) ≡ false
first_before [] more none = refl
first_before (test ∷ rest) more none = by test.0 (first_before rest more) none
  where
    by : (b : Bool) → (is_some (first_refusal (rest ++ more)) ≡ false → is_some (first_refusal rest) ≡ false)
        → is_some (cond b (Some test.1) (first_refusal (rest ++ more))) ≡ false → is_some (cond b (Some test.1) (first_refusal rest)) ≡ false
    by true later h = h
    by false later h = later h

-- where one of the first ones holds, it is the first of all
pub first_found : (tests more : List (Bool × Refusal)) (e : Refusal) → first_refusal tests ≡ Some e → first_refusal (tests ++ more) ≡ Some e
first_found [] more e is = absurd (no is)
  where
    no : None ≡ Some e → ⊥
    no h = cc
first_found (test ∷ rest) more e is = by test.0 (first_found rest more e) is
  where
    by : (b : Bool) → (first_refusal rest ≡ Some e → first_refusal (rest ++ more) ≡ Some e) → cond b (Some test.1) (first_refusal rest) ≡ Some e → cond b (Some test.1) (first_refusal (rest ++ more)) ≡ Some e
    by true later h = h
    by false later h = later h

-- and else the first of the others
pub first_parts : (tests more : List (Bool × Refusal)) (e : Refusal) → first_refusal (tests ++ more) ≡ Some e → (first_refusal tests ≡ Some e) ⊎ ((first_refusal tests ≡ None) × (first_refusal more ≡ Some e))
first_parts [] more e is = inr (refl, is)
first_parts (test ∷ rest) more e is = by test.0 (first_parts rest more e) is
  where
    by : (b : Bool) → (first_refusal (rest ++ more) ≡ Some e → (first_refusal rest ≡ Some e) ⊎ ((first_refusal rest ≡ None) × (first_refusal more ≡ Some e)))
        → cond b (Some test.1) (first_refusal (rest ++ more)) ≡ Some e → (cond b (Some test.1) (first_refusal rest) ≡ Some e) ⊎ ((cond b (Some test.1) (first_refusal rest) ≡ None) × (first_refusal more ≡ Some e))
    by true later h = inl h
    by false later h = later h

module _ (s : State) (call : Call) where
  abbrev pub first_tests : List (Bool × Refusal)
  first_tests = (is_some s.stopped, Stopped) ∷ refusals s call

  pub full_none : is_some (full_refusal s call) ≡ false → is_some (refusal s call) ≡ false
  full_none none = first_before first_tests (later_refusals s call) none

  pub full_found : (e : Refusal) → refusal s call ≡ Some e → full_refusal s call ≡ Some e
  full_found e is = first_found first_tests (later_refusals s call) e is

pub none_by : {X : Type 0} (o : Option X) → is_some o ≡ false → o ≡ None
none_by None is = refl
none_by (Some x) is = absurd (no is)
  where
    no : true ≡ false → ⊥
    no e = cc

-- what the state decides it allows, and goes on by it
module _ (s : State) where
  by_answer : (call : Call) → full_refusal s call ≡ None → Allows s call (answer s call) × (next s call (answer s call) ≡ after s call)
  by_answer (Commit batch) is = (ap (reply_by s (Commit batch)) (sym is), refl)
  by_answer (CommitIf guards batch) is = (ap (reply_by s (CommitIf guards batch)) (sym is), refl)
  by_answer Sync is = (ap (reply_by s Sync) (sym is), refl)
  by_answer (SyncTo number) is = (ap (reply_by s (SyncTo number)) (sym is), refl)
  by_answer (Get at key) is = (ap (reply_by s (Get at key)) (sym is), refl)
  by_answer (Scan at from to limit) is = (ap (reply_by s (Scan at from to limit)) (sym is), refl)
  by_answer Snapshot is = (ap (reply_by s Snapshot) (sym is), refl)
  by_answer (Release number) is = (ap (reply_by s (Release number)) (sym is), refl)
  by_answer Rotate is = (ap (reply_by s Rotate) (sym is), refl)
  by_answer LogRoom is = (ap (reply_by s LogRoom) (sym is), refl)

  pub by_refusal : (call : Call) (e : Refusal) → full_refusal s call ≡ Some e → IsDecided (Some e) → Allows s call (Refused e) × (next s call (Refused e) ≡ s)
  by_refusal call NoMemory is decides = absurd decides
  by_refusal call Io is decides = absurd decides
  by_refusal call e is decides = (ap (reply_by s call) (sym is), refl)

  by_either : (call : Call) (o : Option Refusal) → full_refusal s call ≡ o → IsDecided o → Allows s call (reply_by s call o) × (next s call (reply_by s call o) ≡ state_by s call o)
  by_either call (Some e) is decides = by_refusal call e is decides
  by_either call None is decides = by_answer call is

  pub decided_goes : (call : Call) → Allows s call (decided s call) × (next s call (decided s call) ≡ completed s call)
  decided_goes call = by_either call (full_refusal s call) refl (full_decided s call)

-- ---- what memory admits

-- where an answer is a value or a page, nothing refuses the call, and it asks for one
value_asked : (s : State) (call : Call) (value : Option Bytes) → Value value ≡ decided s call → IsNone (refusal s call) × IsTrue (asks_value call)
value_asked s call value is = let found = by (full_refusal s call) is in (full_none s call found.0, found.1)
  where
    at : (c : Call) → Value value ≡ answer s c → IsTrue (asks_value c)
    at (Commit batch) e = cc
    at (CommitIf guards batch) e = cc
    at Sync e = cc
    at (SyncTo number) e = cc
    at (Get a key) e = refl
    at (Scan a from to limit) e = cc
    at Snapshot e = cc
    at (Release number) e = cc
    at Rotate e = cc
    at LogRoom e = cc

    by : (o : Option Refusal) → Value value ≡ reply_by s call o → IsNone o × IsTrue (asks_value call)
    by None e = (refl, at call e)
    by (Some refused) e = cc

page_asked : (s : State) (call : Call) (page : Page) → Rows page ≡ decided s call → IsNone (refusal s call) × IsTrue (asks_page call)
page_asked s call page is = let found = by (full_refusal s call) is in (full_none s call found.0, found.1)
  where
    at : (c : Call) → Rows page ≡ answer s c → IsTrue (asks_page c)
    at (Commit batch) e = cc
    at (CommitIf guards batch) e = cc
    at Sync e = cc
    at (SyncTo number) e = cc
    at (Get a key) e = cc
    at (Scan a from to limit) e = refl
    at Snapshot e = cc
    at (Release number) e = cc
    at Rotate e = cc
    at LogRoom e = cc

    by : (o : Option Refusal) → Rows page ≡ reply_by s call o → IsNone o × IsTrue (asks_page call)
    by None e = (refl, at call e)
    by (Some refused) e = cc

-- and it takes memory: a value that was found is copied
pub value_wanted : (s : State) (call : Call) (value : Bytes) → Value (Some value) ≡ decided s call → IsNone (refusal s call) × IsTrue (wants_memory s call)
value_wanted s call value is = let found = by (full_refusal s call) is in (full_none s call found.0, found.1)
  where
    at : (c : Call) → Value (Some value) ≡ answer s c → IsTrue (wants_memory s c)
    at (Commit batch) e = cc
    at (CommitIf guards batch) e = cc
    at Sync e = cc
    at (SyncTo number) e = cc
    at (Get a key) e = let same : Some value ≡ finite.get (map_at s a) key = cc in sym (ap is_some same)
    at (Scan a from to limit) e = refl
    at Snapshot e = cc
    at (Release number) e = cc
    at Rotate e = cc
    at LogRoom e = cc

    by : (o : Option Refusal) → Value (Some value) ≡ reply_by s call o → IsNone o × IsTrue (wants_memory s call)
    by None e = (refl, at call e)
    by (Some refused) e = cc

pub page_wanted : (s : State) (call : Call) (page : Page) → Rows page ≡ decided s call → IsNone (refusal s call) × IsTrue (wants_memory s call)
page_wanted s call page is = let found = by (full_refusal s call) is in (full_none s call found.0, found.1)
  where
    at : (c : Call) → Rows page ≡ answer s c → IsTrue (wants_memory s c)
    at (Commit batch) e = cc
    at (CommitIf guards batch) e = cc
    at Sync e = cc
    at (SyncTo number) e = cc
    at (Get a key) e = cc
    at (Scan a from to limit) e = refl
    at Snapshot e = cc
    at (Release number) e = cc
    at Rotate e = cc
    at LogRoom e = cc

    by : (o : Option Refusal) → Rows page ≡ reply_by s call o → IsNone o × IsTrue (wants_memory s call)
    by None e = (refl, at call e)
    by (Some refused) e = cc

-- a state decides no bad table
pub no_bad_table : (s : State) (call : Call) → Allows s call (Refused BadTable) → ⊥
no_bad_table s call allows = by (full_refusal s call) (full_decided s call) allows
  where
    at : (c : Call) → Refused BadTable ≡ answer s c → ⊥
    at (Commit batch) e = cc
    at (CommitIf guards batch) e = cc
    at Sync e = cc
    at (SyncTo number) e = cc
    at (Get a key) e = cc
    at (Scan a from to limit) e = cc
    at Snapshot e = cc
    at (Release number) e = cc
    at Rotate e = cc
    at LogRoom e = cc

    by : (o : Option Refusal) → IsDecided o → Refused BadTable ≡ reply_by s call o → ⊥
    by None h e = at call e
    by (Some refused) h e = let same : BadTable ≡ refused = cc in subst (λ (r : Refusal). IsDecided (Some r)) (sym same) h

-- a call that takes memory in a state takes some in each
wanting : (s : State) (call : Call) → IsTrue (wants_memory s call) → IsTrue (takes_memory call)
wanting s (Commit batch) wants = refl
wanting s (CommitIf guards batch) wants = refl
wanting s Sync wants = wants
wanting s (SyncTo number) wants = wants
wanting s (Get at key) wants = refl
wanting s (Scan at from to limit) wants = refl
wanting s Snapshot wants = refl
wanting s (Release number) wants = wants
wanting s Rotate wants = refl
wanting s LogRoom wants = wants

-- ---- guards

-- the refusals of guards alone
abbrev IsLate : Refusal → Type 0
IsLate (GuardFailed place) = Unit {0}
IsLate other = ⊥

-- that of a guard has a place among them
guard_place : (place : ℕ) (m : Map) (guards : List Condition) (e : Refusal) → first_refusal (guard_refusals place m guards) ≡ Some e → (n : ℕ) × (n < length guards) × (e ≡ GuardFailed (place + n))
guard_place place m [] e is = absurd (no is)
  where
    no : None ≡ Some e → ⊥
    no h = cc
guard_place place m (guard ∷ rest) e is = by (not (is_met m guard)) (guard_place (suc place) m rest e) is
  where
    by : (b : Bool) → (first_refusal (guard_refusals (suc place) m rest) ≡ Some e → (n : ℕ) × (n < length rest) × (e ≡ GuardFailed (suc place + n)))
        → cond b (Some (GuardFailed place)) (first_refusal (guard_refusals (suc place) m rest)) ≡ Some e → (n : ℕ) × (n < length (guard ∷ rest)) × (e ≡ GuardFailed (place + n))
    by true later h =
        let same : GuardFailed place ≡ e = cc in
        let here : place ≡ place + 0 = omega arith in
        (0, omega arith, sym same ∙ ap GuardFailed here)
    by false later h =
        let found = later h in
        let next : suc place + found.0 ≡ place + suc found.0 = omega arith in
        (suc found.0, omega (arith, found.1), found.2 ∙ ap GuardFailed next)

later_place : (s : State) (call : Call) (e : Refusal) → first_refusal (later_refusals s call) ≡ Some e → (n : ℕ) × (n < length (guards_of call)) × (e ≡ GuardFailed (0 + n))
later_place s call e is = by call is
  where
    no : None ≡ Some e → ⊥
    no h = cc

    by : (c : Call) → first_refusal (later_refusals s c) ≡ Some e → (n : ℕ) × (n < length (guards_of c)) × (e ≡ GuardFailed (0 + n))
    by (CommitIf guards batch) h = guard_place 0 (present_map s.points) guards e h
    by (Commit batch) h = absurd (no h)
    by Sync h = absurd (no h)
    by (SyncTo number) h = absurd (no h)
    by (Get at key) h = absurd (no h)
    by (Scan at from to limit) h = absurd (no h)
    by Snapshot h = absurd (no h)
    by (Release number) h = absurd (no h)
    by Rotate h = absurd (no h)
    by LogRoom h = absurd (no h)

-- and the others are not of a guard
abbrev IsEarly : Option Refusal → Type 0
IsEarly (Some (GuardFailed place)) = ⊥
IsEarly other = Unit {0}

first_early : (tests : List (Bool × Refusal)) → AllByRecursion (λ test. IsEarly (Some test.1)) tests → IsEarly (first_refusal tests)
first_early [] each = tt
first_early (test ∷ rest) each = one test.0 (first_early rest each.1)
  where
    one : (b : Bool) → IsEarly (first_refusal rest) → IsEarly (cond b (Some test.1) (first_refusal rest))
    one true later = each.0
    one false later = later

refusal_early : (s : State) (call : Call) → IsEarly (refusal s call)
refusal_early s call = by (is_some s.stopped) call
  where
    by : (b : Bool) (c : Call) → IsEarly (cond b (Some Stopped) (first_refusal (refusals s c)))
    by true c = tt
    by false (Commit batch) = first_early (refusals s (Commit batch)) (tt, (tt, tt))
    by false (CommitIf guards batch) = first_early (refusals s (CommitIf guards batch)) (tt, (tt, (tt, tt)))
    by false Sync = tt
    by false (SyncTo number) = first_early (refusals s (SyncTo number)) (tt, tt)
    by false (Get at key) = first_early (refusals s (Get at key)) (tt, (tt, tt))
    by false (Scan at from to limit) = first_early (refusals s (Scan at from to limit)) (tt, (tt, (tt, tt)))
    by false Snapshot = first_early (refusals s Snapshot) (tt, (tt, tt))
    by false (Release number) = first_early (refusals s (Release number)) (tt, tt)
    by false Rotate = first_early (refusals s Rotate) (tt, (tt, (tt, tt)))
    by false LogRoom = tt

early : (s : State) (call : Call) (place : ℕ) → refusal s call ≡ Some (GuardFailed place) → ⊥
early s call place is = subst IsEarly is (refusal_early s call)

placed : (a b : ℕ) → GuardFailed a ≡ GuardFailed b → a ≡ b
placed a b e = cc

-- what the state decides: nothing refuses the call, or a refusal does at once, or a guard is false
module _ (s : State) (call : Call) where
  -- an answer is decided before anything is read
  answer_early : (reply : Reply) → IsAnswer reply → reply ≡ decided s call → reply ≡ reply_by s call (refusal s call)
  answer_early reply answers is =
      let none = answer_unrefused s call reply answers is in
      is ∙ ap (reply_by s call) (none_by (full_refusal s call) none) ∙ sym (ap (reply_by s call) (none_by (refusal s call) (full_none s call none)))

  some_of : (e : Refusal) (o : Option Refusal) → Refused e ≡ reply_by s call o → (o ≡ Some e) ⊎ (Refused e ≡ answer s call)
  some_of e (Some x) is = let same : x ≡ e = cc in inl (ap Some same)
  some_of e None is = inr is

  no_answer : (e : Refusal) (c : Call) → Refused e ≡ answer s c → ⊥
  no_answer e (Commit batch) h = cc
  no_answer e (CommitIf guards batch) h = cc
  no_answer e Sync h = cc
  no_answer e (SyncTo number) h = cc
  no_answer e (Get at key) h = cc
  no_answer e (Scan at from to limit) h = cc
  no_answer e Snapshot h = cc
  no_answer e (Release number) h = cc
  no_answer e Rotate h = cc
  no_answer e LogRoom h = cc

  refused_parts : (e : Refusal) → Refused e ≡ decided s call → (refusal s call ≡ Some e) ⊎ ((refusal s call ≡ None) × ((n : ℕ) × (n < length (guards_of call)) × (e ≡ GuardFailed (0 + n))))
  refused_parts e is = ⊎_elim
      (λ found. ⊎_elim (λ first. inl first) (λ later. inr (later.0, later_place s call e later.1)) (first_parts (first_tests s call) (later_refusals s call) e found))
      (λ answered. absurd (no_answer e call answered))
      (some_of e (full_refusal s call) is)

  refused_early : (e : Refusal) → (IsLate e → ⊥) → Refused e ≡ decided s call → Refused e ≡ reply_by s call (refusal s call)
  refused_early e other is = ⊎_elim (λ first. sym (ap (reply_by s call) first)) (λ later. absurd (other (subst IsLate (sym later.1.2) tt))) (refused_parts e is)

  guard_found : (place : ℕ) → Refused (GuardFailed place) ≡ decided s call → IsNone (refusal s call) × (place < length (guards_of call))
  guard_found place is = ⊎_elim
      (λ first. absurd (early s call place first))
      (λ later. let same : place ≡ 0 + later.1.0 = placed place (0 + later.1.0) later.1.2 in (ap is_some later.0, omega (arith, same, later.1.1)))
      (refused_parts (GuardFailed place) is)

-- what a state allows, memory admits
pub admits : (s : State) (call : Call) (reply : Reply) → Allows s call reply → Admits s call reply
admits s call (Refused NoMemory) allows = (allows.0, wanting s call allows.1)
admits s call (Refused Io) allows = (full_none s call allows.0, allows.1)
admits s call (Refused BadTable) allows = absurd (no_bad_table s call allows)
admits s call (Refused (GuardFailed place)) allows = guard_found s call place allows
admits s call (Refused e) allows = refused_early s call e (λ late. late) allows
admits s call (Number n) allows = answer_early s call (Number n) tt allows
admits s call Done allows = answer_early s call Done tt allows
admits s call (Value value) allows = value_asked s call value allows
admits s call (Rows page) allows = page_asked s call page allows
admits s call (Given job) allows = answer_early s call (Given job) tt allows
admits s call (Handed input) allows = answer_early s call (Handed input) tt allows
admits s call Unread allows = let reads = unread_reads s call allows in ((reads.0, reads.1), reads.2)

-- ---- a stopped store

pub stopped_refusal : (s : State) (call : Call) (others : List CrashState) → s.stopped ≡ Some others → refusal s call ≡ Some Stopped
stopped_refusal s call others is = ap (λ (o : Option (List CrashState)). first_refusal ((is_some o, Stopped) ∷ refusals s call)) is

pub full_stopped : (s : State) (call : Call) (others : List CrashState) → s.stopped ≡ Some others → full_refusal s call ≡ Some Stopped
full_stopped s call others is = full_found s call Stopped (stopped_refusal s call others is)

pub no_none : IsNone (Some Stopped) → ⊥
no_none h = cc

-- a reply that memory admits where the state refuses
stopped_reply : (s : State) (call : Call) (reply : Reply) → refusal s call ≡ Some Stopped → Admits s call reply → reply ≡ Refused Stopped
stopped_reply s call (Refused NoMemory) is admits = absurd (no_none (subst IsNone is admits.0))
stopped_reply s call (Refused Io) is admits = absurd (no_none (subst IsNone is admits.0))
stopped_reply s call (Refused BadTable) is admits = absurd (no_none (subst IsNone is admits.0))
stopped_reply s call (Refused (GuardFailed place)) is admits = absurd (no_none (subst IsNone is admits.0))
stopped_reply s call (Refused e) is admits = admits ∙ ap (reply_by s call) is
stopped_reply s call (Number n) is admits = admits ∙ ap (reply_by s call) is
stopped_reply s call Done is admits = admits ∙ ap (reply_by s call) is
stopped_reply s call (Value v) is admits = absurd (no_none (subst IsNone is admits.0))
stopped_reply s call (Rows page) is admits = absurd (no_none (subst IsNone is admits.0))
stopped_reply s call (Given job) is admits = admits ∙ ap (reply_by s call) is
stopped_reply s call (Handed input) is admits = admits ∙ ap (reply_by s call) is
stopped_reply s call Unread is admits = absurd (no_none (subst IsNone is admits.0.0))

pub stopped_admits : (s : State) (call : Call) (reply : Reply) (others : List CrashState) → s.stopped ≡ Some others → Admits s call reply → reply ≡ Refused Stopped
stopped_admits s call reply others is admits = stopped_reply s call reply (stopped_refusal s call others is) admits

pub stopped_answers : (s : State) (call : Call) (reply : Reply) (others : List CrashState) → s.stopped ≡ Some others → Allows s call reply → reply ≡ Refused Stopped
stopped_answers s call reply others is allows = stopped_admits s call reply others is (admits s call reply allows)
