-- What deeds one after another make of a queue.
use Rattle.std.proofs.Common.{◌≡◌, ◌≢◌, ◌⊎◌, ◌≤◌, ℕ, zero, suc, true, false, List, [], ◌∷◌, ◌++◌, map, take, drop, Option, Some, None, inl, inr, ⊎_elim, append_assoc, append-nil, refl, ap, sym, subst, ◌∙◌, arith}
use Rattle.std.specs.Prelude.{Contains, slice_get, is_some, IsSome}
use Rattle.std.proofs.lemmas.List.{length-map, take-map, take-append-drop}
use Rattle.std.proofs.lemmas.List.Elements.{Contains-append_left, Contains-push, Contains-push_cases}
use Rattle.std.proofs.lemmas.Bool.{cases_lt}
use Rattle.std.specs.FinMap as finite
use Rattle.std.specs.FinMap.{get-empty}
use Rattle.lsm_codec.specs.Keys.{Bytes, byte_order}
use Rattle.lsm_codec.specs.Map.{Map, Operation, apply, apply_all}
use Rattle.lsm_root.specs.CrashState.{CrashState}
use Rattle.lsm_machine.specs.Lives.{IsAfter, IsPrefixFrom}
use Rattle.example_work_queue.specs.Tasks.{Status, NotGiven, Waiting, Claimed, Finished, IsQueue, last_key, number_of, status}
use Rattle.example_work_queue.specs.Deeds.{Deed, Adds, Claims, Finishes, AreDone, Does, GoesOn, IsAdded, IsClaimed, IsFinished, IsStatusBy, MayBeDone, Moves, Tells, TellsBeginning, batch_of, map_after, task_of}
use Rattle.example_work_queue.proofs.Doing.{does, reads, not_given}

-- ---- an empty map

none_in : (key : Bytes) → finite.get (finite.empty {X = Bytes} {R = byte_order}) key ≡ None
none_in key = get-empty byte_order key

not_some : (o : Option Bytes) → o ≡ None → IsSome o → ⊥
not_some o e some = both (sym (ap is_some e) ∙ some)
  where
    both : false ≡ true → ⊥
    both h = cc

pub empty_queue : IsQueue finite.empty
empty_queue = record {
  last = inl (ap is_some (none_in last_key));
  rows = λ key some. absurd (not_some _ (none_in key) some);
  apart = λ number. inl (ap is_some (none_in _));
}

pub none_given : (number : ℕ) → status finite.empty number ≡ NotGiven
none_given zero = refl
none_given (suc n) = reads finite.empty (suc n) _ _ _ (not_given finite.empty (suc n) (let e = ap number_of (none_in last_key) in omega (arith, e))) refl refl

-- ---- what may become of a task

pub goes_nowhere : (s : Status) → GoesOn s s
goes_nowhere NotGiven = tt
goes_nowhere (Waiting task) = inl refl
goes_nowhere (Claimed task) = inl refl
goes_nowhere Finished = refl

pub goes_further : (a b c : Status) → GoesOn a b → GoesOn b c → GoesOn a c
goes_further NotGiven b c first second = tt
goes_further (Waiting task) b c (inl e) second = subst (λ (s : Status). GoesOn s c) e second
goes_further (Waiting task) b c (inr (inl e)) second = inr (subst (λ (s : Status). GoesOn s c) e second)
goes_further (Waiting task) b c (inr (inr e)) second = inr (inr (subst (λ (s : Status). GoesOn s c) e second))
goes_further (Claimed task) b c (inl e) second = subst (λ (s : Status). GoesOn s c) e second
goes_further (Claimed task) b c (inr e) second = inr (subst (λ (s : Status). GoesOn s c) e second)
goes_further Finished b c e second = subst (λ (s : Status). GoesOn s c) e second

same_or_not : (a b : ℕ) → (a ≡ b) ⊎ (a ≢ b)
same_or_not a b = ⊎_elim (λ below. inr (λ e. omega arith)) (λ (least : b ≤ a). ⊎_elim (λ below. inr (λ e. omega arith)) (λ (most : a ≤ b). inl (omega arith)) (cases_lt b a)) (cases_lt a b)

moved_on : (deed : Deed) (old new : Status) → Moves deed old new → GoesOn old new
moved_on (Adds number task) old new (e, f) = subst (λ (s : Status). GoesOn s new) (sym e) tt
moved_on (Claims number task) old new (e, f) = subst (λ (s : Status). GoesOn s new) (sym e) (inr (inl f))
moved_on (Finishes number) old new ((task, e), f) = subst (λ (s : Status). GoesOn s new) (sym e) (inr f)

pub goes_by : (deed : Deed) (old new : Map) → Does deed old new → (number : ℕ) → GoesOn (status old number) (status new number)
goes_by deed old new d number = ⊎_elim
    (λ e. subst (λ (n : ℕ). GoesOn (status old n) (status new n)) (sym e) (moved_on deed (status old (task_of deed)) (status new (task_of deed)) d.moves))
    (λ apart. subst (λ (s : Status). GoesOn (status old number) s) (sym (d.others number apart)) (goes_nowhere (status old number)))
    (same_or_not number (task_of deed))

-- ---- deeds before, and one more

module _ (before : List Deed) (deed : Deed) where
  kept_in : (other : Deed) → Contains before other → Contains (before ++ deed ∷ []) other
  kept_in other found = Contains-append_left before (deed ∷ []) other found

  was_in : (other : Deed) → task_of other ≢ task_of deed → Contains (before ++ deed ∷ []) other → Contains before other
  was_in other apart found = ⊎_elim (λ h. h) (λ e. absurd (apart (ap task_of (sym e)))) (Contains-push_cases before deed other found)

  other_status : (number : ℕ) → number ≢ task_of deed → (s : Status) → IsStatusBy before number s → IsStatusBy (before ++ deed ∷ []) number s
  other_status number apart NotGiven none = λ other found e. none other (was_in other (λ same. apart (sym e ∙ same)) found) e
  other_status number apart (Waiting task) (added, unclaimed, unfinished) =
      (kept_in (Adds number task) added, λ c. unclaimed (c.0, was_in (Claims number c.0) apart c.1), λ f. unfinished (was_in (Finishes number) apart f))
  other_status number apart (Claimed task) (added, claimed, unfinished) =
      (kept_in (Adds number task) added, kept_in (Claims number task) claimed, λ f. unfinished (was_in (Finishes number) apart f))
  other_status number apart Finished (task, added, claimed, finished) =
      (task, kept_in (Adds number task) added, kept_in (Claims number task) claimed, kept_in (Finishes number) finished)

-- the status of the task itself
own_status : (before : List Deed) (deed : Deed) (old new : Status) → Moves deed old new → IsStatusBy before (task_of deed) old → IsStatusBy (before ++ deed ∷ []) (task_of deed) new
own_status before (Adds number task) old new (e, f) by =
    let none = subst (λ (s : Status). IsStatusBy before number s) e by in
    subst (λ (s : Status). IsStatusBy (before ++ Adds number task ∷ []) number s) (sym f) (
      Contains-push before (Adds number task),
      λ (c : IsClaimed (before ++ Adds number task ∷ []) number). ⊎_elim (λ h. none (Claims number c.0) h refl) (λ e. apart_claims c.0 e) (Contains-push_cases before (Adds number task) (Claims number c.0) c.1),
      λ (c : IsFinished (before ++ Adds number task ∷ []) number). ⊎_elim (λ h. none (Finishes number) h refl) (λ e. apart_finishes e) (Contains-push_cases before (Adds number task) (Finishes number) c),
    )
  where
    apart_claims : (other : Bytes) → Adds number task ≡ Claims number other → ⊥
    apart_claims other e = cc

    apart_finishes : Adds number task ≡ Finishes number → ⊥
    apart_finishes e = cc
own_status before (Claims number task) old new (e, f) by =
    let is = subst (λ (s : Status). IsStatusBy before number s) e by in
    subst (λ (s : Status). IsStatusBy (before ++ Claims number task ∷ []) number s) (sym f) (
      kept_in before (Claims number task) (Adds number task) is.0,
      Contains-push before (Claims number task),
      λ (c : IsFinished (before ++ Claims number task ∷ []) number). ⊎_elim (λ h. is.2 h) (λ e. apart_finishes e) (Contains-push_cases before (Claims number task) (Finishes number) c),
    )
  where
    apart_finishes : Claims number task ≡ Finishes number → ⊥
    apart_finishes e = cc
own_status before (Finishes number) old new ((task, e), f) by =
    let is = subst (λ (s : Status). IsStatusBy before number s) e by in
    subst (λ (s : Status). IsStatusBy (before ++ Finishes number ∷ []) number s) (sym f)
    (task, kept_in before (Finishes number) (Adds number task) is.0, kept_in before (Finishes number) (Claims number task) is.1, Contains-push before (Finishes number))

new_status : (number : ℕ) (task : Bytes) (deed : Deed) (old new : Status) → deed ≡ Adds number task → Moves deed old new → new ≡ Waiting task
new_status number task deed old new e moves = (subst (λ (d : Deed). Moves d old new) e moves).1

module _ (before : List Deed) (deed : Deed) (m new : Map) (told : Tells before m) (d : Does deed m new) where
  told_tasks : (number : ℕ) → IsStatusBy (before ++ deed ∷ []) number (status new number)
  told_tasks number = ⊎_elim
      (λ e. subst (λ (n : ℕ). IsStatusBy (before ++ deed ∷ []) n (status new n)) (sym e) (own_status before deed (status m (task_of deed)) (status new (task_of deed)) d.moves (told.tasks (task_of deed))))
      (λ apart. subst (λ (s : Status). IsStatusBy (before ++ deed ∷ []) number s) (sym (d.others number apart)) (other_status before deed number apart (status m number) (told.tasks number)))
      (same_or_not number (task_of deed))

  told_added : (number : ℕ) (task : Bytes) → IsAdded (before ++ deed ∷ []) number task → GoesOn (Waiting task) (status new number)
  told_added number task found = ⊎_elim
      (λ h. goes_further (Waiting task) (status m number) (status new number) (told.added number task h) (goes_by deed m new d number))
      (λ e. inl (ap (status new) (sym (ap task_of e)) ∙ new_status number task deed (status m (task_of deed)) (status new (task_of deed)) e d.moves))
      (Contains-push_cases before deed (Adds number task) found)

  told_on : Tells (before ++ deed ∷ []) new
  told_on = record { queue = d.queue; tasks = told_tasks; added = told_added }

-- ---- deeds one after another

pub told_by : (before deeds : List Deed) (m : Map) → Tells before m → AreDone m deeds → Tells (before ++ deeds) (map_after m deeds)
told_by before [] m told done = subst (λ (l : List Deed). Tells l m) (sym (append-nil before)) told
told_by before (deed ∷ deeds) m told (may, done) =
    subst (λ (l : List Deed). Tells l (map_after m (deed ∷ deeds))) (append_assoc before (deed ∷ []) deeds)
    (told_by (before ++ deed ∷ []) deeds (apply m (batch_of deed)) (told_on before deed m (apply m (batch_of deed)) told (does m deed told.queue may)) done)

none_told : Tells [] finite.empty
none_told = record {
  queue = empty_queue;
  tasks = λ number. subst (λ (s : Status). IsStatusBy [] number s) (sym (none_given number)) (λ deed found. absurd (omega (arith, found.1)));
  added = λ number task found. absurd (omega (arith, found.1));
}

pub told : (deeds : List Deed) → AreDone finite.empty deeds → Tells deeds (map_after finite.empty deeds)
told deeds done = told_by [] deeds finite.empty none_told done

pub first_done : (m : Map) (deeds more : List Deed) → AreDone m (deeds ++ more) → AreDone m deeds
first_done m [] more done = tt
first_done m (deed ∷ deeds) more (may, done) = (may, first_done (apply m (batch_of deed)) deeds more done)

pub rest_done : (m : Map) (deeds more : List Deed) → AreDone m (deeds ++ more) → AreDone (map_after m deeds) more
rest_done m [] more done = done
rest_done m (deed ∷ deeds) more (may, done) = rest_done (apply m (batch_of deed)) deeds more done

pub both_done : (m : Map) (deeds more : List Deed) → AreDone m deeds → AreDone (map_after m deeds) more → AreDone m (deeds ++ more)
both_done m [] more first second = second
both_done m (deed ∷ deeds) more (may, first) second = (may, both_done (apply m (batch_of deed)) deeds more first second)

pub after_both : (m : Map) (deeds more : List Deed) → map_after m (deeds ++ more) ≡ map_after (map_after m deeds) more
after_both m [] more = refl
after_both m (deed ∷ deeds) more = after_both (apply m (batch_of deed)) deeds more

goes_on : (m : Map) (deeds : List Deed) → IsQueue m → AreDone m deeds → (number : ℕ) → GoesOn (status m number) (status (map_after m deeds) number)
goes_on m [] q done number = goes_nowhere (status m number)
goes_on m (deed ∷ deeds) q (may, done) number =
    let new = apply m (batch_of deed) in
    let d : Does deed m new = does m deed q may in
    goes_further (status m number) (status new number) (status (map_after new deeds) number) (goes_by deed m new d number) (goes_on new deeds d.queue done number)

pub onward : (deeds more : List Deed) → AreDone finite.empty (deeds ++ more) → (number : ℕ) → GoesOn (status (map_after finite.empty deeds) number) (status (map_after finite.empty (deeds ++ more)) number)
onward deeds more done number =
    let mid = map_after finite.empty deeds in
    subst (λ (m : Map). GoesOn (status mid number) (status m number)) (sym (after_both finite.empty deeds more))
    (goes_on mid more (told deeds (first_done finite.empty deeds more done)).queue (rest_done finite.empty deeds more done) number)

-- ---- claims

same_some : (a b : Deed) → Some a ≡ Some b → a ≡ b
same_some a b e = cc

-- a task that was claimed isn't claimed again
none_again : (m : Map) (deeds : List Deed) → IsQueue m → AreDone m deeds → (number : ℕ) (task other : Bytes) → GoesOn (Claimed task) (status m number) → (j : ℕ) → slice_get deeds j ≡ Some (Claims number other) → ⊥
none_again m [] q done number task other past j e = cc
none_again m (deed ∷ deeds) q (may, done) number task other past zero e =
    let waiting = subst (MayBeDone m) (same_some deed (Claims number other) e) may in
    ⊎_elim (λ h. claimed_waits (sym h ∙ waiting)) (λ h. finished_waits (sym h ∙ waiting)) past
  where
    claimed_waits : Claimed task ≡ Waiting other → ⊥
    claimed_waits h = cc

    finished_waits : Finished ≡ Waiting other → ⊥
    finished_waits h = cc
none_again m (deed ∷ deeds) q (may, done) number task other past (suc j) e =
    let new = apply m (batch_of deed) in
    let d : Does deed m new = does m deed q may in
    none_again new deeds d.queue done number task other (goes_further (Claimed task) (status m number) (status new number) past (goes_by deed m new d number)) j e

-- nor before
claimed_then : (m : Map) (deed : Deed) (deeds : List Deed) → IsQueue m → MayBeDone m deed → AreDone (apply m (batch_of deed)) deeds
    → (number : ℕ) (task other : Bytes) → deed ≡ Claims number task → (j : ℕ) → slice_get deeds j ≡ Some (Claims number other) → ⊥
claimed_then m deed deeds q may done number task other is j e =
    let new = apply m (batch_of deed) in
    let d : Does deed m new = does m deed q may in
    let moves = subst (λ (x : Deed). Moves x (status m (task_of x)) (status new (task_of x))) is d.moves in
    none_again new deeds d.queue done number task other (inl moves.1) j e

once_from : (m : Map) (deeds : List Deed) → IsQueue m → AreDone m deeds
    → (number : ℕ) (task other : Bytes) (i j : ℕ) → slice_get deeds i ≡ Some (Claims number task) → slice_get deeds j ≡ Some (Claims number other) → i ≡ j
once_from m [] q done number task other i j e f = absurd cc
once_from m (deed ∷ deeds) q (may, done) number task other zero zero e f = refl
once_from m (deed ∷ deeds) q (may, done) number task other zero (suc j) e f = absurd (claimed_then m deed deeds q may done number task other (same_some _ _ e) j f)
once_from m (deed ∷ deeds) q (may, done) number task other (suc i) zero e f = absurd (claimed_then m deed deeds q may done number other task (same_some _ _ f) i e)
once_from m (deed ∷ deeds) q (may, done) number task other (suc i) (suc j) e f =
    ap suc (once_from (apply m (batch_of deed)) deeds (does m deed q may).queue done number task other i j e f)

pub once : (deeds : List Deed) → AreDone finite.empty deeds
    → (number : ℕ) (task other : Bytes) (i j : ℕ) → slice_get deeds i ≡ Some (Claims number task) → slice_get deeds j ≡ Some (Claims number other) → i ≡ j
once deeds done = once_from finite.empty deeds empty_queue done

-- ---- crashes

pub beginning : (deeds : List Deed) (least : ℕ) (kept : List (List Operation)) (left : CrashState) → AreDone finite.empty deeds → IsPrefixFrom least (map batch_of deeds) kept → IsAfter kept left → TellsBeginning least deeds left.map
beginning deeds least kept left done p after =
    let first : List Deed = take p.holds deeds in
    let is : left.map ≡ map_after finite.empty first = after.same_map ∙ ap (apply_all finite.empty) (p.is ∙ take-map batch_of p.holds deeds) in
    let first_is_done : AreDone finite.empty first = first_done finite.empty first (drop p.holds deeds) (subst (AreDone finite.empty) (sym (take-append-drop p.holds deeds)) done) in
    record {
      holds = p.holds;
      at_least = p.at_least;
      among = subst (λ (n : ℕ). p.holds ≤ n) (length-map deeds batch_of) p.among;
      is = is;
      tells = subst (Tells first) (sym is) (told first first_is_done);
      done = first_is_done;
    }
