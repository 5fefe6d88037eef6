-- Slots, and what is kept of their jobs.
use Rattle.std.proofs.Common.{◌≡◌, ◌≢◌, ◌⊎◌, inl, inr, ⊎_elim, ℕ, suc, ◌+◌, ◌<◌, Bool, true, false, cond, eqb, List, [], ◌∷◌, Option, Some, None, refl, sym, ap, ◌∙◌, subst, arith}
use Rattle.std.proofs.lemmas.Bool.{eqb-true, eqb-false, ne_eqb, false≢true}
use Rattle.lsm_codec.specs.Versions.{Version}
use Rattle.lsm_levels.specs.Among.{IsAmong}
use Rattle.lsm_levels.specs.Levels.{Levels}
use Rattle.lsm_levels.specs.Pick.{Job, is_flush}
use Rattle.lsm_levels.specs.Held.{AreRuns, IsHeld, AreApart, MayTake}
use Rattle.lsm_levels.specs.declared.choosing.Choice.{Choice}
use Rattle.lsm_levels.proofs.Surviving.{survival_law}
use Rattle.lsm_levels.proofs.PickLaws.{pick_law, flush_waits}
use Rattle.lsm_levels.proofs.ChoiceLaws.{choice_law, chosen_merges}
use Rattle.lsm_jobs.specs.Slots.{Slot, Slots, slot_of, held_jobs, has_free, with_slot, with_held}
use Rattle.lsm_jobs.specs.Taking.{asked_job, given_job, slot_for}
use Rattle.lsm_jobs.specs.Keeping.{AreNumbered, AreKept, TakingLaw, InstallingLaw, GoingOnLaw, FreeingLaw}
use Rattle.lsm_jobs.proofs.Found.{found_there}

some_slot : (a b : Slot) → Some a ≡ Some b → a ≡ b
some_slot a b e = cc

some_none : (a : Slot) → Some a ≡ None → ⊥
some_none a e = cc

none_job : (job : Job) → None ≡ Some job → ⊥
none_job job e = cc

pub taken_cases : (new : Slot) (slots : Slots) (s : Slot) → IsAmong (Some s) (with_slot new slots) → (s ≡ new) ⊎ IsAmong (Some s) slots
taken_cases new [] s a = absurd a
taken_cases new (None ∷ rest) s (inl e) = inl (some_slot s new e)
taken_cases new (None ∷ rest) s (inr a) = inr (inr a)
taken_cases new (Some held ∷ rest) s (inl e) = inr (inl e)
taken_cases new (Some held ∷ rest) s (inr a) = ⊎_elim (λ e. inl e) (λ b. inr (inr b)) (taken_cases new rest s a)

-- what is there where one slot is so now, or free
abbrev Now : ℕ → Option Slot → Slots → Slot → Type 0
Now number now slots s = (now ≡ Some s) ⊎ (IsAmong (Some s) slots × (s.number ≢ number))

-- no job among these has a number
other_number : (number : ℕ) (slots : Slots) (s : Slot) → slot_of number slots ≡ None → IsAmong (Some s) slots → s.number ≢ number
other_number number [] s none a = absurd a
other_number number (None ∷ rest) s none (inl e) = absurd (some_none s e)
other_number number (None ∷ rest) s none (inr a) = other_number number rest s none a
other_number number (Some held ∷ rest) s none a = by (other_number number rest s) (eqb held.number number) refl none a
  where
    by : (slot_of number rest ≡ None → IsAmong (Some s) rest → s.number ≢ number) → (b : Bool) → eqb held.number number ≡ b → cond b (Some held) (slot_of number rest) ≡ None → IsAmong (Some s) (Some held ∷ rest) → s.number ≢ number
    by later true is here b = absurd (some_none held here)
    by later false is there (inl e) = λ same. eqb-false held.number number is (sym (ap (λ (x : Slot). x.number) (some_slot s held e)) ∙ same)
    by later false is there (inr b) = later there b

pub held_cases : (number : ℕ) (now : Option Slot) (slots : Slots) (s : Slot) → AreNumbered slots → IsAmong (Some s) (with_held number now slots) → Now number now slots s
held_cases number now [] s numbered a = absurd a
held_cases number now (None ∷ rest) s numbered (inl e) = absurd (some_none s e)
held_cases number now (None ∷ rest) s numbered (inr a) = ⊎_elim (λ e. inl e) (λ b. inr (inr b.0, b.1)) (held_cases number now rest s numbered a)
held_cases number now (Some held ∷ rest) s numbered a = by (held_cases number now rest s numbered.1) (eqb held.number number) refl a
  where
    by : (IsAmong (Some s) (with_held number now rest) → Now number now rest s) → (b : Bool) → eqb held.number number ≡ b → IsAmong (Some s) (cond b (now ∷ rest) (Some held ∷ with_held number now rest)) → Now number now (Some held ∷ rest) s
    by later true is (inl e) = inl (sym e)
    by later true is (inr b) =
        let none : slot_of number rest ≡ None = ap (λ (n : ℕ). slot_of n rest) (sym (eqb-true held.number number is)) ∙ numbered.0 in
        inr (inr b, other_number number rest s none b)
    by later false is (inl e) = inr (inl e, λ same. eqb-false held.number number is (sym (ap (λ (x : Slot). x.number) (some_slot s held e)) ∙ same))
    by later false is (inr b) = ⊎_elim (λ e. inl e) (λ c. inr (inr c.0, c.1)) (later b)

-- a number that no job has is none's afterwards, if the job that comes has another
none_with : (number other : ℕ) (now : Option Slot) (slots : Slots) → slot_of other slots ≡ None → ((s : Slot) → now ≡ Some s → s.number ≢ other) → slot_of other (with_held number now slots) ≡ None
none_with number other now [] none apart = refl
none_with number other now (None ∷ rest) none apart = none_with number other now rest none apart
none_with number other now (Some held ∷ rest) none apart = first (λ there. none_with number other now rest there apart) (eqb held.number other) refl none
  where
    behind : (n : Option Slot) → ((s : Slot) → n ≡ Some s → s.number ≢ other) → slot_of other rest ≡ None → slot_of other (n ∷ rest) ≡ None
    behind None free there = there
    behind (Some s) free there = ap (λ b. cond b (Some s) (slot_of other rest)) (ne_eqb s.number other (free s refl)) ∙ there

    by : (slot_of other rest ≡ None → slot_of other (with_held number now rest) ≡ None) → (b : Bool) → eqb held.number other ≡ false → slot_of other rest ≡ None
        → slot_of other (cond b (now ∷ rest) (Some held ∷ with_held number now rest)) ≡ None
    by later true is there = behind now apart there
    by later false is there = ap (λ b. cond b (Some held) (slot_of other (with_held number now rest))) is ∙ later there

    first : (slot_of other rest ≡ None → slot_of other (with_held number now rest) ≡ None) → (b : Bool) → eqb held.number other ≡ b → cond b (Some held) (slot_of other rest) ≡ None
        → slot_of other (with_held number now (Some held ∷ rest)) ≡ None
    first later true is here = absurd (some_none held here)
    first later false is there = by later (eqb held.number number) is there

-- numbers go on to differ, where a job keeps its number
numbered_with : (number : ℕ) (now : Option Slot) (slots : Slots) → AreNumbered slots → ((s : Slot) → now ≡ Some s → s.number ≡ number) → AreNumbered (with_held number now slots)
numbered_with number now [] numbered keeps = tt
numbered_with number now (None ∷ rest) numbered keeps = numbered_with number now rest numbered keeps
numbered_with number now (Some held ∷ rest) numbered keeps = by (numbered_with number now rest numbered.1 keeps) (eqb held.number number) refl
  where
    first : (n : Option Slot) → held.number ≡ number → ((s : Slot) → n ≡ Some s → s.number ≡ number) → AreNumbered (n ∷ rest)
    first None is keep = numbered.1
    first (Some s) is keep = (ap (λ (k : ℕ). slot_of k rest) (keep s refl ∙ sym is) ∙ numbered.0, numbered.1)

    by : AreNumbered (with_held number now rest) → (b : Bool) → eqb held.number number ≡ b → AreNumbered (cond b (now ∷ rest) (Some held ∷ with_held number now rest))
    by later true is = first now (eqb-true held.number number is) keeps
    by later false is = (none_with number held.number now rest numbered.0 (λ s e same. eqb-false held.number number is (sym same ∙ keeps s e)), later)

-- and where a job of a new number comes
none_new : (new : Slot) (other : ℕ) (slots : Slots) → slot_of other slots ≡ None → new.number ≢ other → slot_of other (with_slot new slots) ≡ None
none_new new other [] none apart = refl
none_new new other (None ∷ rest) none apart = ap (λ b. cond b (Some new) (slot_of other rest)) (ne_eqb new.number other apart) ∙ none
none_new new other (Some held ∷ rest) none apart = by (λ there. none_new new other rest there apart) (eqb held.number other) none
  where
    by : (slot_of other rest ≡ None → slot_of other (with_slot new rest) ≡ None) → (b : Bool) → cond b (Some held) (slot_of other rest) ≡ None → cond b (Some held) (slot_of other (with_slot new rest)) ≡ None
    by later true here = absurd (some_none held here)
    by later false there = later there

absent : (number : ℕ) (slots : Slots) → ((s : Slot) → IsAmong (Some s) slots → s.number < number) → slot_of number slots ≡ None
absent number [] below = refl
absent number (None ∷ rest) below = absent number rest (λ s a. below s (inr a))
absent number (Some held ∷ rest) below =
    let less = below held (inl refl) in
    ap (λ b. cond b (Some held) (slot_of number rest)) (ne_eqb held.number number (λ same. omega (arith, same, less))) ∙ absent number rest (λ s a. below s (inr a))

numbered_taken : (new : Slot) (slots : Slots) → AreNumbered slots → ((s : Slot) → IsAmong (Some s) slots → s.number < new.number) → AreNumbered (with_slot new slots)
numbered_taken new [] numbered below = tt
numbered_taken new (None ∷ rest) numbered below = (absent new.number rest (λ s a. below s (inr a)), numbered)
numbered_taken new (Some held ∷ rest) numbered below =
    let less = below held (inl refl) in
    (none_new new held.number rest numbered.0 (λ same. omega (arith, same, less)), numbered_taken new rest numbered.1 (λ s a. below s (inr a)))

pub job_held : (slots : Slots) (s : Slot) → IsAmong (Some s) slots → IsAmong s.job (held_jobs slots)
job_held [] s a = absurd a
job_held (None ∷ rest) s (inl e) = absurd (some_none s e)
job_held (None ∷ rest) s (inr a) = job_held rest s a
job_held (Some held ∷ rest) s (inl e) = inl (ap (λ (x : Slot). x.job) (some_slot s held e))
job_held (Some held ∷ rest) s (inr a) = inr (job_held rest s a)

pub apart_turned : (a b : Job) → AreApart a b → AreApart b a
apart_turned a b h = record { tables = λ t u x y e. h.tables u t y x (sym e); one_flush = λ x y. h.one_flush y x; alone = h.others_alone; others_alone = h.alone }

pub taking_law : TakingLaw
taking_law levels next slots new kept is number bottom =
    record {
      held = λ s a. ⊎_elim
          (λ e. subst (λ (x : Slot). IsHeld levels x.input.bottom x.job) (sym e) (subst (λ b. IsHeld levels b new.job) (sym bottom) is.held))
          (λ old. kept.held s old)
          (taken_cases new slots s a);
      apart = λ a b x y other. ⊎_elim
          (λ e. ⊎_elim
          (λ f. absurd (other (ap (λ (z : Slot). z.number) (e ∙ sym f))))
          (λ old. subst (λ (z : Slot). AreApart z.job b.job) (sym e) (is.apart b.job (job_held slots b old)))
          (taken_cases new slots b y))
          (λ old. ⊎_elim
          (λ f. subst (λ (z : Slot). AreApart a.job z.job) (sym f) (apart_turned new.job a.job (is.apart a.job (job_held slots a old))))
          (λ also. kept.apart a b old also other)
          (taken_cases new slots b y))
          (taken_cases new slots a x);
      given = λ s a. ⊎_elim
          (λ e. let same : s.number ≡ next = ap (λ (z : Slot). z.number) e ∙ number in omega (arith, same))
          (λ old. let below = kept.given s old in omega (arith, below))
          (taken_cases new slots s a);
      numbered = numbered_taken new slots kept.numbered (λ s a. let below = kept.given s a in omega (arith, below, number));
    }

module _ (waiting : Bool) (levels : Levels) where
  -- a job that is asked for may be taken, and is a flush only where sealed versions wait
  asked_law : (asked : Option Choice) (jobs : List Job) (job : Job) → AreRuns levels → asked_job waiting asked levels jobs ≡ Some job → MayTake levels jobs job
  asked_law None jobs job runs e = pick_law waiting levels jobs job runs e
  asked_law (Some choice) jobs job runs e = choice_law levels jobs choice job runs e

  pub asked_waits : (asked : Option Choice) (jobs : List Job) (job : Job) → asked_job waiting asked levels jobs ≡ Some job → is_flush job ≡ true → waiting ≡ true
  asked_waits None jobs job e flush = flush_waits waiting levels jobs job e flush
  asked_waits (Some choice) jobs job e flush = absurd (false≢true (sym (chosen_merges levels jobs choice job e) ∙ flush))

  module _ (asked : Option Choice) (slots : Slots) (job : Job) (given : given_job waiting asked levels slots ≡ Some job) where
    -- a job that is given is the one that is asked for
    given_asked : asked_job waiting asked levels (held_jobs slots) ≡ Some job
    given_asked = by (has_free slots) given
      where
        by : (b : Bool) → cond b (asked_job waiting asked levels (held_jobs slots)) None ≡ Some job → asked_job waiting asked levels (held_jobs slots) ≡ Some job
        by true f = f
        by false f = absurd (none_job job f)

    pub given_may : AreRuns levels → MayTake levels (held_jobs slots) job
    given_may runs = asked_law asked (held_jobs slots) job runs given_asked

    pub given_waits : is_flush job ≡ true → waiting ≡ true
    given_waits flush = asked_waits asked (held_jobs slots) job given_asked flush

-- a job that may be taken is kept
pub may_taken : (levels : Levels) (next : ℕ) (slots : Slots) (sealed : List Version) (cuts : List ℕ) (job : Job) → AreKept levels next slots → MayTake levels (held_jobs slots) job
    → AreKept levels (next + 1) (with_slot (slot_for next sealed cuts levels job) slots)
may_taken levels next slots sealed cuts job kept may =
    let more : suc next ≡ next + 1 = omega arith in
    subst (λ n. AreKept levels n (with_slot (slot_for next sealed cuts levels job) slots)) more
    (taking_law levels next slots (slot_for next sealed cuts levels job) kept may refl refl)

none_some : (s : Slot) → None ≡ Some s → ⊥
none_some s e = cc

-- what is there where one slot is free
freed : (number : ℕ) (slots : Slots) (s : Slot) → AreNumbered slots → IsAmong (Some s) (with_held number None slots) → IsAmong (Some s) slots × (s.number ≢ number)
freed number slots s numbered a = ⊎_elim (λ e. absurd (none_some s e)) (λ b. b) (held_cases number None slots s numbered a)

pub freeing_law : FreeingLaw
freeing_law levels next number slots kept = record {
  held = λ s a. kept.held s (freed number slots s kept.numbered a).0;
  apart = λ a b x y other. kept.apart a b (freed number slots a kept.numbered x).0 (freed number slots b kept.numbered y).0 other;
  given = λ s a. kept.given s (freed number slots s kept.numbered a).0;
  numbered = numbered_with number None slots kept.numbered (λ s e. absurd (none_some s e));
}

pub installing_law : InstallingLaw
installing_law levels next slots one new runs kept found outputs =
    let there : IsAmong (Some one) slots = found_there one.number slots one found in
    record {
      held = λ s a.
          let old = freed one.number slots s kept.numbered a in
          survival_law levels s.input.bottom one.input.bottom s.job one.job new runs (kept.held s old.0) (kept.held one there) (kept.apart s one old.0 there old.1) outputs;
      apart = λ a b x y other. kept.apart a b (freed one.number slots a kept.numbered x).0 (freed one.number slots b kept.numbered y).0 other;
      given = λ s a. kept.given s (freed one.number slots s kept.numbered a).0;
      numbered = (freeing_law levels next one.number slots kept).numbered;
    }

-- a slot with the job, the bottom flag and the number of one that is there
record IsLike (slots : Slots) (s : Slot) : Type 0 where
  pub other : Slot
  pub there : IsAmong (Some other) slots
  pub job : s.job ≡ other.job
  pub bottom : s.input.bottom ≡ other.input.bottom
  pub number : s.number ≡ other.number

module _ (one now : Slot) (number : now.number ≡ one.number) (job : now.job ≡ one.job) (bottom : now.input.bottom ≡ one.input.bottom) where
  went_on : (slots : Slots) → AreNumbered slots → IsAmong (Some one) slots → (s : Slot) → IsAmong (Some s) (with_held one.number (Some now) slots) → IsLike slots s
  went_on slots numbered there s a = ⊎_elim
      (λ e. let same : s ≡ now = sym (some_slot now s e) in
      record {
        other = one;
        there = there;
        job = ap (λ (x : Slot). x.job) same ∙ job;
        bottom = ap (λ (x : Slot). x.input.bottom) same ∙ bottom;
        number = ap (λ (x : Slot). x.number) same ∙ number;
      })
      (λ old. record { other = s; there = old.0; job = refl; bottom = refl; number = refl })
      (held_cases one.number (Some now) slots s numbered a)

pub going_on_law : GoingOnLaw
going_on_law levels next slots one now kept found number job bottom =
    let there : IsAmong (Some one) slots = found_there one.number slots one found in
    let like = went_on one now number job bottom slots kept.numbered there in
    record {
      held = λ s a.
          let l = like s a in
          subst (λ b. IsHeld levels b s.job) (sym l.bottom) (subst (λ (j : Job). IsHeld levels l.other.input.bottom j) (sym l.job) (kept.held l.other l.there));
      apart = λ a b x y different.
          let l = like a x in
          let m = like b y in
          subst (λ (j : Job). AreApart j b.job) (sym l.job) (subst (λ (j : Job). AreApart l.other.job j) (sym m.job)
          (kept.apart l.other m.other l.there m.there (λ e. different (l.number ∙ e ∙ sym m.number))));
      given = λ s a. let l = like s a in subst (λ n. n < next) (sym l.number) (kept.given l.other l.there);
      numbered = numbered_with one.number (Some now) slots kept.numbered (λ s e. sym (ap (λ (x : Slot). x.number) (some_slot now s e)) ∙ number);
    }
