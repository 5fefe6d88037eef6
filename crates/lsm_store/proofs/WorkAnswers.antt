-- What each piece of work does, by what the slots answer.
use Rattle.std.proofs.Common.{◌≡◌, ◌⊎◌, ⊎_elim, ℕ, ◌<◌, ◌^◌, ◌&&◌, ltb, Bool, true, false, cond, List, Option, Some, None, is_some, is_none, refl, sym, ◌∙◌, ap, subst, arith}
use Rattle.std.specs.Prelude.{◌↔◌, option_map, IsNone, Result, Ok, Err, IfOk, IfErr, OnOk, OnErr}
use Rattle.std.specs.Arc.{arc_value}
use Rattle.std.specs.declared.sync.Arc.{Arc}
use Rattle.std.proofs.lemmas.Bool.{false≢true, lt-ltb, ltb-true}
use Rattle.lsm_cache.specs.Recency.{Cached}
use Rattle.lsm_codec.specs.Versions.{Version}
use Rattle.lsm_device.specs.Medium.{Medium, disk}
use Rattle.lsm_device.specs.declared.refusal.Refusal.{Refusal}
use Rattle.lsm_device.specs.declared.refusal.Refusal.TheVariants.{NoMemory, NoSuchJob, Exhausted}
use Rattle.lsm_extent.specs.Area.{Area}
use Rattle.lsm_levels.specs.Pick.{Job, Flush}
use Rattle.lsm_levels.specs.declared.choosing.Choice.{Choice}
use Rattle.lsm_merge.specs.Inputs.{MergeInput}
use Rattle.lsm_jobs.specs.Placing.{all_given_back}
use Rattle.lsm_jobs.specs.Refusing.{HasInput, RefusesInput}
use Rattle.lsm_jobs.specs.Slots.{Slot, JobSlots, slot_of, held_jobs, with_held, outputs_of}
use Rattle.lsm_jobs.specs.Taking.{given_job, level_of, told_of, slot_for, with_taken}
use Rattle.lsm_jobs.specs.declared.taking.TakenJob.{TakenJob}
use Rattle.lsm_jobs.proofs.KeptJobs.{given_waits}
use Rattle.lsm_root.specs.CrashState.{last_number}
use Rattle.lsm_store.specs.declared.memory.Memory.{Memory}
use Rattle.lsm_machine.specs.Accounts.{outputs_in}
use Rattle.lsm_store.specs.Backing.{StoreView, HasNoneOf, placement_of, machine_of}
use Rattle.lsm_store.specs.InstalledJobs.{placed_by}
use Rattle.lsm_store.specs.StoredTables.{IsStoredWithJobs}
use Rattle.lsm_machine.proofs.Accounts.{first_none, taken_outputs}
use Rattle.lsm_store.proofs.PlacedJobs.{taken_placed, none_of_held}
use Rattle.lsm_store.proofs.PlacedOutputs.{gone_stored}
use Rattle.lsm_open.specs.Writing.{PlacedTable}
use Rattle.lsm_levels.specs.Tables.{Table}
use Rattle.lsm_machine.specs.Calls.{Done, Refused, Given, Handed, reply_of, taken_reply}
use Rattle.lsm_store.specs.Memory.{view_of, state_of, work_of}
use Rattle.lsm_machine.specs.State.{are_waiting}
use Rattle.lsm_machine.specs.Work.{Work, Take, Ask, Drop, cuts_of}
use Rattle.lsm_machine.specs.WorkEffects.{work_answer, work_after}
use Rattle.lsm_machine.specs.WorkRefusals.{job_given, held, running_refusal, work_refusal}
use Rattle.lsm_store.specs.Working.{Works}
use Rattle.lsm_machine.specs.Machine.{Machine}
use Rattle.lsm_machine.specs.WorkReplies.{work_reply_by, work_decided, next_worked}
use Rattle.lsm_machine.proofs.AnsweredWork.{ask_answers}
use Rattle.lsm_store.proofs.HeldTables.{same_taken}
use Rattle.lsm_store.proofs.WorkSounds.{take_sound, drop_sound}
use Rattle.lsm_store.proofs.Works.{IsAnsweredAlone, worked_on, running_refuses, works_still, works_refused, works_want, works_moved, sound_moved, none_used}

module _ {A : Type 0} (m : Memory A) (medium : Medium) (cache : Cached) (running : IsNone (state_of m).stopped) where
  abbrev v : StoreView
  v = view_of medium m cache

  abbrev w : Machine
  w = machine_of v

  unrefused : (piece : Work) → running_refusal w piece ≡ None → work_refusal w piece ≡ None
  unrefused piece none = running_refuses w piece running ∙ none

  decides : (piece : Work) → running_refusal w piece ≡ None → work_answer w piece ≡ work_decided w piece
  decides piece none = sym (ap (work_reply_by w piece) (unrefused piece none))

  refused_same : (piece : Work) (e : Refusal) (js : JobSlots) (area : Area) → running_refusal w piece ≡ Some e → js ≡ m.jobs → area ≡ m.extents → Works v piece (Refused e) (worked_on v js area medium)
  refused_same piece e js area is same kept =
      subst (λ (x : JobSlots). Works v piece (Refused e) (worked_on v x area medium)) (sym same)
      (subst (λ (x : Area). Works v piece (Refused e) (worked_on v m.jobs x medium)) (sym kept) (works_refused v piece e (running_refuses w piece running ∙ is)))

  -- ---- what a merge is given

  pub input_works : (job : ℕ) (r : Result (Arc MergeInput A) Refusal) → IfOk r (λ (input : Arc MergeInput A). HasInput (arc_value input) (slot_of job m.jobs.slots)) → IfErr r (RefusesInput (slot_of job m.jobs.slots))
      → Works v (Ask job) (reply_of (λ (input : Arc MergeInput A). Handed (arc_value input)) r) v
  input_works job (Ok x) is refused =
      let none = (ask_answers w job).unrefused (arc_value x) is in
      let reply : Handed (arc_value x) ≡ work_decided w (Ask job) = sym ((ask_answers w job).answer (arc_value x) is) ∙ decides (Ask job) none in
      works_still v (Ask job) (Handed (arc_value x)) (record { admitted = reply; next = refl; faultless = refl; unchanging = none_used (is_some (work_refusal w (Ask job))) (Handed (arc_value x)) }) refl (λ backed. reply)
  input_works job (Err e) is refused =
      ⊎_elim
      (λ decided. works_refused v (Ask job) e (running_refuses w (Ask job) running ∙ decided))
      (λ want. subst (λ (r : Refusal). Works v (Ask job) (Refused r) v) (sym want.0) (works_want v (Ask job) (ap is_some (unrefused (Ask job) want.1))))
      ((ask_answers w job).refused e refused)

  -- ---- a job is given up

  no_slot : (job : ℕ) (o : Option Slot) → (o ≡ None → ⊥) → cond (is_none o) (Some NoSuchJob) None ≡ None
  no_slot job None there = absurd (there refl)
  no_slot job (Some slot) there = refl

  not_err : {T : Type 0} (x : T) (e : Refusal) → Ok x ≡ Err e → ⊥
  not_err x e is = cc

  pub drop_works : (job : ℕ) (r : Result (Unit {0}) Refusal) (js : JobSlots) (area : Area) → (r ≡ Err NoSuchJob) ↔ (slot_of job m.jobs.slots ≡ None) → IfErr r (λ e. e ≡ NoSuchJob)
      → OnOk r (js ≡ record { next = m.jobs.next; slots = with_held job None m.jobs.slots }) → OnOk r (area ≡ all_given_back (outputs_of (slot_of job m.jobs.slots)) m.extents) → OnErr r ((js ≡ m.jobs) × (area ≡ m.extents))
      → Works v (Drop job) (reply_of (λ _. Done) r) (worked_on v js area medium)
  drop_works job (Ok x) js area absent refusals freed back same =
      let none : running_refusal w (Drop job) ≡ None = no_slot job (held w job) (λ is. not_err x NoSuchJob (absent.1 is)) in
      let reply : Done ≡ work_decided w (Drop job) = decides (Drop job) none in
      let is : record (work_of m) { jobs = js; area = area } ≡ work_after w (Drop job) = λ i. record (work_of m) { jobs = freed i; area = back i } in
      let answer : IsAnsweredAlone w (Drop job) Done = record { allowed = reply; admitted = reply; next = refl; faultless = refl; state = refl; alone = refl } in
      works_moved v (Drop job) js m.next_table area Done answer is is
      (λ tells runs. record {
        sound = sound_moved v (Drop job) js m.next_table area Done answer is (drop_sound w runs.sound job);
        stored = subst (λ (x : JobSlots). IsStoredWithJobs (placement_of v) (placed_by x.slots) v.state (disk medium)) (sym freed) (gone_stored (placement_of v) job m.jobs.slots v.state (disk medium) runs.stored);
        unasked = subst (λ (x : JobSlots). HasNoneOf m.next_table (outputs_in x.slots) cache) (sym freed) (none_of_held m.next_table m.next_table job None m.jobs.slots cache (omega arith) tt runs.unasked);
      })
  drop_works job (Err e) js area absent refusals freed back same =
      let is : held w job ≡ None = absent.0 (ap (λ (r : Refusal). Err r) refusals) in
      let none : running_refusal w (Drop job) ≡ Some NoSuchJob = ap (λ (o : Option Slot). cond (is_none o) (Some NoSuchJob) None) is in
      subst (λ (r : Refusal). Works v (Drop job) (Refused r) (worked_on v js area medium)) (sym refusals)
      (refused_same (Drop job) NoSuchJob js area none same.0 same.1)

  -- ---- a taking

  exhausted_by : (a b : Bool) → a ≡ true → b ≡ true → cond (a && b) (Some Exhausted) None ≡ Some Exhausted
  exhausted_by true true x y = refl
  exhausted_by true false x y = absurd (false≢true y)
  exhausted_by false b x y = absurd (false≢true x)

  left_by : (a b : Bool) → (a ≡ true → b ≡ true → ⊥) → cond (a && b) (Some Exhausted) None ≡ None
  left_by true true not_both = absurd (not_both refl refl)
  left_by true false not_both = refl
  left_by false b not_both = refl

  module _ (asked : Option Choice) where
    abbrev given : Option Job
    given = job_given w asked

    -- the number 2^63 was given out
    pub take_exhausted : is_some given ≡ true → 2 ^ 63 < m.jobs.next → running_refusal w (Take asked) ≡ Some Exhausted
    take_exhausted some past = exhausted_by (is_some given) (ltb last_number m.jobs.next) some (lt-ltb last_number m.jobs.next past)

    -- or it was not, or there is no job
    pub take_unrefused : ((is_some given ≡ true) × (2 ^ 63 < m.jobs.next) → ⊥) → running_refusal w (Take asked) ≡ None
    take_unrefused none = left_by (is_some given) (ltb last_number m.jobs.next) (λ some past. none (some, ltb-true last_number m.jobs.next past))

    none_of_job : (o : Option Job) → is_some o ≡ false → o ≡ None
    none_of_job None is = refl
    none_of_job (Some job) is = absurd (false≢true (sym is))

    -- there is none
    pub take_none : is_some given ≡ false → Works v (Take asked) (Given None) v
    take_none none =
        let is : given ≡ None = none_of_job given none in
        let free = take_unrefused (λ both. false≢true (sym none ∙ both.0)) in
        let answer : work_answer w (Take asked) ≡ Given None = ap (λ (o : Option Job). Given (option_map (λ (job : Job). (m.jobs.next, level_of job)) o)) is in
        let reply : Given None ≡ work_decided w (Take asked) = sym answer ∙ decides (Take asked) free in
        let same : next_worked w (Take asked) (Given None) ≡ w = ap (λ (o : Option Job). record { state = state_of m; work = record (work_of m) { jobs = with_taken (work_of m).sealed (cuts_of (state_of m)) m.levels o m.jobs } }) is in
        works_still v (Take asked) (Given None) (record { admitted = reply; next = same; faultless = refl; unchanging = none_used (is_some (work_refusal w (Take asked))) (Given None) })
        (ap (λ (x : Machine). x.work) (sym same)) (λ backed. reply)

    -- memory was refused where there is one
    pub take_want : is_some given ≡ true → running_refusal w (Take asked) ≡ None → Works v (Take asked) (Refused NoMemory) v
    take_want some none = works_want v (Take asked) (ap is_some (unrefused (Take asked) none), some)

    told_reply : (o : Option Job) → taken_reply (option_map (told_of m.jobs.next) o) ≡ Given (option_map (λ (job : Job). (m.jobs.next, level_of job)) o)
    told_reply None = refl
    told_reply (Some job) = refl

    pub take_works : is_some given ≡ true → running_refusal w (Take asked) ≡ None → (sealed : List Version) (cuts : List ℕ) → cuts ≡ cuts_of (state_of m) → (given ≡ Some Flush → sealed ≡ (work_of m).sealed)
        → (r : Result (Option TakenJob) Refusal) (js : JobSlots) → IfOk r (λ (taken : Option TakenJob). taken ≡ option_map (told_of m.jobs.next) given) → OnOk r (js ≡ with_taken sealed cuts m.levels given m.jobs)
        → IfErr r (λ e. (e ≡ Exhausted) ⊎ (e ≡ NoMemory)) → (r ≡ Err Exhausted → ⊥) → OnErr r (js ≡ m.jobs)
        → Works v (Take asked) (reply_of taken_reply r) (worked_on v js m.extents medium)
    take_works some none sealed cuts counts flush (Ok taken) js told moved refusals past same =
        let reply : taken_reply taken ≡ work_decided w (Take asked) = ap taken_reply told ∙ told_reply given ∙ decides (Take asked) none in
        let is : record (work_of m) { jobs = js } ≡ work_after w (Take asked) =
        ap (λ (x : JobSlots). record (work_of m) { jobs = x }) (moved ∙ ap (λ (c : List ℕ). with_taken sealed c m.levels given m.jobs) counts ∙ same_taken sealed (work_of m).sealed (cuts_of (state_of m)) m.levels given m.jobs flush) in
        let answer : IsAnsweredAlone w (Take asked) (taken_reply taken) = record { allowed = reply; admitted = reply; next = refl; faultless = refl; state = refl; alone = refl } in
        works_moved v (Take asked) js m.next_table m.extents (taken_reply taken) answer is is
        (λ tells runs. record {
          sound = sound_moved v (Take asked) js m.next_table m.extents (taken_reply taken) answer is (take_sound w runs.sound asked);
          stored = subst (λ (x : JobSlots). IsStoredWithJobs (placement_of v) (placed_by x.slots) v.state (disk medium)) (sym moved) (stored_with given runs.stored);
          unasked = subst (λ (x : JobSlots). HasNoneOf m.next_table (outputs_in x.slots) cache) (sym moved) (unasked_with given runs.unasked);
        })
      where
        with_one : Option Job → JobSlots
        with_one o = with_taken sealed cuts m.levels o m.jobs

        stored_with : (o : Option Job) → IsStoredWithJobs (placement_of v) (placed_by m.jobs.slots) v.state (disk medium) → IsStoredWithJobs (placement_of v) (placed_by (with_one o).slots) v.state (disk medium)
        stored_with None stored = stored
        stored_with (Some job) stored =
            subst (λ (l : List PlacedTable). IsStoredWithJobs (placement_of v) l v.state (disk medium)) (sym (taken_placed (slot_for m.jobs.next sealed cuts m.levels job) m.jobs.slots (first_none job))) stored

        unasked_with : (o : Option Job) → HasNoneOf m.next_table (outputs_in m.jobs.slots) cache → HasNoneOf m.next_table (outputs_in (with_one o).slots) cache
        unasked_with None none = none
        unasked_with (Some job) none = subst (λ (l : List Table). HasNoneOf m.next_table l cache) (sym (taken_outputs (slot_for m.jobs.next sealed cuts m.levels job) m.jobs.slots (first_none job))) none
    take_works some none sealed cuts counts flush (Err e) js told moved refusals past same =
        ⊎_elim
        (λ is. absurd (past (ap (λ (r : Refusal). Err r) is)))
        (λ is. subst (λ (r : Refusal). Works v (Take asked) (Refused r) (worked_on v js m.extents medium)) (sym is)
        (subst (λ (x : JobSlots). Works v (Take asked) (Refused NoMemory) (worked_on v x m.extents medium)) (sym same) (take_want some none))) refusals

    -- as the slots tell it, which are told whether sealed versions wait
    abbrev Taken : Bool → Type 0
    Taken waiting = (sealed : List Version) (cuts : List ℕ) → cuts ≡ cuts_of (state_of m) → (waiting ≡ true → sealed ≡ (work_of m).sealed) → (r : Result (Option TakenJob) Refusal) (js : JobSlots)
        → IfOk r (λ (taken : Option TakenJob). taken ≡ option_map (told_of m.jobs.next) (given_job waiting asked m.levels m.jobs.slots))
        → OnOk r (js ≡ with_taken sealed cuts m.levels (given_job waiting asked m.levels m.jobs.slots) m.jobs)
        → (r ≡ Err Exhausted) ↔ ((is_some (given_job waiting asked m.levels m.jobs.slots) ≡ true) × (2 ^ 63 < m.jobs.next))
        → IfErr r (λ e. (e ≡ Exhausted) ⊎ (e ≡ NoMemory)) → OnErr r (js ≡ m.jobs) → Works v (Take asked) (reply_of taken_reply r) (worked_on v js m.extents medium)

    module _ (before : Bool) (first : before ≡ are_waiting (state_of m)) (some_before : is_some (given_job before asked m.levels m.jobs.slots) ≡ true) (left_before : (is_some (given_job before asked m.levels m.jobs.slots) ≡ true) × (2 ^ 63 < m.jobs.next) → ⊥) where
      some : is_some given ≡ true
      some = subst (λ (b : Bool). is_some (given_job b asked m.levels m.jobs.slots) ≡ true) first some_before

      left : (is_some given ≡ true) × (2 ^ 63 < m.jobs.next) → ⊥
      left = subst (λ (b : Bool). (is_some (given_job b asked m.levels m.jobs.slots) ≡ true) × (2 ^ 63 < m.jobs.next) → ⊥) first left_before

      taken_here : Taken (are_waiting (state_of m))
      taken_here sealed cuts counts same r js told moved past refusals stays =
          take_works some (take_unrefused left) sealed cuts counts
          (λ is. same (given_waits (are_waiting (state_of m)) m.levels asked m.jobs.slots Flush is refl))
          r js told moved refusals (λ e. left (past.0 e)) stays

      pub take_told : (waiting : Bool) → waiting ≡ are_waiting (state_of m) → Taken waiting
      take_told waiting is = subst Taken (sym is) taken_here

    -- where the number 2^63 was given out
    pub take_past : (waiting : Bool) → waiting ≡ are_waiting (state_of m) → (is_some (given_job waiting asked m.levels m.jobs.slots) ≡ true) × (2 ^ 63 < m.jobs.next) → Works v (Take asked) (Refused Exhausted) v
    take_past waiting is both =
        works_refused v (Take asked) Exhausted (running_refuses w (Take asked) running ∙ take_exhausted (subst (λ (b : Bool). is_some (given_job b asked m.levels m.jobs.slots) ≡ true) is both.0) both.1)

    pub take_free : (waiting : Bool) → waiting ≡ are_waiting (state_of m) → is_some (given_job waiting asked m.levels m.jobs.slots) ≡ false → Works v (Take asked) (Given None) v
    take_free waiting is none = take_none (subst (λ (b : Bool). is_some (given_job b asked m.levels m.jobs.slots) ≡ false) is none)

    pub take_short : (waiting : Bool) → waiting ≡ are_waiting (state_of m) → is_some (given_job waiting asked m.levels m.jobs.slots) ≡ true → ((is_some (given_job waiting asked m.levels m.jobs.slots) ≡ true) × (2 ^ 63 < m.jobs.next) → ⊥)
        → Works v (Take asked) (Refused NoMemory) v
    take_short waiting is some left =
        take_want (subst (λ (b : Bool). is_some (given_job b asked m.levels m.jobs.slots) ≡ true) is some)
        (take_unrefused (subst (λ (b : Bool). (is_some (given_job b asked m.levels m.jobs.slots) ≡ true) × (2 ^ 63 < m.jobs.next) → ⊥) is left))

-- ---- options

pub mapped_some : {X Y : Type 0} (f : X → Y) (o : Option X) → is_some o ≡ is_some (option_map f o)
mapped_some f None = refl
mapped_some f (Some x) = refl

pub ok_no_err : (b : Bool) (e : Refusal) → Ok b ≡ Err e → ⊥
ok_no_err b e is = cc
