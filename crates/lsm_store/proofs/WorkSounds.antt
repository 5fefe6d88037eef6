-- Takings, and what is done with a job in its slot, leave the work standing for the state, and each job ready for its install.
use Rattle.std.proofs.Common.{◌≡◌, ◌≢◌, ◌⊎◌, inl, inr, ⊎_elim, ℕ, zero, suc, ◌+◌, ◌-◌, ◌≤◌, true, false, List, [], ◌++◌, length, Option, Some, None, refl, sym, ap, ◌∙◌, subst, arith}
use Rattle.std.proofs.lemmas.Bool.{false≢true}
use Rattle.lsm_codec.specs.Versions.{Version}
use Rattle.lsm_extent.specs.Area.{Area}
use Rattle.lsm_merge.specs.Inputs.{MergeInput}
use Rattle.lsm_mem.specs.Versions.{joined}
use Rattle.lsm_merge.specs.Results.{MergeResult}
use Rattle.lsm_levels.specs.Among.{IsAmong}
use Rattle.lsm_levels.specs.declared.choosing.Choice.{Choice}
use Rattle.lsm_levels.specs.Tables.{Table}
use Rattle.lsm_levels.specs.Pick.{Job, Flush, Merge, is_flush, is_bottom}
use Rattle.lsm_levels.specs.Held.{IsHeld}
use Rattle.lsm_levels.proofs.Members.{among_either}
use Rattle.lsm_levels.proofs.Taking.{in_tables, merging_law}
use Rattle.lsm_jobs.specs.Slots.{Stage, Slot, JobSlots, Reading, Frozen, Writing, slot_of, with_slot, with_held, is_writing, left_at, less_left, outputs_at}
use Rattle.lsm_jobs.specs.Keeping.{AreKept}
use Rattle.lsm_jobs.specs.Outputs.{placed_blocks}
use Rattle.lsm_jobs.specs.Placing.{all_handed_out}
use Rattle.lsm_jobs.specs.Reading.{stage_with}
use Rattle.lsm_jobs.specs.Taking.{runs_of, first_stage, slot_for, with_taken}
use Rattle.lsm_jobs.proofs.Found.{found_there, found_number}
use Rattle.lsm_jobs.proofs.GatheredRuns.{joined_runs}
use Rattle.lsm_jobs.proofs.KeptJobs.{taken_cases, held_cases, given_may, given_waits, may_taken, going_on_law, freeing_law}
use Rattle.lsm_machine.specs.RecoveryPoints.{batch_count}
use Rattle.lsm_machine.specs.State.{State, LiveSnapshot, are_waiting}
use Rattle.lsm_machine.specs.StateMaps.{HaveMaps}
use Rattle.lsm_machine.specs.Work.{WorkView, Take, Read, Accept, Write, Drop, versions_in, cuts_of}
use Rattle.lsm_machine.specs.WorkRefusals.{job_given, held, of_slot, placing}
use Rattle.lsm_machine.specs.WorkEffects.{staged, with_placed, work_after}
use Rattle.lsm_machine.specs.WorkMaps.{AreVersions, IsJobOf, MayBePutIn}
use Rattle.lsm_machine.specs.WorkSound.{IsSound, IsServed}
use Rattle.lsm_machine.specs.Machine.{Machine}
use Rattle.lsm_store.proofs.Cuts.{present_cut, snapshot_cut}
use Rattle.lsm_machine.proofs.StateMaps.{count_is, synced_is}

some_slot : (a b : Slot) → Some a ≡ Some b → a ≡ b
some_slot a b e = cc

no_slot : (a : Slot) → None ≡ Some a → ⊥
no_slot a e = cc

-- ---- jobs go on

-- a state after another: no less is synced, and its snapshots were live before or were taken since
pub record Goes (s t : State) : Type 0 where
  pub synced : s.points.synced ≤ t.points.synced
  pub count : batch_count s.points ≤ batch_count t.points
  pub snapshots : (snapshot : LiveSnapshot) → IsAmong snapshot t.snapshots → IsAmong snapshot s.snapshots ⊎ (batch_count s.points ≤ snapshot.point.count)

pub job_goes : (s t : State) (sealed others : List Version) (job : Job) (input : MergeInput) → Goes s t → runs_of sealed job ≡ runs_of others job → IsJobOf s sealed job input → IsJobOf t others job input
job_goes s t sealed others job input goes runs is = record {
  runs = is.runs ∙ runs;
  cut = is.cut;
  is_cut = is.is_cut;
  before = let x = is.before in let y = goes.count in omega (arith, x, y);
  inputs = λ v a. let x = is.inputs v a in let y = goes.synced in (x.0, omega (arith, x.1, y));
  asked = λ snapshot a. ⊎_elim (λ old. is.asked snapshot old) (λ since. let x = is.before in inr (omega (arith, x, since))) (goes.snapshots snapshot a);
}

-- ---- stages

stage_reads : (n : ℕ) → is_writing (stage_with n) ≡ false
stage_reads zero = refl
stage_reads (suc n) = refl

first_reads : (job : Job) → is_writing (first_stage job) ≡ false
first_reads Flush = refl
first_reads (Merge i upper lower) = refl

still_writes : (n : ℕ) (stage : Stage) → is_writing (less_left n stage) ≡ is_writing stage
still_writes n (Reading left) = refl
still_writes n Frozen = refl
still_writes n (Writing tables left) = refl

same_outputs : (n : ℕ) (stage : Stage) → outputs_at (less_left n stage) ≡ outputs_at stage
same_outputs n (Reading left) = refl
same_outputs n Frozen = refl
same_outputs n (Writing tables left) = refl

abbrev pub machine : State → WorkView → Machine
machine s w = record { state = s; work = w }

module _ (m : Machine) (sound : IsSound m) where
  abbrev good : AreVersions m.work
  good = sound.tied.versions

  abbrev d : HaveMaps (versions_in m.work) m.state
  d = sound.tied.maps

  -- only the jobs change, the next table and the area
  abbrev with_jobs : JobSlots → ℕ → Area → WorkView
  with_jobs jobs table area = record m.work { jobs = jobs; next_table = table; area = area }

  jobs_sound : (jobs : JobSlots) (table : ℕ) (area : Area) → AreKept m.work.levels jobs.next jobs.slots
      → ((s : Slot) → IsAmong (Some s) jobs.slots → is_flush s.job ≡ true → are_waiting m.state ≡ true)
      → ((s : Slot) → IsAmong (Some s) jobs.slots → IsJobOf m.state m.work.sealed s.job s.input)
      → ((s : Slot) → IsAmong (Some s) jobs.slots → is_writing s.stage ≡ true → MayBePutIn s.job s.input (outputs_at s.stage))
      → IsSound (machine m.state (with_jobs jobs table area))
  jobs_sound jobs table area kept flushes each outputs = record {
    tied = record {
      versions = record { unique = good.unique; order = good.order; runs = good.runs; ranges = good.ranges };
      ordered = sound.tied.ordered;
      maps = sound.tied.maps;
      numbered = sound.tied.numbered;
      settled = sound.tied.settled;
      tabled = sound.tied.tabled;
    };
    waiting = record { none_waits = sound.waiting.none_waits; flush_waits = flushes; no_log = sound.waiting.no_log };
    ready = record { kept = kept; jobs = each; outputs = outputs };
  }

  -- ---- another stage of a job

  module _ (job : ℕ) (slot : Slot) (is : held m job ≡ Some slot) where
    pub there : IsAmong (Some slot) m.work.jobs.slots
    there = found_there job m.work.jobs.slots slot is

    pub numbered : slot.number ≡ job
    numbered = found_number job m.work.jobs.slots slot is

    pub found : slot_of slot.number m.work.jobs.slots ≡ Some slot
    found = ap (λ (n : ℕ). slot_of n m.work.jobs.slots) numbered ∙ is

    stage_sound : (stage : Stage) (table : ℕ) (area : Area) → (is_writing stage ≡ true → MayBePutIn slot.job slot.input (outputs_at stage))
        → IsSound (machine m.state (with_jobs (record { next = m.work.jobs.next; slots = with_held job (Some (record slot { stage = stage })) m.work.jobs.slots }) table area))
    stage_sound stage table area outputs =
        jobs_sound (record { next = m.work.jobs.next; slots = with_held job (Some (record slot { stage = stage })) m.work.jobs.slots }) table area
        (subst (λ (n : ℕ). AreKept m.work.levels m.work.jobs.next (with_held n (Some (record slot { stage = stage })) m.work.jobs.slots)) numbered
        (going_on_law m.work.levels m.work.jobs.next m.work.jobs.slots slot (record slot { stage = stage }) sound.ready.kept found refl refl refl))
        (like (λ s. is_flush s.job ≡ true → are_waiting m.state ≡ true) (sound.waiting.flush_waits slot there) sound.waiting.flush_waits)
        (like (λ s. IsJobOf m.state m.work.sealed s.job s.input) (sound.ready.jobs slot there) sound.ready.jobs)
        (like (λ s. is_writing s.stage ≡ true → MayBePutIn s.job s.input (outputs_at s.stage)) outputs sound.ready.outputs)
      where
        like : (P : Slot → Type 0) → P (record slot { stage = stage }) → ((s : Slot) → IsAmong (Some s) m.work.jobs.slots → P s)
            → (s : Slot) → IsAmong (Some s) (with_held job (Some (record slot { stage = stage })) m.work.jobs.slots) → P s
        like P here others s a = ⊎_elim
            (λ e. subst P (some_slot (record slot { stage = stage }) s e) here)
            (λ old. others s old.0)
            (held_cases job (Some (record slot { stage = stage })) m.work.jobs.slots s sound.ready.kept.numbered a)

  pub read_sound : (job : ℕ) → IsSound (machine m.state (work_after m (Read job)))
  read_sound job = by (held m job) refl
    where
      by : (o : Option Slot) → held m job ≡ o → IsSound (machine m.state (of_slot m.work (λ slot. staged m.work job (stage_with (left_at slot.stage - 8)) slot) o))
      by None is = sound
      by (Some slot) is = stage_sound job slot is (stage_with (left_at slot.stage - 8)) m.work.next_table m.work.area (λ h. absurd (false≢true (sym (stage_reads (left_at slot.stage - 8)) ∙ h)))

  pub write_sound : (job : ℕ) → IsSound (machine m.state (work_after m (Write job)))
  write_sound job = by (held m job) refl
    where
      by : (o : Option Slot) → held m job ≡ o → IsSound (machine m.state (of_slot m.work (λ slot. staged m.work job (less_left 8 slot.stage) slot) o))
      by None is = sound
      by (Some slot) is = stage_sound job slot is (less_left 8 slot.stage) m.work.next_table m.work.area
          (λ h. subst (MayBePutIn slot.job slot.input) (sym (same_outputs 8 slot.stage)) (sound.ready.outputs slot (there job slot is) (sym (still_writes 8 slot.stage) ∙ h)))

  pub accept_sound : (job : ℕ) (result : Option MergeResult) → IsServed m (Accept job result) → IsSound (machine m.state (work_after m (Accept job result)))
  accept_sound job result served = by (held m job) refl
    where
      placed_sound : (slot : Slot) → held m job ≡ Some slot → (o : Option (List Table)) → placing m.work result ≡ o → IsSound (machine m.state (with_placed m.work job o slot))
      placed_sound slot is None e = sound
      placed_sound slot is (Some tables) e =
          stage_sound job slot is (Writing tables (length (placed_blocks tables))) (m.work.next_table + length tables) (all_handed_out tables m.work.area) (λ h. served slot tables is e)

      by : (o : Option Slot) → held m job ≡ o → IsSound (machine m.state (of_slot m.work (with_placed m.work job (placing m.work result)) o))
      by None is = sound
      by (Some slot) is = placed_sound slot is (placing m.work result) refl

  -- ---- a slot is free again

  pub freed : (number : ℕ) (s : Slot) → IsAmong (Some s) (with_held number None m.work.jobs.slots) → IsAmong (Some s) m.work.jobs.slots × (s.number ≢ number)
  freed number s a = ⊎_elim (λ e. absurd (no_slot s e)) (λ b. b) (held_cases number None m.work.jobs.slots s sound.ready.kept.numbered a)

  pub drop_sound : (job : ℕ) → IsSound (machine m.state (work_after m (Drop job)))
  drop_sound job =
      jobs_sound (record { next = m.work.jobs.next; slots = with_held job None m.work.jobs.slots }) m.work.next_table (work_after m (Drop job)).area
      (freeing_law m.work.levels m.work.jobs.next job m.work.jobs.slots sound.ready.kept)
      (λ s a. sound.waiting.flush_waits s (freed job s a).0)
      (λ s a. sound.ready.jobs s (freed job s a).0)
      (λ s a. sound.ready.outputs s (freed job s a).0)

  -- ---- a taking

  -- what a job that is taken now takes in stands in the levels, or is sealed
  input_settled : (job : Job) → IsHeld m.work.levels (is_bottom m.work.levels job) job → (v : Version) → IsAmong v (joined (runs_of m.work.sealed job)) → v.number ≤ d.synced
  input_settled Flush held v a = ⊎_elim (λ b. sound.tied.settled v b) (λ none. absurd none) (among_either v m.work.sealed [] a)
  input_settled (Merge i upper lower) held v a =
      let t = in_tables v (upper ++ lower) (subst (IsAmong v) (joined_runs (upper ++ lower)) a) in
      let k = (merging_law m.work.levels (is_bottom m.work.levels (Merge i upper lower)) i upper lower [] good.runs held).inputs_there t.0 t.1 in
      sound.tied.tabled v (record { place = k.0; table = t.0; there = k.1; has = t.2 })

  abbrev taken : Job → Slot
  taken job = slot_for m.work.jobs.next m.work.sealed (cuts_of m.state) m.work.levels job

  taken_job : (job : Job) → IsHeld m.work.levels (is_bottom m.work.levels job) job → IsJobOf m.state m.work.sealed job (taken job).input
  taken_job job held =
      let count = count_is (versions_in m.work) m.state d in
      let synced = synced_is (versions_in m.work) m.state d in
      let within = d.within in
      record {
        runs = refl;
        cut = batch_count m.state.points;
        is_cut = present_cut m.state;
        before = omega arith;
        inputs = λ v a. let x = input_settled job held v a in (omega (arith, x, within, count), omega (arith, x, synced));
        asked = λ snapshot a. inl (snapshot_cut m.state snapshot a);
      }

  take_one : (asked : Option Choice) (job : Job) → job_given m asked ≡ Some job → IsSound (machine m.state (record m.work { jobs = with_taken m.work.sealed (cuts_of m.state) m.work.levels (Some job) m.work.jobs }))
  take_one asked job e =
      let is = given_may (are_waiting m.state) m.work.levels asked m.work.jobs.slots job e good.runs in
      let slots = with_slot (taken job) m.work.jobs.slots in
      jobs_sound (record { next = m.work.jobs.next + 1; slots = slots }) m.work.next_table m.work.area
      (may_taken m.work.levels m.work.jobs.next m.work.jobs.slots m.work.sealed (cuts_of m.state) job sound.ready.kept is)
      (λ s a flush. ⊎_elim
      (λ f. given_waits (are_waiting m.state) m.work.levels asked m.work.jobs.slots job e (sym (ap (λ (x : Slot). is_flush x.job) f) ∙ flush))
      (λ old. sound.waiting.flush_waits s old flush)
      (taken_cases (taken job) m.work.jobs.slots s a))
      (λ s a. ⊎_elim
      (λ f. subst (λ (x : Slot). IsJobOf m.state m.work.sealed x.job x.input) (sym f) (taken_job job is.held))
      (λ old. sound.ready.jobs s old)
      (taken_cases (taken job) m.work.jobs.slots s a))
      (λ s a h. ⊎_elim
      (λ f. absurd (false≢true (sym (first_reads job) ∙ (sym (ap (λ (x : Slot). is_writing x.stage) f) ∙ h))))
      (λ old. sound.ready.outputs s old h)
      (taken_cases (taken job) m.work.jobs.slots s a))

  pub take_sound : (asked : Option Choice) → IsSound (machine m.state (work_after m (Take asked)))
  take_sound asked = by (job_given m asked) refl
    where
      by : (o : Option Job) → job_given m asked ≡ o → IsSound (machine m.state (record m.work { jobs = with_taken m.work.sealed (cuts_of m.state) m.work.levels o m.work.jobs }))
      by None e = sound
      by (Some job) e = take_one asked job e
