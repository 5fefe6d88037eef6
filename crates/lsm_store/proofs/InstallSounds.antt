-- An install leaves the work standing for the state, and each job ready for its install; so does each piece of work.
use Rattle.std.proofs.Common.{◌≡◌, ◌≢◌, ◌⊎◌, inl, inr, ⊎_elim, ℕ, zero, suc, ◌<◌, ◌≤◌, Bool, true, false, not, cond, List, [], ◌∷◌, ◌++◌, map, Option, Some, None, is_none, refl, sym, ap, ◌∙◌, subst, arith}
use Rattle.std.specs.Prelude.{nat_le}
use Rattle.std.specs.List.{AllByRecursion}
use Rattle.std.proofs.lemmas.Bool.{false≢true}
use Rattle.lsm_codec.specs.Map.{Map}
use Rattle.lsm_codec.specs.Versions.{Version}
use Rattle.lsm_device.specs.declared.refusal.Refusal.TheVariants.{NoSuchJob, WrongState}
use Rattle.lsm_mem.specs.Versions.{map_of}
use Rattle.lsm_merge.specs.Inputs.{MergeInput}
use Rattle.lsm_mem.specs.Versions.{joined}
use Rattle.lsm_levels.specs.Among.{IsAmong}
use Rattle.lsm_levels.specs.Tables.{Table, versions_of}
use Rattle.lsm_levels.specs.Levels.{Levels, level, places}
use Rattle.lsm_levels.specs.Orders.{IsNewerPlace, IsVersionOrder}
use Rattle.lsm_levels.specs.Pick.{Job, Flush, Merge, is_flush, installed_levels}
use Rattle.lsm_levels.specs.Held.{HasVersion, IsHeld, AreRanged}
use Rattle.lsm_levels.proofs.Members.{among_left, among_right, among_either}
use Rattle.lsm_levels.proofs.Ranges.{of_all}
use Rattle.lsm_levels.proofs.Runs.{runs_law}
use Rattle.lsm_levels.proofs.Taking.{in_tables, newer_from, merging_law, order_law}
use Rattle.lsm_jobs.specs.Slots.{Stage, Slot, Reading, Frozen, Writing, with_held, is_writing, is_written, is_not_at, outputs_at}
use Rattle.lsm_jobs.specs.Keeping.{AreKept}
use Rattle.lsm_jobs.specs.Taking.{runs_of}
use Rattle.lsm_jobs.proofs.KeptJobs.{installing_law}
use Rattle.lsm_machine.specs.RecoveryPoints.{batch_count, all_synced}
use Rattle.lsm_machine.specs.State.{State}
use Rattle.lsm_machine.specs.StateMaps.{points_of, HaveMaps}
use Rattle.lsm_machine.specs.Work.{WorkView, Work, Take, Read, Ask, Accept, Write, Install, Drop, versions_in}
use Rattle.lsm_machine.specs.WorkRefusals.{held, of_slot, running_refusal}
use Rattle.lsm_machine.specs.WorkEffects.{with_installed, work_after, state_after}
use Rattle.lsm_machine.specs.Effects.{installed}
use Rattle.lsm_machine.specs.WorkMaps.{AreVersions, IsAsked, IsJobOf, MayBePutIn}
use Rattle.lsm_machine.specs.WorkSound.{IsSound, IsServed, SoundLaw}
use Rattle.lsm_machine.specs.Machine.{Machine}
use Rattle.lsm_store.proofs.InstalledMaps.{merge_versions, table_versions, has_in, in_has, front_newer, installed_replacing, install_law}
use Rattle.lsm_jobs.proofs.Outcomes.{kept_among}
use Rattle.lsm_machine.proofs.Unrefused.{none_taken}
use Rattle.lsm_machine.proofs.Remembering.{all_synced-points_of}
use Rattle.lsm_machine.proofs.Replaced.{IsReplacing}
use Rattle.lsm_machine.proofs.StateMaps.{count_is, synced_is, alone, points_alone}
use Rattle.lsm_store.proofs.WorkSounds.{Goes, job_goes, machine, there, numbered, found, freed, read_sound, write_sound, accept_sound, drop_sound, take_sound}

writes_written : (stage : Stage) → is_written stage ≡ true → is_writing stage ≡ true
writes_written (Reading left) h = h
writes_written Frozen h = h
writes_written (Writing tables left) h = refl

not_not : (b : Bool) → not b ≡ false → b ≡ true
not_not true h = refl
not_not false h = absurd (false≢true (sym h))

module _ (m : Machine) (sound : IsSound m) where
  abbrev good : AreVersions m.work
  good = sound.tied.versions

  abbrev d : HaveMaps (versions_in m.work) m.state
  d = sound.tied.maps

  -- what is in memory is newer than what is after it
  memory_newer : (v u : Version) → IsAmong v m.work.memory → IsAmong u m.work.sealed ⊎ HasVersion m.work.levels u → v.key ≡ u.key → u.number < v.number
  memory_newer v u a behind same = ⊎_elim
      (λ b. of_all (λ z. v.key ≡ z.key → z.number < v.number) m.work.sealed (of_all (λ y. AllByRecursion (λ z. y.key ≡ z.key → z.number < y.number) m.work.sealed) m.work.memory good.order.0.0 v a) u b same)
      (λ b. front_newer m.work good m.work.memory (places m.work.levels) v u good.order.0.1 a (in_has m.work.levels u b) same)
      behind

  sealed_newer : (v u : Version) → IsAmong v m.work.sealed → HasVersion m.work.levels u → v.key ≡ u.key → u.number < v.number
  sealed_newer v u a b same = front_newer m.work good m.work.sealed (places m.work.levels) v u good.order.1.0 a (in_has m.work.levels u b) same

  -- a front is newer than runs of tables where it is newer than each of their versions
  front_from : (front : List Version) (ps : List (List Table)) → ((v u : Version) → IsAmong v front → IsAmong u (table_versions ps) → v.key ≡ u.key → u.number < v.number) → AllByRecursion (IsNewerPlace front) (map versions_of ps)
  front_from front [] f = tt
  front_from front (p ∷ ps) f = (
    newer_from front (versions_of p) (λ v u a b same. f v u a (among_left u (versions_of p) (table_versions ps) b) same),
    front_from front ps (λ v u a b same. f v u a (among_right u (versions_of p) (table_versions ps) b) same),
  )

  none_newer : (ps : List (List Version)) → AllByRecursion (IsNewerPlace []) ps
  none_newer [] = tt
  none_newer (p ∷ ps) = (tt, none_newer ps)

  newer_none : (front : List Version) → IsNewerPlace front []
  newer_none [] = tt
  newer_none (v ∷ vs) = (tt, newer_none vs)

  module _ (input : MergeInput) (new : List Table) (from_input : (v : Version) → IsAmong v (versions_of new) → IsAmong v (joined input.runs)) (ranged : AreRanged new) where
    -- the levels after it, and what stands after memory
    abbrev levels_after : Job → Levels
    levels_after job = installed_levels m.work.levels job new

    abbrev places_after : Job → List (List Version)
    places_after job = m.work.memory ∷ (cond (is_flush job) [] m.work.sealed ∷ map versions_of (places (levels_after job)))

    sealed_input : input.runs ≡ runs_of m.work.sealed Flush → (v : Version) → IsAmong v (joined input.runs) → IsAmong v m.work.sealed
    sealed_input runs v a = ⊎_elim (λ b. b) (λ none. absurd none) (among_either v m.work.sealed [] (subst (λ (rs : List (List Version)). IsAmong v (joined rs)) runs a))

    tables_input : (i : ℕ) (upper lower : List Table) → input.runs ≡ runs_of m.work.sealed (Merge i upper lower) → (v : Version) → IsAmong v (versions_of new) → IsAmong v (versions_of (upper ++ lower))
    tables_input i upper lower runs v a = subst (IsAmong v) (merge_versions m.work.sealed input i upper lower runs) (from_input v a)

    order_after : (job : Job) → IsHeld m.work.levels input.bottom job → input.runs ≡ runs_of m.work.sealed job → IsVersionOrder (places_after job)
    order_after Flush held runs = (
      (
        newer_none m.work.memory,
        (
          newer_from m.work.memory (versions_of new) (λ v u a b same. memory_newer v u a (inl (sealed_input runs u (from_input u b))) same),
          good.order.0.1,
        ),
      ),
      (
        none_newer (versions_of new ∷ map versions_of (places m.work.levels)),
        (
          front_from (versions_of new) (places m.work.levels) (λ v u a b same. sealed_newer v u (sealed_input runs v (from_input v a)) (has_in m.work.levels u b) same),
          good.order.1.1,
        ),
      ),
    )
    order_after (Merge i upper lower) held runs =
        let law = merging_law m.work.levels input.bottom i upper lower new good.runs held in
        let kept = order_law m.work.levels input.bottom i upper lower new good.runs held (record { order = good.order.1.1; ranges = good.ranges }) (tables_input i upper lower runs) ranged in
        let old : (u : Version) → HasVersion (levels_after (Merge i upper lower)) u → HasVersion m.work.levels u =
        λ u b. ⊎_elim (λ c. c) (λ c. let t = in_tables u (upper ++ lower) (tables_input i upper lower runs u c) in let k = law.inputs_there t.0 t.1 in record { place = k.0; table = t.0; there = k.1; has = t.2 }) (law.nothing_else u b) in (
          (
            good.order.0.0,
            front_from m.work.memory (places (levels_after (Merge i upper lower))) (λ v u a b same. memory_newer v u a (inr (old u (has_in (levels_after (Merge i upper lower)) u b))) same),
          ),
          (
            front_from m.work.sealed (places (levels_after (Merge i upper lower))) (λ v u a b same. sealed_newer v u a (old u (has_in (levels_after (Merge i upper lower)) u b)) same),
            kept.order,
          ),
        )

    ranges_after : (job : Job) → IsHeld m.work.levels input.bottom job → input.runs ≡ runs_of m.work.sealed job → (k : ℕ) → AreRanged (level (levels_after job) k)
    ranges_after Flush held runs zero t a = ⊎_elim (λ b. ranged t b) (λ b. good.ranges 0 t b) (among_either t new (level m.work.levels 0) a)
    ranges_after Flush held runs (suc k) t a = good.ranges (suc k) t a
    ranges_after (Merge i upper lower) held runs k t a =
        (order_law m.work.levels input.bottom i upper lower new good.runs held (record { order = good.order.1.1; ranges = good.ranges }) (tables_input i upper lower runs) ranged).ranges k t a

  module _ (job : ℕ) (slot : Slot) (is : held m job ≡ Some slot) (writes : is_writing slot.stage ≡ true) where
    abbrev new : List Table
    new = outputs_at slot.stage

    abbrev work_then : WorkView
    work_then = with_installed m.work job slot

    abbrev state_then : State
    state_then = installed (is_flush slot.job) m.state

    outputs : MayBePutIn slot.job slot.input new
    outputs = sound.ready.outputs slot (there m sound job slot is) writes

    held_one : IsHeld m.work.levels slot.input.bottom slot.job
    held_one = sound.ready.kept.held slot (there m sound job slot is)

    job_one : IsJobOf m.state m.work.sealed slot.job slot.input
    job_one = sound.ready.jobs slot (there m sound job slot is)

    replacing : IsReplacing slot.input (versions_in m.work) (versions_in work_then)
    replacing = installed_replacing m job slot good held_one job_one outputs

    keeps : (n : ℕ) → IsAsked m.state n → map_of (versions_in work_then) n ≡ map_of (versions_in m.work) n
    keeps n asked = (install_law m job slot good held_one job_one outputs n asked).maps

    one_flush : (s : Slot) → IsAmong (Some s) (with_held job None m.work.jobs.slots) → is_flush s.job ≡ true → is_flush slot.job ≡ false
    one_flush s a h = by (is_flush slot.job) refl
      where
        other : s.number ≢ slot.number
        other e = (freed m sound job s a).1 (e ∙ numbered m sound job slot is)

        by : (b : Bool) → is_flush slot.job ≡ b → b ≡ false
        by false e = refl
        by true e = absurd ((sound.ready.kept.apart s slot (freed m sound job s a).0 (there m sound job slot is) other).one_flush h e)

    runs_kept : (s : Slot) → IsAmong (Some s) (with_held job None m.work.jobs.slots) → runs_of m.work.sealed s.job ≡ runs_of work_then.sealed s.job
    runs_kept s a = go s.job (one_flush s a)
      where
        go : (j : Job) → (is_flush j ≡ true → is_flush slot.job ≡ false) → runs_of m.work.sealed j ≡ runs_of (cond (is_flush slot.job) [] m.work.sealed) j
        go Flush f = sym (ap (λ b. cond b [] m.work.sealed ∷ []) (f refl))
        go (Merge i upper lower) f = refl

    synced_points : all_synced m.state.points ≡ points_of (versions_in m.work) d.count d.count
    synced_points = ap all_synced d.points ∙ all_synced-points_of (versions_in m.work) d.count d.synced d.within

    goes : Goes m.state state_then
    goes =
        let count = count_is (versions_in m.work) m.state d in
        let synced = synced_is (versions_in m.work) m.state d in
        let within = d.within in
        record { synced = omega (arith, count, synced, within); count = batch_count_synced; snapshots = λ snapshot a. inl a }
      where
        batch_count_synced : batch_count m.state.points ≤ batch_count (all_synced m.state.points)
        batch_count_synced = omega arith

    abbrev maps_then : HaveMaps (versions_in work_then) state_then
    maps_then = record {
      count = d.count;
      synced = d.count;
      within = omega arith;
      points = synced_points ∙ points_alone (versions_in m.work) d.count ∙ ap (λ (x : Map). alone d.count x) (sym present) ∙ sym (points_alone (versions_in work_then) d.count);
      snapshots = λ snapshot a. let x = d.snapshots snapshot a in (x.0, x.1 ∙ sym (keeps snapshot.point.count (inr (snapshot, a, refl))));
    }
      where
        present : map_of (versions_in work_then) d.count ≡ map_of (versions_in m.work) d.count
        present =
            let count = count_is (versions_in m.work) m.state d in
            let synced = synced_is (versions_in m.work) m.state d in
            let within = d.within in
            keeps d.count (inl (omega (arith, within, synced), omega (arith, count)))

    install_one : IsSound (machine state_then work_then)
    install_one =
        let now : (v : Version) → IsAmong v (versions_in work_then) → v.number ≤ d.count = λ v a. sound.tied.numbered v (replacing.nothing_else v a) in
        let from_input : (v : Version) → IsAmong v (versions_of new) → IsAmong v (joined slot.input.runs) = λ v a. kept_among slot.input v (subst (IsAmong v) outputs.versions a) in
        let tables = table_versions (places work_then.levels) in
        record {
          tied = record {
            versions = record {
              unique = λ v u a b k n. good.unique v u (replacing.nothing_else v a) (replacing.nothing_else u b) k n;
              order = order_after slot.input new from_input outputs.ranges slot.job held_one job_one.runs;
              runs = runs_law m.work.levels slot.input.bottom slot.job new good.runs held_one outputs.fit;
              ranges = ranges_after slot.input new from_input outputs.ranges slot.job held_one job_one.runs;
            };
            ordered = sound.tied.ordered;
            maps = maps_then;
            numbered = now;
            settled = λ v a. now v (among_right v m.work.memory (work_then.sealed ++ tables) (among_left v work_then.sealed tables a));
            tabled = λ v a. now v (among_right v m.work.memory (work_then.sealed ++ tables) (among_right v work_then.sealed tables (in_has work_then.levels v a)));
          };
          waiting = record {
            none_waits = λ h. none_waits (is_flush slot.job) h;
            flush_waits = λ s a h. still_waits (is_flush slot.job) (one_flush s a h) (sound.waiting.flush_waits s (freed m sound job s a).0 h);
            no_log = sound.waiting.no_log;
          };
          ready = record {
            kept = subst (λ (n : ℕ). AreKept (installed_levels m.work.levels slot.job new) m.work.jobs.next (with_held n None m.work.jobs.slots)) (numbered m sound job slot is)
                (installing_law m.work.levels m.work.jobs.next m.work.jobs.slots slot new good.runs sound.ready.kept (found m sound job slot is) outputs.fit);
            jobs = λ s a. job_goes m.state state_then m.work.sealed work_then.sealed s.job s.input goes (runs_kept s a) (sound.ready.jobs s (freed m sound job s a).0);
            outputs = λ s a. sound.ready.outputs s (freed m sound job s a).0;
          };
        }
      where
        none_waits : (b : Bool) → nat_le 1 (cond b 0 m.state.closed) ≡ false → cond b [] m.work.sealed ≡ []
        none_waits true h = refl
        none_waits false h = sound.waiting.none_waits h

        still_waits : (b : Bool) → b ≡ false → nat_le 1 m.state.closed ≡ true → nat_le 1 (cond b 0 m.state.closed) ≡ true
        still_waits b e h = ap (λ x. nat_le 1 (cond x 0 m.state.closed)) e ∙ h

  install_sound : (job : ℕ) → running_refusal m (Install job) ≡ None → IsSound (machine (state_after m (Install job)) (work_after m (Install job)))
  install_sound job none =
      let first = none_taken (is_none (held m job)) NoSuchJob _ none in
      let second = none_taken (is_not_at is_written (held m job)) WrongState _ first.1 in
      by (held m job) refl second.0
    where
      by : (o : Option Slot) → held m job ≡ o → is_not_at is_written o ≡ false
          → IsSound (machine (of_slot m.state (λ slot. installed (is_flush slot.job) m.state) o) (of_slot m.work (with_installed m.work job) o))
      by None is g = sound
      by (Some slot) is g = install_one job slot is (writes_written slot.stage (not_not (is_written slot.stage) g))

  work_sound : (work : Work) → running_refusal m work ≡ None → IsServed m work → IsSound (machine (state_after m work) (work_after m work))
  work_sound (Take asked) none served = take_sound m sound asked
  work_sound (Read job) none served = read_sound m sound job
  work_sound (Ask job) none served = sound
  work_sound (Accept job result) none served = accept_sound m sound job result served
  work_sound (Write job) none served = write_sound m sound job
  work_sound (Install job) none served = install_sound job none
  work_sound (Drop job) none served = drop_sound m sound job

pub sound_law : SoundLaw
sound_law m work sound none served = work_sound m sound work none served
