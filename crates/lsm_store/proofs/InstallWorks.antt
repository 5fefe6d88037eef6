-- What an install does that nothing refuses: the device holds the next manifest, or the store is stopped by a fault.
use Rattle.std.proofs.Common.{◌≡◌, ℕ, ◌+◌, ◌≤◌, ◌^◌, true, false, cond, List, [], ◌∷◌, ◌++◌, length, Some, None, is_some, refl, sym, ◌∙◌, ap, subst, arith, IsTrue}
use Rattle.std.specs.Prelude.{Option, IsNone, ◌==◌}
use Rattle.std.specs.List.{AllByRecursion}
use Rattle.lsm_device.specs.Calls.{AtMost, faults_after}
use Rattle.lsm_device.specs.History.{EachSince}
use Rattle.lsm_device.specs.Medium.{Lasting, Medium, disk}
use Rattle.lsm_device.specs.Outcomes.{Leaves}
use Rattle.lsm_device.specs.declared.refusal.Refusal.{Refusal}
use Rattle.lsm_device.specs.declared.refusal.Refusal.TheVariants.{Io, BadTable}
use Rattle.lsm_device.proofs.Moments.{unchanged}
use Rattle.lsm_levels.specs.Held.{AreOutputs}
use Rattle.lsm_levels.specs.Levels.{all_tables, places}
use Rattle.lsm_levels.specs.NamedBlocks.{AreNumberedApart}
use Rattle.lsm_levels.specs.Pick.{is_flush, installed_levels}
use Rattle.lsm_levels.specs.Tables.{Table}
use Rattle.lsm_levels.proofs.Moving.{moving_law}
use Rattle.lsm_jobs.specs.Outputs.{AreMadeOf}
use Rattle.lsm_jobs.specs.Slots.{Slot, Writing, is_writing, outputs_at}
use Rattle.lsm_root.specs.CrashState.{CrashState}
use Rattle.lsm_open.specs.Placements.{Placement, contents_for}
use Rattle.lsm_open.specs.Recovering.{StandForOne}
use Rattle.lsm_root.specs.Installed.{IsReady, IsInstalled}
use Rattle.lsm_root.specs.Roots.{Stands}
use Rattle.lsm_machine.specs.Accounts.{outputs_in, tables_placed, AreNumbered}
use Rattle.lsm_store.specs.Backing.{StoreView, IsRunOn, IsBacked, placement_of, machine_of}
use Rattle.lsm_machine.specs.Calls.{Done, Refused, Reply}
use Rattle.lsm_machine.specs.Crash.{may_leave, last_crash_state}
use Rattle.lsm_machine.specs.Effects.{Use, installed}
use Rattle.lsm_machine.specs.Effects.{Untouched, Changes}
use Rattle.lsm_machine.specs.RecoveryPoints.{batch_count}
use Rattle.lsm_machine.specs.State.{State}
use Rattle.lsm_store.specs.StoredTables.{MayGoOn}
use Rattle.lsm_machine.specs.Work.{Install}
use Rattle.lsm_machine.specs.WorkEffects.{with_installed, work_after, state_after}
use Rattle.lsm_machine.specs.WorkRefusals.{held, of_slot, running_refusal, work_refusal}
use Rattle.lsm_store.specs.Working.{work_use_before, work_use_by, IsWorkUsed, Works}
use Rattle.lsm_machine.specs.Machine.{Machine}
use Rattle.lsm_machine.specs.WorkReplies.{IsUnfit, work_reply_by, work_left_besides, work_left_inside, next_worked}
use Rattle.lsm_machine.proofs.Accounts.{held_counted}
use Rattle.lsm_store.proofs.Backed.{run_backed}
use Rattle.lsm_store.proofs.Installations.{IsInstalling}
use Rattle.lsm_store.proofs.InstalledTables.{next_ready, install_moments, install_stopped}
use Rattle.lsm_store.proofs.Installs.{installed_on, same_sectors, installed_goes_on, runs_installed}
use Rattle.lsm_store.proofs.Serving.{untouched_no_change}
use Rattle.lsm_machine.proofs.TableNumbers.{numbered_append, numbered_apart}
use Rattle.lsm_store.proofs.WorkSounds.{there}
use Rattle.lsm_store.proofs.Works.{running_refuses, now_within}

-- after an install no two tables have one number, where none of the tables and outputs before have
pub apart_installed : (v : StoreView) (job : ℕ) (slot : Slot) → held (machine_of v) job ≡ Some slot → AreNumbered v.work.next_table (tables_placed v.work) → IsRunOn v
    → AreNumberedApart (all_tables (places (installed_levels v.work.levels slot.job (outputs_at slot.stage))))
apart_installed v job slot found numbered runs =
    let kept = runs.sound.ready.kept.held slot (there (machine_of v) runs.sound job slot found) in
    let moves = moving_law v.work.levels slot.input.bottom slot.job (outputs_at slot.stage) runs.sound.tied.versions.runs kept in
    numbered_apart (all_tables (places (installed_levels v.work.levels slot.job (outputs_at slot.stage))))
    (λ n. omega (arith, numbered.once n, numbered_append n (all_tables (places v.work.levels)) (outputs_in v.work.jobs.slots), moves.passed (λ (t : Table). t.number == n), held_counted (λ (t : Table). t.number == n) job None v.work.jobs.slots slot found))

-- ---- where nothing refuses it

module _ (v : StoreView) (job : ℕ) (none : running_refusal (machine_of v) (Install job) ≡ None) (running : IsNone v.state.stopped) where
  unrefused : work_refusal (machine_of v) (Install job) ≡ None
  unrefused = running_refuses (machine_of v) (Install job) running ∙ none

  -- the device is used as an install may use it
  used_so : (reply : Reply) → work_use_before Changes reply ≡ Changes → (new : Medium) → AtMost 0 42 2 v.device.calls new.calls → IsWorkUsed (Install job) (work_use_by (machine_of v) (Install job) reply) v.device new
  used_so reply changes new calls =
      let is : work_use_by (machine_of v) (Install job) reply ≡ Changes = ap (λ (o : Option Refusal). cond (is_some o) Untouched (work_use_before Changes reply)) unrefused ∙ changes in
      subst (λ (u : Use). IsWorkUsed (Install job) u v.device new) (sym is) calls

  -- outputs that may not be put in are of a device that doesn't back the state, where an install may tell so
  pub install_bad_table : (slot : Slot) → held (machine_of v) job ≡ Some slot → is_writing slot.stage ≡ true → (AreOutputs slot.job (outputs_at slot.stage) → ⊥) → Works v (Install job) (Refused BadTable) v
  install_bad_table slot found writes unfit = record {
    admitted = (ap is_some unrefused, subst IsUnfit (sym found) unfit);
    allowed = λ backed. let sound = (backed.runs running).sound in absurd (unfit (sound.ready.outputs slot (there (machine_of v) sound job slot found) writes).fit);
    state = refl;
    worked = refl;
    same_cache = refl;
    used = subst (λ (u : Use). IsWorkUsed (Install job) u v.device v.device) (sym untouched) refl;
    fault = refl;
    same_size = refl;
    same_lasting = refl;
    crash = λ backed. unchanged (Leaves (StandForOne v.state.log_sectors (work_left_inside (machine_of v) (Install job)))) v.device.history v.device.history refl (now_within v (Install job) backed);
    backed = λ backed. backed;
  }
    where
      untouched : work_use_by (machine_of v) (Install job) (Refused BadTable) ≡ Untouched
      untouched = ap (λ (o : Option Refusal). cond (is_some o) Untouched (work_use_before Changes (Refused BadTable))) unrefused

-- ---- an install of a job whose outputs are all written

module _ (v : StoreView) (job : ℕ) (slot : Slot) (outputs : List Table) (found : held (machine_of v) job ≡ Some slot) (stage : slot.stage ≡ Writing outputs 0) (made : AreMadeOf slot.input outputs)
    (none : running_refusal (machine_of v) (Install job) ≡ None) (running : IsNone v.state.stopped) (high : AllByRecursion (λ t. t.number ≤ 2 ^ 63) outputs) (numbered : AreNumbered v.work.next_table (tables_placed v.work)) where
  abbrev m : Machine
  m = machine_of v

  abbrev p : Placement
  p = placement_of v

  abbrev q : Placement
  q = placement_of (installed_on v job slot v.device)

  abbrev then : State
  then = installed (is_flush slot.job) v.state

  -- ---- the outputs are those in the slot

  own : outputs_at slot.stage ≡ outputs
  own = ap outputs_at stage

  stage_is : slot.stage ≡ Writing (outputs_at slot.stage) 0
  stage_is = stage ∙ ap (λ (ts : List Table). Writing ts 0) (sym own)

  made_is : AreMadeOf slot.input (outputs_at slot.stage)
  made_is = subst (AreMadeOf slot.input) (sym own) made

  high_is : AllByRecursion (λ t. t.number ≤ 2 ^ 63) (outputs_at slot.stage)
  high_is = subst (AllByRecursion (λ (t : Table). t.number ≤ 2 ^ 63)) (sym own) high

  -- ---- what the machine says

  state_then : state_after (machine_of v) (Install job) ≡ installed (is_flush slot.job) v.state
  state_then = ap (λ (o : Option Slot). of_slot v.state (λ (s : Slot). installed (is_flush s.job) v.state) o) found

  work_then : work_after (machine_of v) (Install job) ≡ with_installed v.work job slot
  work_then = ap (λ (o : Option Slot). of_slot v.work (with_installed v.work job) o) found

  left_is : work_left_inside (machine_of v) (Install job) ≡ may_leave v.state ++ last_crash_state (installed (is_flush slot.job) v.state) ∷ []
  left_is =
      ap (λ (o : Option Refusal). may_leave v.state ++ cond (is_some o) [] (work_left_besides m (Install job))) (unrefused v job none running)
      ∙ ap (λ (t : State). may_leave v.state ++ last_crash_state t ∷ []) state_then

  goes_on : IsRunOn v → MayGoOn (placement_of (installed_on v job slot v.device)) (installed (is_flush slot.job) v.state) (disk v.device)
  goes_on runs = installed_goes_on v job slot found stage_is made_is high_is runs

  same_log : (placement_of (installed_on v job slot v.device)).logs.log_sectors ≡ v.layout.log_sectors
  same_log = same_sectors v.layout (batch_count v.state.points) v.work.next_table slot.job

  module _ (new : StoreView) (sized : IsTrue v.device.lasting.tells → length (disk v.device).stands ≡ v.device.size)
      (wrote : IsInstalling v.layout.log_sectors (v.layout.generation + 1) (contents_for (placement_of (installed_on v job slot new.device))) v.device new.device) where
    ready : IsBacked v → IsReady v.device.size v.layout.log_sectors (v.layout.generation + 1) (disk v.device)
    ready backed = subst (λ (n : ℕ). IsReady n v.layout.log_sectors (v.layout.generation + 1) (disk v.device)) (sized backed.tells) (next_ready p v.state (disk v.device) (backed.runs running).stored.stored)

    -- at every moment a crash leaves what it may
    inside : IsBacked v → EachSince (Leaves (StandForOne v.state.log_sectors (work_left_inside (machine_of v) (Install job)))) v.device.history new.device.history
    inside backed =
        let runs = backed.runs running in
        subst (λ (all : List CrashState). EachSince (Leaves (StandForOne v.state.log_sectors all)) v.device.history new.device.history) (sym left_is)
        (install_moments p q v.state then v.device.history new.device.history runs.stored.stored same_log (goes_on runs) (wrote.moments backed.tells (ready backed)))

    tells_then : IsBacked v → IsTrue new.device.lasting.tells
    tells_then backed = subst (λ (l : Lasting). IsTrue l.tells) (sym wrote.same_lasting) backed.tells

    pub install_done : (IsTrue v.device.lasting.tells → IsReady v.device.size v.layout.log_sectors (v.layout.generation + 1) (disk v.device)
        → IsInstalled (disk v.device) (Stands v.layout.log_sectors (contents_for (placement_of (installed_on v job slot new.device)))) (disk new.device))
        → new.device.calls.faults ≡ v.device.calls.faults → new ≡ installed_on v job slot new.device → Works v (Install job) Done new
    install_done stands faults is =
        let reply = sym (ap (work_reply_by m (Install job)) (unrefused v job none running)) in
        record {
          admitted = reply;
          allowed = λ backed. reply;
          state = ap (λ (x : StoreView). x.state) is ∙ sym state_then;
          worked = ap (λ (x : StoreView). x.work) is ∙ sym work_then;
          same_cache = ap (λ (x : StoreView). x.cache) is;
          used = used_so v job none running Done refl new.device wrote.calls;
          fault = faults;
          same_size = wrote.same_size;
          same_lasting = wrote.same_lasting;
          crash = inside;
          backed = λ backed.
              let runs = backed.runs running in
              run_backed new (tells_then backed)
              (subst IsRunOn (sym is) (runs_installed v job slot found stage_is made_is high_is runs none (apart_installed v job slot found numbered runs) new.device (stands backed.tells (ready backed))));
        }

    -- a fault has stopped the store, and what it may leave then a crash leaves
    left_stopped : IsBacked v → Leaves (StandForOne v.state.log_sectors (may_leave (next_worked (machine_of v) (Install job) (Refused Io)).state)) (disk new.device)
    left_stopped backed =
        let runs = backed.runs running in
        subst (λ (t : State). Leaves (StandForOne v.state.log_sectors (may_leave (record v.state { stopped = Some (last_crash_state t ∷ []) }))) (disk new.device)) (sym state_then)
        (install_stopped p q v.state then v.device.history new.device.history runs.stored.stored same_log (goes_on runs) (wrote.moments backed.tells (ready backed)))

    pub install_io : new.state ≡ (next_worked (machine_of v) (Install job) (Refused Io)).state → new.work ≡ v.work → new.cache ≡ v.cache → new.device.calls.faults ≡ faults_after false v.device.calls.faults
        → Works v (Install job) (Refused Io) new
    install_io state work cache faults = record {
      admitted = (ap is_some (unrefused v job none running), λ e. untouched_no_change (sym e));
      allowed = λ backed. (ap is_some (unrefused v job none running), λ e. untouched_no_change (sym e));
      state = state;
      worked = work;
      same_cache = cache;
      used = used_so v job none running (Refused Io) refl new.device wrote.calls;
      fault = faults;
      same_size = wrote.same_size;
      same_lasting = wrote.same_lasting;
      crash = inside;
      backed = λ backed. record {
        tells = tells_then backed;
        crashes = subst (λ (t : State). Leaves (StandForOne t.log_sectors (may_leave t)) (disk new.device)) (sym state) (left_stopped backed);
        reads = λ runs. absurd (no runs);
        runs = λ runs. absurd (no runs);
      };
    }
      where
        no : IsNone new.state.stopped → ⊥
        no runs = let same : true ≡ false = sym (ap (λ (t : State). is_some t.stopped) state) ∙ runs in cc
