-- A store's memory tells which refusal decides of an install.
use Rattle.std.proofs.Common.{◌≡◌, ◌≢◌, inl, inr, ℕ, ◌+◌, ◌-◌, ◌≤◌, ◌^◌, ◌==◌, ◌&&◌, Bool, true, false, cond, not, List, [], ◌∷◌, ◌++◌, length, Option, Some, None, is_some, refl, sym, ◌∙◌, ap, subst, arith}
use Rattle.std.specs.Prelude.{nat_le, nat_lt}
use Rattle.std.proofs.lemmas.Bool.{false≢true}
use Rattle.std.proofs.lemmas.List.{length-append}
use Rattle.lsm_device.specs.declared.refusal.Refusal.{Refusal}
use Rattle.lsm_device.specs.declared.refusal.Refusal.TheVariants.{Stopped, TooManyRuns, TooManyTables, Exhausted}
use Rattle.lsm_jobs.proofs.Found.{found_there}
use Rattle.lsm_jobs.specs.Installing.{job_told, outputs_told, IsWhole}
use Rattle.lsm_jobs.specs.Outputs.{AreMadeOf}
use Rattle.lsm_jobs.specs.Refusing.{IsAtStage, IsNotWritten}
use Rattle.lsm_jobs.specs.Slots.{Slot, Slots, Writing, slot_of, is_written, outputs_at}
use Rattle.lsm_jobs.specs.declared.installing.Written.{Written}
use Rattle.lsm_levels.specs.Held.{AreRuns, AreOutputs}
use Rattle.lsm_levels.specs.Levels.{Levels, all_tables, places}
use Rattle.lsm_levels.specs.Pick.{Job, inputs, is_flush, installed_levels}
use Rattle.lsm_levels.specs.Tables.{Table}
use Rattle.lsm_store.specs.declared.memory.Memory.{Memory}
use Rattle.lsm_machine.specs.Accounts.{outputs_in}
use Rattle.lsm_store.specs.InstalledMemory.{IsNext}
use Rattle.lsm_store.specs.Memory.{AreConsistent, state_of, work_of}
use Rattle.lsm_machine.specs.Refusals.{first_refusal}
use Rattle.lsm_machine.specs.Work.{Install}
use Rattle.lsm_machine.specs.WorkRefusals.{live_tables, has_too_many_runs, has_too_many_tables, running_refusal, work_refusal}
use Rattle.lsm_machine.specs.Machine.{Machine}
use Rattle.lsm_machine.proofs.FewNumbers.{few_numbered}
use Rattle.lsm_machine.proofs.InstallRefusals.{not_written, many_runs, many_tables, at_last, none_refuses, is_whole}
use Rattle.lsm_machine.proofs.TableLimits.{install_counts}
use Rattle.lsm_store.proofs.Works.{runs_then, running_refuses}

same_slot : (a b : Slot) → Some a ≡ Some b → a ≡ b
same_slot a b e = cc

-- the outputs of a job are among those of all
held_length : (job : ℕ) (slots : Slots) (slot : Slot) → slot_of job slots ≡ Some slot → length (outputs_at slot.stage) ≤ length (outputs_in slots)
held_length job [] slot is = absurd cc
held_length job (None ∷ rest) slot is = held_length job rest slot is
held_length job (Some one ∷ rest) slot is = by (one.number == job) is (λ later. held_length job rest slot later)
  where
    by : (b : Bool) → cond b (Some one) (slot_of job rest) ≡ Some slot → (slot_of job rest ≡ Some slot → length (outputs_at slot.stage) ≤ length (outputs_in rest)) → length (outputs_at slot.stage) ≤ length (outputs_at one.stage ++ outputs_in rest)
    by true e more = omega (arith, length-append (outputs_at one.stage) (outputs_in rest), ap (λ (s : Slot). length (outputs_at s.stage)) (same_slot one slot e))
    by false e more = omega (arith, length-append (outputs_at one.stage) (outputs_in rest), more e)

-- a job that is written isn't refused as one that isn't
pub written_not : (o : Option Slot) (e : Refusal) → IsAtStage is_written o → IsNotWritten o e → ⊥
written_not None e at not = at
written_not (Some slot) e at (inl is) = some_slot slot is.1
  where
    some_slot : (s : Slot) → Some s ≡ None → ⊥
    some_slot s h = cc
written_not (Some slot) e at (inr is) = false≢true (sym (ap not at) ∙ is.1)

-- The slot of a job that is told with its outputs.
pub record IsTold {A : Type 0} (written : Written A) (o : Option Slot) : Type 0 where
  pub slot : Slot
  pub is : o ≡ Some slot
  pub job : slot.job ≡ job_told written
  pub outputs : outputs_at slot.stage ≡ outputs_told written
  pub stage : slot.stage ≡ Writing (outputs_at slot.stage) 0
  pub made : AreMadeOf slot.input (outputs_at slot.stage)

pub told_slot : {A : Type 0} (written : Written A) (o : Option Slot) → IsWhole written o → IsTold written o
told_slot written None whole = absurd whole
told_slot written (Some slot) whole =
    let outputs : outputs_at slot.stage ≡ outputs_told written = ap outputs_at whole.1 in
    record {
      slot = slot;
      is = refl;
      job = whole.0;
      outputs = outputs;
      stage = whole.1 ∙ ap (λ (ts : List Table). Writing ts 0) (sym outputs);
      made = subst (AreMadeOf slot.input) (sym outputs) whole.2;
    }

-- what an install leaves of the levels, as it is told
pub next_told : {A : Type 0} (m : Memory A) (job : ℕ) (written : Written A) (told : IsTold written (slot_of job m.jobs.slots)) (flush : Bool) (levels : Levels) → flush ≡ is_flush (job_told written)
    → levels ≡ installed_levels m.levels (job_told written) (outputs_told written) → AreOutputs (job_told written) (outputs_told written) → IsNext m job flush levels
next_told m job written told flush levels flushes next fit = record {
  slot = told.slot;
  is = told.is;
  stage = told.stage;
  made = told.made;
  fit = subst (λ (j : Job). AreOutputs j (outputs_at told.slot.stage)) (sym told.job) (subst (AreOutputs (job_told written)) (sym told.outputs) fit);
  flushes = flushes ∙ ap is_flush (sym told.job);
  next = next ∙ (λ i. installed_levels m.levels (sym told.job i) (sym told.outputs i));
}

module _ {A : Type 0} (m : Memory A) (kept : AreConsistent m) where
  abbrev w : Machine
  w = record { state = state_of m; work = work_of m }

  -- there are few tables
  all_few : length (all_tables (places m.levels)) + length (outputs_in m.jobs.slots) ≤ 2 ^ 63 + 1
  all_few =
      omega (
        arith,
        few_numbered m.next_table (all_tables (places m.levels) ++ outputs_in m.jobs.slots) kept.numbered,
        length-append (all_tables (places m.levels)) (outputs_in m.jobs.slots),
        kept.next.high,
      )

  pub live_few : length (all_tables (places m.levels)) ≤ 2 ^ 63 + 1
  live_few = omega (arith, all_few)

  module _ (job : ℕ) (runs : first_refusal ((is_some (state_of m).stopped, Stopped) ∷ []) ≡ None) where
    decides : work_refusal (record { state = state_of m; work = work_of m }) (Install job) ≡ running_refusal (record { state = state_of m; work = work_of m }) (Install job)
    decides = running_refuses w (Install job) (runs_then w runs)

    pub tells_not_written : (e : Refusal) → IsNotWritten (slot_of job m.jobs.slots) e → work_refusal (record { state = state_of m; work = work_of m }) (Install job) ≡ Some e
    tells_not_written e not = decides ∙ not_written w job e not

    module _ (written : Written A) (told : IsTold written (slot_of job m.jobs.slots)) where
      at : is_written told.slot.stage ≡ true
      at = is_whole told.slot.stage told.stage

      its : AreRuns m.levels → length (inputs told.slot.job) ≤ length (live_tables (work_of m))
      its are = (install_counts (work_of m) job told.slot are (kept.jobs.kept.held told.slot (found_there job m.jobs.slots told.slot told.is))).taken_in

      -- what is counted fits
      pub live_most : (live : ℕ) → live ≡ length (all_tables (places m.levels)) → live + length (outputs_told written) ≤ 2 ^ 63 + 1
      live_most live same = omega (arith, all_few, same, held_length job m.jobs.slots told.slot told.is, ap (λ (ts : List Table). length ts) told.outputs)

      pub live_taken : (live : ℕ) → AreRuns m.levels → live ≡ length (all_tables (places m.levels)) → length (inputs (job_told written)) ≤ live
      live_taken live are same = omega (arith, its are, same, ap (λ (j : Job). length (inputs j)) told.job)

      runs_told : (b : Bool) (count : ℕ) → count ≡ length m.levels.runs → b ≡ (is_flush (job_told written) && nat_le 12 count) → has_too_many_runs (work_of m) told.slot ≡ b
      runs_told b count same is = (λ i. is_flush (told.job i) && nat_le 12 (sym same i)) ∙ sym is

      tables_told : (b : Bool) (live : ℕ) → live ≡ length (all_tables (places m.levels)) → b ≡ nat_lt 1024 ((live + length (outputs_told written)) - length (inputs (job_told written)))
          → has_too_many_tables (work_of m) told.slot ≡ b
      tables_told b live same is = (λ i. nat_lt 1024 ((sym same i + length (told.outputs i)) - length (inputs (told.job i)))) ∙ sym is

      module _ (b : Bool) (count : ℕ) (counted : count ≡ length m.levels.runs) (tested : b ≡ (is_flush (job_told written) && nat_le 12 count)) where
        pub tells_many_runs : b ≡ true → work_refusal (record { state = state_of m; work = work_of m }) (Install job) ≡ Some TooManyRuns
        tells_many_runs many = decides ∙ many_runs w job told.slot told.is at (runs_told b count counted tested ∙ many)

        module _ (no_runs : b ≡ false) (d : Bool) (live : ℕ) (same : live ≡ length (all_tables (places m.levels))) (tried : d ≡ nat_lt 1024 ((live + length (outputs_told written)) - length (inputs (job_told written)))) where
          few_runs : has_too_many_runs (work_of m) told.slot ≡ false
          few_runs = runs_told b count counted tested ∙ no_runs

          pub tells_many_tables : d ≡ true → work_refusal (record { state = state_of m; work = work_of m }) (Install job) ≡ Some TooManyTables
          tells_many_tables many = decides ∙ many_tables w job told.slot told.is at few_runs (tables_told d live same tried ∙ many)

          pub tells_exhausted : d ≡ false → m.regions.generation ≡ 2 ^ 63 → work_refusal (record { state = state_of m; work = work_of m }) (Install job) ≡ Some Exhausted
          tells_exhausted few last = decides ∙ at_last w job told.slot told.is at few_runs (tables_told d live same tried ∙ few) (kept.agrees.generation ∙ last)

          pub tells_none : d ≡ false → m.regions.generation ≢ 2 ^ 63 → work_refusal (record { state = state_of m; work = work_of m }) (Install job) ≡ None
          tells_none few other = decides ∙ none_refuses w job told.slot told.is at few_runs (tables_told d live same tried ∙ few) (λ e. other (sym kept.agrees.generation ∙ e))
