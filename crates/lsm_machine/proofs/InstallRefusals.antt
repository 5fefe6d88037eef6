-- Which refusal decides of an install.
use Rattle.std.proofs.Common.{◌≡◌, ◌≢◌, inl, inr, ℕ, ◌+◌, ◌==◌, Bool, true, false, not, length, Option, Some, None, is_none, refl, sym, ◌∙◌, ap}
use Rattle.std.specs.Prelude.{if◌then◌else◌}
use Rattle.std.proofs.lemmas.Bool.{eq-eqb, ne_eqb, false≢true}
use Rattle.std.proofs.lemmas.List.{length-append}
use Rattle.lsm_device.specs.declared.refusal.Refusal.{Refusal}
use Rattle.lsm_device.specs.declared.refusal.Refusal.TheVariants.{NoSuchJob, WrongState, TooManyRuns, TooManyTables, Exhausted}
use Rattle.lsm_jobs.specs.Refusing.{IsNotWritten}
use Rattle.lsm_jobs.specs.Slots.{Stage, Slot, Writing, is_written, is_not_at, outputs_at}
use Rattle.lsm_levels.specs.Levels.{Levels, all_tables, places}
use Rattle.lsm_root.specs.CrashState.{last_number}
use Rattle.lsm_machine.specs.Work.{Install}
use Rattle.lsm_machine.specs.WorkRefusals.{held, of_slot, has_too_many_runs, has_too_many_tables, running_refusal}
use Rattle.lsm_machine.specs.Machine.{Machine}
use Rattle.lsm_levels.proofs.OldestRuns.{tables_append}
use Rattle.lsm_machine.proofs.Unrefused.{passes_by, is_taken}

-- a stage with no block left to write
pub is_whole : (stage : Stage) → stage ≡ Writing (outputs_at stage) 0 → is_written stage ≡ true
is_whole stage is = ap is_written is ∙ eq-eqb 0 0 refl

module _ (m : Machine) (job : ℕ) where
  -- there is no such job, or it isn't written
  pub not_written : (e : Refusal) → IsNotWritten (held m job) e → running_refusal m (Install job) ≡ Some e
  not_written e (inl is) = is_taken (is_none (held m job)) NoSuchJob _ (ap (λ (o : Option Slot). is_none o) is.1) ∙ ap Some (sym is.0)
  not_written e (inr is) =
      passes_by (is_none (held m job)) NoSuchJob _ (Some e) (there (held m job) is.1)
      (is_taken (is_not_at is_written (held m job)) WrongState _ is.1 ∙ ap Some (sym is.0))
    where
      there : (o : Option Slot) → is_not_at is_written o ≡ true → is_none o ≡ false
      there None not = absurd (false≢true not)
      there (Some slot) not = refl

  module _ (slot : Slot) (is : held m job ≡ Some slot) (written : is_written slot.stage ≡ true) where
    -- the tests of the levels and of the generation decide
    past : (x : Option Refusal) → (if of_slot false (has_too_many_runs m.work) (held m job) then Some TooManyRuns else (if of_slot false (has_too_many_tables m.work) (held m job) then Some TooManyTables else (if m.state.generation == last_number then Some Exhausted else None))) ≡ x
        → running_refusal m (Install job) ≡ x
    past x goes =
        passes_by (is_none (held m job)) NoSuchJob _ x (ap (λ (o : Option Slot). is_none o) is)
        (passes_by (is_not_at is_written (held m job)) WrongState _ x (ap (is_not_at is_written) is ∙ ap not written) goes)

    runs_are : (b : Bool) → has_too_many_runs m.work slot ≡ b → of_slot false (has_too_many_runs m.work) (held m job) ≡ b
    runs_are b has = ap (of_slot false (has_too_many_runs m.work)) is ∙ has

    tables_are : (b : Bool) → has_too_many_tables m.work slot ≡ b → of_slot false (has_too_many_tables m.work) (held m job) ≡ b
    tables_are b has = ap (of_slot false (has_too_many_tables m.work)) is ∙ has

    pub many_runs : has_too_many_runs m.work slot ≡ true → running_refusal m (Install job) ≡ Some TooManyRuns
    many_runs has = past (Some TooManyRuns) (is_taken (of_slot false (has_too_many_runs m.work) (held m job)) TooManyRuns _ (runs_are true has))

    module _ (few_runs : has_too_many_runs m.work slot ≡ false) where
      pub many_tables : has_too_many_tables m.work slot ≡ true → running_refusal m (Install job) ≡ Some TooManyTables
      many_tables has =
          past (Some TooManyTables)
          (passes_by (of_slot false (has_too_many_runs m.work) (held m job)) TooManyRuns _ (Some TooManyTables) (runs_are false few_runs)
          (is_taken (of_slot false (has_too_many_tables m.work) (held m job)) TooManyTables _ (tables_are true has)))

      module _ (few_tables : has_too_many_tables m.work slot ≡ false) where
        -- the generation alone decides
        pub generation_decides : (x : Option Refusal) → (if m.state.generation == last_number then Some Exhausted else None) ≡ x → running_refusal m (Install job) ≡ x
        generation_decides x goes =
            past x
            (passes_by (of_slot false (has_too_many_runs m.work) (held m job)) TooManyRuns _ x (runs_are false few_runs)
            (passes_by (of_slot false (has_too_many_tables m.work) (held m job)) TooManyTables _ x (tables_are false few_tables) goes))

        pub at_last : m.state.generation ≡ last_number → running_refusal m (Install job) ≡ Some Exhausted
        at_last e = generation_decides (Some Exhausted) (is_taken (m.state.generation == last_number) Exhausted None (eq-eqb m.state.generation last_number e))

        pub none_refuses : m.state.generation ≢ last_number → running_refusal m (Install job) ≡ None
        none_refuses other = generation_decides None (passes_by (m.state.generation == last_number) Exhausted None None (ne_eqb m.state.generation last_number other) refl)

-- the tables of levels, counted in two parts
pub places_counted : (levels : Levels) → length (all_tables (places levels)) ≡ length (all_tables levels.runs) + length (all_tables levels.deeper)
places_counted levels = ap length (tables_append levels.runs levels.deeper) ∙ length-append (all_tables levels.runs) (all_tables levels.deeper)
