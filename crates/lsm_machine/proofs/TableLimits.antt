-- How many runs and tables a store has.
use Rattle.std.proofs.Common.{◌≡◌, ℕ, suc, ◌+◌, ◌-◌, ◌≤◌, ◌<◌, Bool, true, false, cond, ◌&&◌, leb, List, [], length, Option, Some, None, refl, sym, ap, ◌∙◌, arith}
use Rattle.std.proofs.lemmas.Bool.{and_parts, ltb-true, ltb-false, leb-true, leb-false, false≢true}
use Rattle.lsm_merge.specs.Results.{MergeResult}
use Rattle.lsm_levels.specs.Held.{AreRuns, IsHeld}
use Rattle.lsm_levels.specs.Levels.{Levels, all_tables, places}
use Rattle.lsm_levels.specs.Pick.{Job, Flush, Merge, inputs, is_flush, installed_levels}
use Rattle.lsm_levels.specs.Tables.{Table}
use Rattle.lsm_levels.proofs.Moving.{moving_law}
use Rattle.lsm_jobs.specs.Keeping.{AreKept}
use Rattle.lsm_jobs.specs.Slots.{Slot, outputs_at, less_left, left_at}
use Rattle.lsm_jobs.specs.Reading.{stage_with}
use Rattle.lsm_jobs.proofs.Found.{found_there}
use Rattle.lsm_machine.specs.TableLimits.{AreFew, InstallCounts}
use Rattle.lsm_machine.specs.Work.{WorkView, Work, Take, Read, Ask, Accept, Write, Install, Drop}
use Rattle.lsm_machine.specs.WorkEffects.{staged, with_placed, with_installed, work_after}
use Rattle.lsm_machine.specs.WorkRefusals.{held, of_slot, placing, has_too_many_runs, has_too_many_tables, work_refusals, running_refusal}
use Rattle.lsm_machine.specs.Machine.{Machine}
use Rattle.lsm_machine.proofs.Accounts.{tests_behind, first_not, behind_not}

-- ---- an install

module _ (w : WorkView) (number : ℕ) (slot : Slot) (runs : AreRuns w.levels) (has : IsHeld w.levels slot.input.bottom slot.job) where
  abbrev after : Levels
  after = installed_levels w.levels slot.job (outputs_at slot.stage)

  moves : length (all_tables (places after)) + length (inputs slot.job) ≡ length (all_tables (places w.levels)) + length (outputs_at slot.stage)
  moves = (moving_law w.levels slot.input.bottom slot.job (outputs_at slot.stage) runs has).number

  tables_are : length (all_tables (places after)) ≡ (length (all_tables (places w.levels)) + length (outputs_at slot.stage)) - length (inputs slot.job)
  tables_are = omega (arith, moves)

  -- of level 0 there is a run more after a flush
  flush_more : (job : Job) → is_flush job ≡ true → length (installed_levels w.levels job (outputs_at slot.stage)).runs ≡ suc (length w.levels.runs)
  flush_more Flush is = refl
  flush_more (Merge i upper lower) is = absurd (false≢true is)

  few_by : (flush full : Bool) (before then : ℕ) → then ≤ before + cond flush 1 0 → (full ≡ false → before < 12) → (flush && full) ≡ false → before ≤ 12 → then ≤ 12
  few_by true true before then most under is few = absurd (false≢true (sym is))
  few_by true false before then most under is few = omega (arith, most, under refl)
  few_by false full before then most under is few = omega (arith, most, few)

  pub install_counts : InstallCounts w number slot
  install_counts = record {
    taken_in = omega (arith, (moving_law w.levels slot.input.bottom slot.job [] runs has).number);
    tables = tables_are;
    few_tables = λ few. omega (arith, tables_are, ltb-false 1024 _ few);
    many_tables = λ many. omega (arith, tables_are, ltb-true 1024 _ many);
    few_runs = few_by (is_flush slot.job) (leb 12 (length w.levels.runs)) (length w.levels.runs) (length after.runs) (moving_law w.levels slot.input.bottom slot.job (outputs_at slot.stage) runs has).runs (leb-false 12 (length w.levels.runs));
    many_runs = λ many. let both = and_parts (is_flush slot.job) (leb 12 (length w.levels.runs)) many in omega (arith, flush_more slot.job both.0, leb-true 12 (length w.levels.runs) both.1);
  }

-- ---- each piece of work

module _ (m : Machine) (few : AreFew m.work.levels) where
  abbrev HasFew : WorkView → Type 0
  HasFew w = AreFew w.levels

  read_few : (job : ℕ) (o : Option Slot) → HasFew (of_slot m.work (λ slot. staged m.work job (stage_with (left_at slot.stage - 8)) slot) o)
  read_few job None = few
  read_few job (Some slot) = few

  write_few : (job : ℕ) (o : Option Slot) → HasFew (of_slot m.work (λ slot. staged m.work job (less_left 8 slot.stage) slot) o)
  write_few job None = few
  write_few job (Some slot) = few

  placed_few : (job : ℕ) (o : Option (List Table)) (slot : Slot) → HasFew (with_placed m.work job o slot)
  placed_few job None slot = few
  placed_few job (Some tables) slot = few

  accept_few : (job : ℕ) (result : Option MergeResult) (o : Option Slot) → HasFew (of_slot m.work (with_placed m.work job (placing m.work result)) o)
  accept_few job result None = few
  accept_few job result (Some slot) = placed_few job (placing m.work result) slot

  install_few : (job : ℕ) → AreRuns m.work.levels → AreKept m.work.levels m.work.jobs.next m.work.jobs.slots → running_refusal m (Install job) ≡ None → AreFew (work_after m (Install job)).levels
  install_few job runs kept none = by (held m job) refl
    where
      many_runs : of_slot false (has_too_many_runs m.work) (held m job) ≡ false
      many_runs = first_not (tests_behind 2 (work_refusals m (Install job))) (behind_not 2 (work_refusals m (Install job)) none)

      many_tables : of_slot false (has_too_many_tables m.work) (held m job) ≡ false
      many_tables = first_not (tests_behind 3 (work_refusals m (Install job))) (behind_not 3 (work_refusals m (Install job)) none)

      by : (o : Option Slot) → held m job ≡ o → HasFew (of_slot m.work (with_installed m.work job) o)
      by None is = few
      by (Some slot) is =
          let counts = install_counts m.work job slot runs (kept.held slot (found_there job m.work.jobs.slots slot is)) in
          record {
            runs = counts.few_runs (sym (ap (of_slot false (has_too_many_runs m.work)) is) ∙ many_runs) few.runs;
            tables = counts.few_tables (sym (ap (of_slot false (has_too_many_tables m.work)) is) ∙ many_tables);
          }

pub kept_few : (m : Machine) (work : Work) → AreRuns m.work.levels → AreKept m.work.levels m.work.jobs.next m.work.jobs.slots → running_refusal m work ≡ None → AreFew m.work.levels → AreFew (work_after m work).levels
kept_few m (Take asked) runs kept none few = few
kept_few m (Read job) runs kept none few = read_few m few job (held m job)
kept_few m (Ask job) runs kept none few = few
kept_few m (Accept job result) runs kept none few = accept_few m few job result (held m job)
kept_few m (Write job) runs kept none few = write_few m few job (held m job)
kept_few m (Install job) runs kept none few = install_few m few job runs kept none
kept_few m (Drop job) runs kept none few = few
