-- How many runs and tables a store has, before an install and after it.
use Rattle.std.specs.Prelude.{◌≡◌, ◌≤◌, ◌<◌, ◌+◌, ◌-◌, ℕ, true, false, length}
use Rattle.lsm_levels.specs.Pick.{inputs}
use Rattle.lsm_levels.specs.Levels.{Levels, all_tables, places}
use Rattle.lsm_jobs.specs.Slots.{Slot, outputs_at}
use Rattle.lsm_machine.specs.Work.{WorkView}
use Rattle.lsm_machine.specs.WorkRefusals.{live_tables, has_too_many_runs, has_too_many_tables}
use Rattle.lsm_machine.specs.WorkEffects.{with_installed}

-- Levels that a manifest has place for: 12 runs of level 0 and 1,024 tables at most.
pub record AreFew (levels : Levels) : Type 0 where
  pub runs : length levels.runs ≤ 12
  pub tables : length (all_tables (places levels)) ≤ 1024

-- What an install of a slot's job leaves: the tables that live, without its inputs and with its outputs. There are too many of
-- them, or too many runs of level 0, exactly where the refusals say so.
pub record InstallCounts (w : WorkView) (number : ℕ) (slot : Slot) : Type 0 where
  pub taken_in : length (inputs slot.job) ≤ length (live_tables w)
  pub tables : length (live_tables (with_installed w number slot)) ≡ (length (live_tables w) + length (outputs_at slot.stage)) - length (inputs slot.job)
  pub few_tables : has_too_many_tables w slot ≡ false → length (live_tables (with_installed w number slot)) ≤ 1024
  pub many_tables : has_too_many_tables w slot ≡ true → 1024 < length (live_tables (with_installed w number slot))
  pub few_runs : has_too_many_runs w slot ≡ false → length w.levels.runs ≤ 12 → length (with_installed w number slot).levels.runs ≤ 12
  pub many_runs : has_too_many_runs w slot ≡ true → 12 < length (with_installed w number slot).levels.runs
