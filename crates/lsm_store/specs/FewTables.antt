-- A store has few runs and tables, from an opening on.
use Rattle.std.specs.Prelude.{◌≡◌, ℕ, List, length, Option, None}
use Rattle.lsm_codec.specs.Versions.{Version}
use Rattle.lsm_extent.specs.Area.{Area}
use Rattle.lsm_levels.specs.Levels.{Levels}
use Rattle.lsm_levels.specs.Held.{AreRuns, IsHeld}
use Rattle.lsm_jobs.specs.Keeping.{AreKept}
use Rattle.lsm_jobs.specs.Slots.{Slot}
use Rattle.lsm_open.specs.Placements.{Placement}
use Rattle.lsm_open.specs.Recovering.{AreWithinLimits}
use Rattle.lsm_machine.specs.TableLimits.{AreFew, InstallCounts}
use Rattle.lsm_machine.specs.Work.{WorkView, Work}
use Rattle.lsm_machine.specs.WorkRefusals.{running_refusal}
use Rattle.lsm_machine.specs.WorkEffects.{work_after}
use Rattle.lsm_machine.specs.Machine.{Machine}

-- A store opens with few runs and tables, and each piece of work that nothing refuses keeps them few.
pub record FewLaw : Type 0 where
  pub opened : (size count : ℕ) (p : Placement) (sealed : Option (List Version)) (levels : Levels) (extents : Area) → AreWithinLimits size p count sealed levels extents → p.runs ≡ length levels.runs → AreFew levels
  pub install : (w : WorkView) (number : ℕ) (slot : Slot) → AreRuns w.levels → IsHeld w.levels slot.input.bottom slot.job → InstallCounts w number slot
  pub kept : (m : Machine) (work : Work) → AreRuns m.work.levels → AreKept m.work.levels m.work.jobs.next m.work.jobs.slots → running_refusal m work ≡ None → AreFew m.work.levels → AreFew (work_after m work).levels
