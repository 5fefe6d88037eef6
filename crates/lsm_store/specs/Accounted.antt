-- Just the extents of tables are handed out after an opening, and each piece of work keeps it so.
use Rattle.std.specs.Prelude.{◌≡◌, ℕ, List, Option, None}
use Rattle.lsm_codec.specs.Versions.{Version}
use Rattle.lsm_extent.specs.Area.{Area, IsPartition}
use Rattle.lsm_levels.specs.Levels.{Levels}
use Rattle.lsm_levels.specs.Held.{AreRuns}
use Rattle.lsm_jobs.specs.Keeping.{AreKept}
use Rattle.lsm_open.specs.Placements.{Placement}
use Rattle.lsm_open.specs.Recovering.{AreWithinLimits}
use Rattle.lsm_machine.specs.Accounts.{AreAccounted}
use Rattle.lsm_machine.specs.Calls.{Call}
use Rattle.lsm_store.specs.OpenedWork.{opened_work}
use Rattle.lsm_machine.specs.Work.{WorkView, Work}
use Rattle.lsm_machine.specs.WorkRefusals.{running_refusal}
use Rattle.lsm_machine.specs.WorkEffects.{work_after, work_called, with_sealed}
use Rattle.lsm_machine.specs.Machine.{Machine}

-- Just the extents of tables are handed out after an opening. Each piece of work that nothing refuses keeps it so, each call,
-- and a rotation.
pub record AccountedLaw : Type 0 where
  pub opened : (size count : ℕ) (p : Placement) (sealed : Option (List Version)) (levels : Levels) (extents : Area) → AreWithinLimits size p count sealed levels extents → IsPartition extents
      → AreAccounted (opened_work p sealed levels extents)
  pub worked : (m : Machine) (work : Work) → AreAccounted m.work → IsPartition m.work.area → AreRuns m.work.levels → AreKept m.work.levels m.work.jobs.next m.work.jobs.slots → running_refusal m work ≡ None → AreAccounted (work_after m work)
  pub called : (m : Machine) (call : Call) → AreAccounted m.work → AreAccounted (work_called m call)
  pub rotated : (w : WorkView) → AreAccounted w → AreAccounted (with_sealed w)
