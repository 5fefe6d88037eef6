use Rattle.std.proofs.Common.{◌≡◌, ◌≤◌, ◌-◌, IsTrue, true, length, map, drop}
use Rattle.std.specs.List.{AllByRecursion}
use Rattle.lsm_device.specs.Disk.{seen}
use Rattle.lsm_device.specs.Medium.{disk}
use Rattle.lsm_merge.specs.Inputs.{AreRuns, items_of}
use Rattle.lsm_levels.specs.Stored.{LiesWithin}
use Rattle.lsm_jobs.specs.Gathering.{ascending_runs, fronts, ReadsBlocks}
use Rattle.lsm_jobs.proofs.GatheredRuns.{SoFar}
use Rattle.lsm_jobs.proofs.runs.read_runs.Given as goal

abbrev pub invariant-loop-i : goal.invariant-loop-i
invariant-loop-i g l =
    let D = g.D.Device in
    let sectors = seen (disk (D.medium l.fn.device)) in
    record {
      same_size : (D.medium l.device).size ≡ (D.medium l.fn.device).size;
      few : length l.behind ≤ 1024;
      within : AllByRecursion (LiesWithin (D.medium l.fn.device).size l.area) l.behind;
      same_count : length l.runs ≡ length l.fn.runs;
      left : length (ascending_runs l.behind) ≡ length l.fn.runs - l.i;
      ordered : AreRuns (items_of l.runs);
      untouched : drop l.i (items_of l.runs) ≡ drop l.i (items_of l.fn.runs);
      longer : fronts (map length (items_of l.fn.runs)) (items_of l.runs) ≡ items_of l.fn.runs;
      fewer : l.to - l.from ≤ l.fn.to - l.fn.from;
      device : ReadsBlocks ((l.fn.to - l.fn.from) - (l.to - l.from)) true (D.medium l.fn.device) (D.medium l.device);
      so_far : IsTrue ((D.medium l.fn.device).lasting.tells) → SoFar sectors l.area l.fn.from l.fn.to (ascending_runs l.tables) (items_of l.fn.runs) l.i l.from l.to (ascending_runs l.behind) (items_of l.runs);
    }
