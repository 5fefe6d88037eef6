use Rattle.std.proofs.Common.{◌≡◌, IsTrue, true}
use Rattle.lsm_device.specs.Disk.{seen}
use Rattle.lsm_device.specs.Medium.{disk}
use Rattle.lsm_codec.specs.Versions.{AreOrdered}
use Rattle.lsm_levels.specs.Stored.{blocks_from}
use Rattle.lsm_jobs.specs.Gathering.{items_in, IsLonger, ReadsBlocks}
use Rattle.lsm_jobs.proofs.GoingOn.{SameEnd}
use Rattle.lsm_jobs.proofs.BlockReads.{items_left}
use Rattle.lsm_jobs.proofs.blocks.read_blocks.Given as goal

abbrev pub invariant-loop-i : goal.invariant-loop-i
invariant-loop-i g l =
    let D = g.D.Device in
    let sectors = seen (disk (D.medium l.fn.device)) in
    record {
      same_size : (D.medium l.device).size ≡ (D.medium l.fn.device).size;
      device : ReadsBlocks l.i true (D.medium l.fn.device) (D.medium l.device);
      same : IsTrue ((D.medium l.fn.device).lasting.tells) → SameEnd l.run.items (items_left sectors l.sector l.blocks l.i) l.fn.run.items (items_in (blocks_from sectors l.sector l.blocks));
      longer : IsLonger l.fn.run.items l.run.items;
      ordered : AreOrdered l.run.items;
    }
