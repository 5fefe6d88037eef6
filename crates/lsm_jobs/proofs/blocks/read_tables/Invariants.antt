use Rattle.std.proofs.Common.{◌≡◌, ◌≤◌, ◌-◌, IsTrue, true, take, drop}
use Rattle.lsm_device.specs.Disk.{seen}
use Rattle.lsm_device.specs.Medium.{disk}
use Rattle.lsm_codec.specs.Versions.{AreOrdered}
use Rattle.lsm_jobs.specs.Gathering.{data_blocks, blocks_in, items_in, IsLonger, ReadsBlocks}
use Rattle.lsm_jobs.proofs.GoingOn.{SameEnd}
use Rattle.lsm_jobs.proofs.BlockReads.{items_behind}
use Rattle.lsm_jobs.proofs.blocks.read_tables.Given as goal

abbrev pub invariant-loop-table : goal.invariant-loop-table
invariant-loop-table g l =
    let D = g.D.Device in
    let sectors = seen (disk (D.medium l.fn.device)) in
    record {
      same_size : (D.medium l.device).size ≡ (D.medium l.fn.device).size;
      few : l.left ≤ l.most;
      skipped : l.skip ≡ l.done - data_blocks (take l.table-index l.tables);
      spent : l.most - l.left ≤ data_blocks (take l.table-index l.tables) - l.done;
      device : ReadsBlocks (l.most - l.left) true (D.medium l.fn.device) (D.medium l.device);
      same : IsTrue ((D.medium l.fn.device).lasting.tells) → SameEnd l.run.items (items_behind sectors l.area (drop l.table-index l.tables) l.skip l.left) l.fn.run.items (items_in (take l.most (drop l.done (blocks_in sectors l.area l.tables))));
      longer : IsLonger l.fn.run.items l.run.items;
      ordered : AreOrdered l.run.items;
    }
