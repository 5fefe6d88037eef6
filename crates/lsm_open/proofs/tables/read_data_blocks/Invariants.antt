use Rattle.std.proofs.Common.{◌≡◌, ◌+◌, ◌*◌, IsTrue, true}
use Rattle.std.specs.List.{flat_map}
use Rattle.lsm_device.specs.Disk.{seen}
use Rattle.lsm_device.specs.Medium.{disk}
use Rattle.lsm_levels.specs.Stored.{blocks_from}
use Rattle.lsm_open.specs.ToldTables.{ReadsBlocks}
use Rattle.lsm_open.proofs.tables.read_data_blocks.Given as goal

abbrev pub invariant-loop-i : goal.invariant-loop-i
invariant-loop-i g l =
    let D = g.D.Device in
    record {
      same_size : (D.medium l.device).size ≡ (D.medium l.fn.device).size;
      device : ReadsBlocks l.i true (D.medium l.fn.device) (D.medium l.device);
      given : IsTrue ((D.medium l.fn.device).lasting.tells) → l.bytes.items ≡ flat_map (λ b. b) (blocks_from (seen (disk (D.medium l.fn.device))) (l.area + 8 * l.first) l.i);
    }
