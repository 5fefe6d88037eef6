use Rattle.std.proofs.Common.{◌≡◌, ◌++◌, map, drop}
use Rattle.lsm_device.specs.Disk.{kept}
use Rattle.lsm_image.specs.Laid.{write_of}
use Rattle.lsm_image.proofs.laid.add_kept.Given as goal

-- with the rest that is kept, the writes are those at the end
abbrev pub invariant-loop-i : goal.invariant-loop-i
invariant-loop-i g l = map write_of l.laid.items ++ kept (drop l.i l.keep) (map write_of (drop l.i l.pending)) ≡ map write_of l.fn.laid.items ++ kept l.keep (map write_of l.pending)
