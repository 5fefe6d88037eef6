use Rattle.std.proofs.Common.{◌≡◌, take}
use Rattle.lsm_codec.specs.Versions.{deletes_in}
use Rattle.lsm_check.proofs.table.deletes_in.Given as goal

abbrev pub invariant-loop-entry : goal.invariant-loop-entry
invariant-loop-entry g l = l.deletes ≡ deletes_in (take l.entry-index l.entries)
