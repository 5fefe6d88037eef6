use Rattle.std.proofs.Common.{◌≡◌, map, take}
use Rattle.lsm_codec.specs.Versions.{deletes_in}
use Rattle.lsm_table.specs.Division.{entries_of}
use Rattle.lsm_table.proofs.image.deletes_of.Given as goal

abbrev pub invariant-loop-block : goal.invariant-loop-block
invariant-loop-block g l = l.deletes ≡ deletes_in (entries_of (map (λ b. b.items) (take l.block-index l.blocks)))
