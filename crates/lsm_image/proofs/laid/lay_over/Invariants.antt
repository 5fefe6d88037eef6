use Rattle.std.proofs.Common.{◌≡◌, map, drop, Some}
use Rattle.lsm_image.specs.Laid.{write_of, newest}
use Rattle.lsm_image.proofs.laid.lay_over.Given as goal

-- the rest of the writes lead to where all of them lead
abbrev pub invariant-loop-write : goal.invariant-loop-write
invariant-loop-write l = newest (Some l.out) (map write_of (drop l.write-index l.laid)) l.at ≡ newest (Some l.fn.out) (map write_of l.laid) l.at
