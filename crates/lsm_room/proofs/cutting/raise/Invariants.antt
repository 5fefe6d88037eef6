use Rattle.std.proofs.Common.{vec_len}
use Rattle.lsm_room.proofs.cutting.raise.Given as goal

abbrev pub decreases-loop-last : goal.decreases-loop-last
decreases-loop-last g l = vec_len l.bytes
