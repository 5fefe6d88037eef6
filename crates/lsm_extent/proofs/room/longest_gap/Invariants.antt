use Rattle.lsm_extent.proofs.Walking.{IsAt}
use Rattle.lsm_extent.proofs.GapWalks.{IsLongestBefore}
use Rattle.lsm_extent.proofs.room.longest_gap.Given as goal

abbrev pub invariant-loop-extent : goal.invariant-loop-extent
invariant-loop-extent l = record {
  at : IsAt l.held l.area l.extent-index l.from;
  longest : IsLongestBefore l.held l.area l.from l.longest;
}
