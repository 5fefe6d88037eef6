use Rattle.std.proofs.Common.{◌≡◌, ◌+◌, drop}
use Rattle.lsm_extent.specs.Gaps.{gaps_between, starts}
use Rattle.lsm_extent.proofs.Walking.{IsAt}
use Rattle.lsm_extent.proofs.room.starts_among.Given as goal

abbrev pub invariant-loop-extent : goal.invariant-loop-extent
invariant-loop-extent l = record {
  at : IsAt l.held l.area l.extent-index l.from;
  counted : starts l.blocks (gaps_between 0 l.area l.held) ≡ l.starts + starts l.blocks (gaps_between l.from l.area (drop l.extent-index l.held));
}
