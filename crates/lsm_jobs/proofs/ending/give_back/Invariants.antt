use Rattle.std.proofs.Common.{◌≡◌}
use Rattle.lsm_jobs.specs.Placing.{AreHandedOut, all_given_back}
use Rattle.lsm_jobs.proofs.ending.give_back.Given as goal

abbrev pub invariant-loop-table : goal.invariant-loop-table
invariant-loop-table g l = record {
  held : AreHandedOut l.table-iterator.iter.rest.now l.extents;
  done : all_given_back l.table-iterator.iter.rest.now l.extents ≡ all_given_back l.tables l.fn.extents;
}
