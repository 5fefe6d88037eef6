use Rattle.std.proofs.Common.{◌≡◌, take}
use Rattle.lsm_explore.specs.Plain.{rows_of}
use Rattle.lsm_explore.proofs.judging.has_rows.Given as goal

abbrev pub invariant-loop-i : goal.invariant-loop-i
invariant-loop-i g l = rows_of (take l.i l.rows) ≡ take l.i l.page.rows
