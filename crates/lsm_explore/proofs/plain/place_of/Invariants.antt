use Rattle.std.proofs.Common.{◌≡◌, ◌≤◌, ◌+◌, drop, length}
use Rattle.lsm_explore.specs.Plain.{place_in, rows_of}
use Rattle.lsm_explore.proofs.plain.place_of.Given as goal

abbrev pub invariant-loop-i : goal.invariant-loop-i
invariant-loop-i l = (place_in l.key (rows_of l.rows) ≡ l.i + place_in l.key (rows_of (drop l.i l.rows))) × (l.i ≤ length l.rows)
