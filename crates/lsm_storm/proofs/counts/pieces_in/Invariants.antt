use Rattle.std.proofs.Common.{◌≡◌, ◌≤◌, ◌+◌, drop}
use Rattle.lsm_storm.specs.Storms.{pieces_in}
use Rattle.lsm_storm.proofs.counts.pieces_in.Given as goal

abbrev pub invariant-loop-entry : goal.invariant-loop-entry
invariant-loop-entry l = (l.count + pieces_in (drop l.entry-index l.entry-items) ≡ pieces_in l.fn.trail.log) × (l.count ≤ l.entry-index)
