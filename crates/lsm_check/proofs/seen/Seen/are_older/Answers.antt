use Rattle.std.proofs.Common.{[], ◌∷◌}
use Rattle.std.proofs.lemmas.Bool.{MatchBool-at_true, MatchBool-at_false}
use Rattle.lsm_levels.specs.Orders.{IsNewerPlace}
use Rattle.lsm_check.proofs.LeastNumbers.{older_more, older_one}
use Rattle.lsm_check.proofs.seen.Seen.are_older.Goals as goal

pub returns-then-not-is_older : goal.returns-then-not-is_older
returns-then-not-is_older g c versions seen all =
    let v = c.entry-item.result in
    let one : Type 0 = IsNewerPlace versions (v ∷ []) in
    MatchBool-at_false one (one → ⊥) c.if-not-is_older.true (c.is_older.ensures versions seen) (older_one versions c.args.entries.now c.loop-entry.entry-index v c.loop-entry-test.true c.entry-item.is all)

pub loop-entry-preserved : goal.loop-entry-preserved
loop-entry-preserved g c versions seen =
    let v = c.entry-item.result in
    let one : Type 0 = IsNewerPlace versions (v ∷ []) in
    older_more versions c.args.entries.now c.loop-entry.entry-index v c.loop-entry-test.true c.entry-item.is (c.loop-entry.invariant versions seen) (MatchBool-at_true one (one → ⊥) c.if-not-is_older.false (c.is_older.ensures versions seen))
