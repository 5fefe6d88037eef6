use Rattle.std.proofs.Common.{◌++◌, List, take, arith, subst, take_all}
use Rattle.lsm_codec.specs.Versions.{Version}
use Rattle.lsm_check.specs.Seen.{IsSeen}
use Rattle.lsm_check.proofs.LeastNumbers.{joined_more}
use Rattle.lsm_check.proofs.seen.Seen.take_in_all.Goals as goal

pub loop-entry-preserved : goal.loop-entry-preserved
loop-entry-preserved g c =
    let i = c.loop-entry.entry-index in
    let entries = c.args.entries.now in
    let v = c.entry-item.result in
    record {
      seen = λ versions first. subst (λ (l : List Version). IsSeen l c.take_in.new.self) (joined_more versions entries i v c.loop-entry-test.true c.entry-item.is) (c.in_ok-take_in.ensures.seen (versions ++ take i entries) (c.loop-entry.invariant.seen versions first));
      counted = omega (arith, c.in_ok-take_in.ensures.counted, c.loop-entry.invariant.counted);
    }

pub returns-clause-seen : goal.returns-clause-seen
returns-clause-seen g c versions first =
    subst (λ (l : List Version). IsSeen (versions ++ l) c.loop-entry.self) (take_all c.loop-entry.entry-index c.args.entries.now (omega (arith, c.loop-entry-test.false))) (c.loop-entry.invariant.seen versions first)
