use Rattle.std.proofs.Common.{sym, ◌∙◌}
use Rattle.lsm_codec.specs.BatchText.{operation_at}
use Rattle.lsm_codec.proofs.Loops.{all_go_on, all_end, all_done}
use Rattle.lsm_codec.proofs.batch_text.are_changes.Goals as goal

pub returns-in-None : goal.returns-in-None
returns-in-None c =
    all_end operation_at c.args.count c.loop.counter c.loop.rest.now _ c.loop-test.true (sym c.in-None.ensures.read) c.loop.invariant

pub loop-preserved : goal.loop-preserved
loop-preserved c =
    all_go_on operation_at c.args.count c.loop.counter c.loop.rest.now _ c.in-Some.after.now _ c.loop-test.true (sym c.in-Some.ensures.read) c.loop.invariant

pub returns : goal.returns
returns c = c.is_empty.ensures ∙ all_done operation_at c.args.count c.loop.counter c.loop.rest.now _ c.loop-test.false c.loop.invariant
