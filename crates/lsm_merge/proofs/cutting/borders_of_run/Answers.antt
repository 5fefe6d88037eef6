use Rattle.lsm_merge.proofs.BorderLaws.{border_step}
use Rattle.lsm_merge.proofs.cutting.borders_of_run.Goals as goal

pub loop-i-preserved : goal.loop-i-preserved
loop-i-preserved g c =
    border_step c.args.run.now c.args.parts c.loop-i.i c.place.result c.index-run-place.result c.key-key.result.now c.loop-i.borders.items c.add_border.new.borders.items c.place.ensures.value c.place.ensures.inside c.index-run-place.is c.key-key.ensures.same c.loop-i.invariant c.in_ok-add_border.ensures
