use Rattle.std.proofs.Common.{◌∙◌, ap}
use Rattle.lsm_merge.specs.Keeping.{is_newest_at_a_cut}
use Rattle.lsm_merge.specs.Loops.{shown}
use Rattle.lsm_merge.proofs.Steps.{kept_take, kept_skip}
use Rattle.lsm_merge.proofs.keeping.newest_at_cuts.Goals as goal
use Rattle.lsm_merge.proofs.keeping.newest_at_cuts.Goals.{then-is_newest_at_a_cut+in_ok-push, else-is_newest_at_a_cut}

pub loop-i-preserved : goal.loop-i-preserved
loop-i-preserved g c =
    let test = is_newest_at_a_cut c.args.cuts.now (shown c.args.versions.now) in
    elim c.if-is_newest_at_a_cut.branch [
      | then-is_newest_at_a_cut+in_ok-push w ↦
          ap (λ v. shown v.items) w.kept-is ∙ ap shown w.in_ok-push.ensures.items
          ∙ kept_take test c.args.versions.now c.loop-i.kept.items c.loop-i.i w.index-versions-i.result c.is_newest_at_a_cut.result c.loop-i.invariant c.loop-i-test.true w.index-versions-i.is w.if-is_newest_at_a_cut.true c.is_newest_at_a_cut.ensures
      | else-is_newest_at_a_cut w ↦
          ap (λ v. shown v.items) w.kept-is
          ∙ kept_skip test c.args.versions.now c.loop-i.kept.items c.loop-i.i c.is_newest_at_a_cut.result c.loop-i.invariant c.loop-i-test.true w.if-is_newest_at_a_cut.false c.is_newest_at_a_cut.ensures
    ]
