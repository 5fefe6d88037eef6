use Rattle.std.proofs.Common.{◌≡◌, None, ◌∙◌}
use Rattle.lsm_levels.specs.Pick.{flush_job}
use Rattle.lsm_levels.proofs.PickLaws.{flush_first, flush_held, no_flush_waits, merge_next, none_next}
use Rattle.lsm_levels.proofs.levels.Levels.pick.Goals as goal
use Rattle.lsm_levels.proofs.levels.Levels.pick.Goals.{else-waiting-via-then-waiting+else-not-has_flush, else-waiting-via-else-waiting}

pub returns-then-not-has_flush : goal.returns-then-not-has_flush
returns-then-not-has_flush g c = flush_first c.args.waiting c.has_flush.result c.args.self.now (g.H.HeldJobs.jobs c.args.held.now) c.if-waiting.true c.has_flush.ensures c.if-not-has_flush.true

pub returns-then-has_several : goal.returns-then-has_several
returns-then-has_several g c =
    let jobs = g.H.HeldJobs.jobs c.args.held.now in
    let no_flush : flush_job c.args.waiting jobs ≡ None = elim c.else-waiting.branch [
      | else-waiting-via-then-waiting+else-not-has_flush w ↦ flush_held c.args.waiting w.has_flush.result jobs w.has_flush.ensures w.if-not-has_flush.false
      | else-waiting-via-else-waiting w ↦ no_flush_waits c.args.waiting jobs w.if-waiting.false
    ] in
    none_next c.args.waiting c.has_several.result c.args.self.now jobs no_flush c.has_several.ensures c.if-has_several.true

pub returns : goal.returns
returns g c =
    let jobs = g.H.HeldJobs.jobs c.args.held.now in
    let no_flush : flush_job c.args.waiting jobs ≡ None = elim c.else-waiting.branch [
      | else-waiting-via-then-waiting+else-not-has_flush w ↦ flush_held c.args.waiting w.has_flush.result jobs w.has_flush.ensures w.if-not-has_flush.false
      | else-waiting-via-else-waiting w ↦ no_flush_waits c.args.waiting jobs w.if-waiting.false
    ] in
    c.next_merge.ensures ∙ merge_next c.args.waiting c.has_several.result c.args.self.now jobs no_flush c.has_several.ensures c.if-has_several.false
