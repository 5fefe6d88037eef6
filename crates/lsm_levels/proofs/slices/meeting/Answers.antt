use Rattle.std.proofs.Common.{filter, ap, ◌∙◌}
use Rattle.lsm_levels.specs.Tables.{at_most}
use Rattle.lsm_levels.proofs.Runs.{run_filter}
use Rattle.lsm_levels.proofs.Searching.{filter_twice}
use Rattle.lsm_levels.proofs.slices.meeting.Goals as goal

pub count_up_to-requires : goal.count_up_to-requires
count_up_to-requires g c = rw c.ending_from-rest.ensures (run_filter (λ t. at_most c.args.first.now t.last) c.args.run.now c.requires)

pub returns : goal.returns
returns g c =
    c.count_up_to.ensures.passed
    ∙ ap (filter (λ t. at_most t.first c.args.last.now)) c.ending_from-rest.ensures
    ∙ filter_twice (λ t. at_most c.args.first.now t.last) (λ t. at_most t.first c.args.last.now) c.args.run.now
