use Rattle.lsm_merge.proofs.Steps.{newest_at_index}
use Rattle.lsm_merge.proofs.keeping.is_newest_at_a_cut.Goals as goal

pub returns : goal.returns
returns g c d = newest_at_index c.args.versions.now c.args.cuts.now c.args.i c.index-versions-i.result c.number.result c.number_before.result c.is_shown.result d c.number.ensures c.requires.ordered c.requires.within c.index-versions-i.is (c.number_before.ensures d) c.is_shown.ensures
