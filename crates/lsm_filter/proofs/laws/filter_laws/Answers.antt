use Rattle.lsm_filter.proofs.Same.{filter_laws_hold}
use Rattle.lsm_filter.proofs.laws.filter_laws.Goals as goal

pub returns : goal.returns
returns c = filter_laws_hold
