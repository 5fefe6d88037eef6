use Rattle.std.proofs.Common.{sym, ap}
use Rattle.std.proofs.lemmas.Bool.{ltb-false}
use Rattle.std.proofs.lemmas.List.{drop_all}
use Rattle.lsm_extent.specs.Laid.{start_of}
use Rattle.lsm_extent.proofs.gaps.next_from.Goals as goal

pub returns-in-None : goal.returns-in-None
returns-in-None c = sym (ap (start_of c.args.area) (drop_all c.args.place c.args.held.now (ltb-false _ _ (sym c.in-None.ensures.lookup.0))))
