use Rattle.std.proofs.Common.{◌∙◌, ap}
use Rattle.lsm_store.specs.LiveMarks.{is_count}
use Rattle.lsm_store.proofs.Cuts.{last_at}
use Rattle.lsm_store.proofs.counted.is_last.Goals as goal

pub returns-in-Some : goal.returns-in-Some
returns-in-Some c = ap (is_count c.args.count) (c.in-Some.ensures.value ∙ last_at c.args.counts.now)

pub returns-in-None : goal.returns-in-None
returns-in-None c = ap (is_count c.args.count) (c.in-None.ensures.value ∙ last_at c.args.counts.now)
