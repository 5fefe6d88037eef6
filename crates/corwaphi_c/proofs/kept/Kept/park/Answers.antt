use Rattle.std.proofs.Common.{◌∙◌, refl}
use Rattle.corwaphi_c.proofs.Moving.{moved}
use Rattle.corwaphi_c.proofs.kept.Kept.park.Goals as goal

pub returns-clause-kept : goal.returns-clause-kept
returns-clause-kept c = (c.on-store.result.0, moved c.args.store c.on-store.result.0 _ c.on-store.ensures.store (c.new-parked.ensures.size ∙ c.sectors.ensures), refl)
