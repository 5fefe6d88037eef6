use Rattle.std.proofs.Common.{ap, ◌∙◌, subst}
use Rattle.lsm_codec.specs.BatchText.{IsBatch, batch_text}
use Rattle.lsm_codec.proofs.Spelled.{is_spelled}
use Rattle.lsm_codec.proofs.batch.Batch.text.Goals as goal

pub returns-clause-same : goal.returns-clause-same
returns-clause-same g c = c.deref.ensures.value ∙ (is_spelled c.self.inside.text.items c.self.invariant).1.1 ∙ ap batch_text c.self.view_is

pub returns-clause-fits : goal.returns-clause-fits
returns-clause-fits g c = subst IsBatch c.self.view_is (is_spelled c.self.inside.text.items c.self.invariant).1.0
