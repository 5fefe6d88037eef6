use Rattle.std.proofs.Common.{ap}
use Rattle.lsm_merge.specs.Inputs.{MergeInput}
use Rattle.lsm_merge.proofs.input.Input.is_bottom.Goals as goal

pub returns : goal.returns
returns g c = ap (λ (i : MergeInput). i.bottom) c.self.view_is
