use Rattle.std.proofs.Common.{Option, ℕ, ap, sym, ◌∙◌}
use Rattle.lsm_device.specs.Memory.{medium_in}
use Rattle.lsm_lives.specs.Leading.{with_fuse}
use Rattle.lsm_lives.proofs.living.set_fuse.Goals as goal

pub returns-in-Some-clause-fuse : goal.returns-in-Some-clause-fuse
returns-in-Some-clause-fuse g c = λ some. c.fuse.ensures.fuse ∙ sym c.in-Some.is

pub returns-in-Some-clause-medium : goal.returns-in-Some-clause-medium
returns-in-Some-clause-medium g c = c.fuse.ensures.noted ∙ ap (λ (f : Option ℕ). with_fuse f (medium_in c.args.device.now)) (sym c.in-Some.is)
