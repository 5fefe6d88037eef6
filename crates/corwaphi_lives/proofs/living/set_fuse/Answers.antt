use Rattle.std.proofs.Common.{Option, ℕ, ap, sym, ◌∙◌}
use Rattle.lsm_device.specs.Memory.{medium_in}
use Rattle.lsm_lives.specs.Leading.{with_fuse}
use Rattle.corwaphi_lives.proofs.living.set_fuse.Goals as goal

pub returns-in-Some : goal.returns-in-Some
returns-in-Some c = c.fuse.ensures.noted ∙ ap (λ (f : Option ℕ). with_fuse f (medium_in c.args.device.now)) (sym c.in-Some.is)
