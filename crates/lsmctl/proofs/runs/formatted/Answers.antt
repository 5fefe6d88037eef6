use Rattle.std.proofs.Common.{ℕ, refl, subst}
use Rattle.lsm_device.specs.Medium.{disk}
use Rattle.lsm_device.specs.Memory.{medium_in}
use Rattle.lsm_device.specs.Outcomes.{Leaves}
use Rattle.lsm_root.specs.CrashState.{formatted as empty_store}
use Rattle.lsm_open.specs.Image.{StandFor}
use Rattle.lsmctl.proofs.runs.formatted.Goals as goal

pub returns-in-Ok-clause-leaves : goal.returns-in-Ok-clause-leaves
returns-in-Ok-clause-leaves c = subst (λ (n : ℕ). Leaves (StandFor n empty_store) (disk (medium_in c.in-Ok.device))) c.log_sectors.ensures (c.in-Ok.ensures.leaves refl)
