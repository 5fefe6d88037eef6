use Rattle.lsm_open.proofs.Rotating.{rotate_installs}
use Rattle.lsm_open.proofs.install_law.rotations_may_be_installed.Goals as goal

pub returns : goal.returns
returns c = λ p d o carried may new. rotate_installs p d o carried may new
