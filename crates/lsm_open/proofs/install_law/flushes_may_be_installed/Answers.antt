use Rattle.lsm_open.proofs.Flushing.{flush_installs}
use Rattle.lsm_open.proofs.install_law.flushes_may_be_installed.Goals as goal

pub returns : goal.returns
returns c = λ p d next_table new carried are. flush_installs p d next_table new carried are
