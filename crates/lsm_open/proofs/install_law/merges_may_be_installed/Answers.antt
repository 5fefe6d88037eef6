use Rattle.lsm_open.proofs.Merging.{merge_installs}
use Rattle.lsm_open.proofs.install_law.merges_may_be_installed.Goals as goal

pub returns : goal.returns
returns c = λ p d next_table runs x new carried are. merge_installs p d next_table runs x new carried are
