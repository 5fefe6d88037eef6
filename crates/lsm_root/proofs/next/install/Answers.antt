use Rattle.lsm_device.proofs.Moments.{started}
use Rattle.lsm_root.proofs.Switched.{none_leaves}
use Rattle.lsm_root.proofs.next.install.Goals as goal

pub returns-in_err-next-clause-any_moment : goal.returns-in_err-next-clause-any_moment
returns-in_err-next-clause-any_moment g c = λ t. started _ _ (none_leaves _ _ (c.requires.ready t).settled)
