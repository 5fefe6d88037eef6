use Rattle.lsm_store.proofs.InstalledMemory.{inputs_held}
use Rattle.lsm_store.proofs.memory.Memory.install_to.Goals as goal

pub finish-ended-requires : goal.finish-ended-requires
finish-ended-requires g c = inputs_held c.args.self.now c.args.job c.requires.kept c.runs-runs.ensures.runs c.partition.ensures
