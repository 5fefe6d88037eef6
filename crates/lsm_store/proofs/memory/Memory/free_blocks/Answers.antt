use Rattle.std.proofs.Common.{◌∙◌}
use Rattle.lsm_store.specs.Memory.{work_of}
use Rattle.lsm_store.proofs.Stats.{free_in_no_table}
use Rattle.lsm_store.proofs.memory.Memory.free_blocks.Goals as goal

pub returns : goal.returns
returns g c = c.free_blocks.ensures ∙ free_in_no_table (work_of c.args.self.now) c.partition.ensures c.requires.jobs.accounted
