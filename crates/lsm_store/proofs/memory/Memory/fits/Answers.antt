use Rattle.std.proofs.Common.{rules}
use Rattle.lsm_store.proofs.memory.Memory.fits.Goals as goal

pub returns-in-Some : goal.returns-in-Some
returns-in-Some g c = search rules
