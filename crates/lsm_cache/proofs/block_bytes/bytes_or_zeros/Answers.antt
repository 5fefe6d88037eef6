use Rattle.std.proofs.Common.{refl}
use Rattle.lsm_cache.proofs.block_bytes.bytes_or_zeros.Goals as goal

pub returns-in-None : goal.returns-in-None
returns-in-None c = rw c.in-None.is refl
