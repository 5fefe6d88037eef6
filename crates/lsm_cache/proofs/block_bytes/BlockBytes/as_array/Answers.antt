use Rattle.lsm_cache.proofs.block_bytes.BlockBytes.as_array.Goals as goal

pub returns-in-Some : goal.returns-in-Some
returns-in-Some g c = rw (← c.self.view_is, c.in-Some.is) c.deref.ensures

pub returns-in-None : goal.returns-in-None
returns-in-None g c = rw (← c.self.view_is, c.in-None.is) c.bytes_or_zeros.ensures
