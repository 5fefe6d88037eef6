use Rattle.lsm_filter.proofs.filter.Filter.from_block.Goals as goal

pub returns : goal.returns
returns g c = c.in_ok-bits.ensures.items
