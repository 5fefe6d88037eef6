use Rattle.lsm_open.proofs.recovered.keep.Goals as goal

pub returns-clause-sealed : goal.returns-clause-sealed
returns-clause-sealed g c = rw c.deref.ensures.value at c.in_ok-sealed.ensures.sealed
