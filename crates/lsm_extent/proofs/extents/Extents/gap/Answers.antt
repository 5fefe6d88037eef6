use Rattle.lsm_extent.proofs.extents.Extents.gap.Goals as goal

pub returns : goal.returns
returns g c =
    let gap = rw c.deref.ensures.value at c.gap_at.ensures in
    rw (← c.self.view_is) gap
