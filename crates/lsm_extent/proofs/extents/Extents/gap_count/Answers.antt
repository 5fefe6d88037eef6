use Rattle.lsm_extent.proofs.extents.Extents.gap_count.Goals as goal

pub returns : goal.returns
returns g c =
    let count = rw c.deref.ensures.value at c.count_gaps.ensures in
    rw (← c.self.view_is) count
