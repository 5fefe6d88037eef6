use Rattle.lsm_extent.proofs.extents.Extents.longest_gap.Goals as goal

pub returns : goal.returns
returns g c =
    let longest = rw c.deref.ensures.value at c.longest_gap.ensures in
    rw (← c.self.view_is) longest
