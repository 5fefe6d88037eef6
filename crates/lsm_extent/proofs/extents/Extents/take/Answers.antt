use Rattle.std.proofs.Common.{ap, sym, List}
use Rattle.lsm_extent.specs.declared.extent.Extent.{Extent}
use Rattle.lsm_extent.specs.Area.{Area}
use Rattle.lsm_extent.proofs.Handing.{laid_with, with_extent_at}
use Rattle.lsm_extent.proofs.extents.Extents.take.Goals as goal

pub invariant_of-self-2 : goal.invariant_of-self-2
invariant_of-self-2 g c =
    let gap = rw c.deref.ensures.value at c.in-Some.ensures in
    rw c.in_ok-insert.ensures.items (laid_with c.self.inside.held.items c.self.inside.blocks c.in-Some.gap.place _ c.requires.nonempty gap.0)

pub returns-clause-held : goal.returns-clause-held
returns-clause-held g c =
    let gap = rw c.deref.ensures.value at c.in-Some.ensures in
    rw (c.in_ok-insert.ensures.items, ← c.self.view_is)
    (ap (λ (held : List Extent). let area : Area = record { blocks = c.self.inside.blocks; held = held } in area) (sym (with_extent_at c.self.inside.held.items c.self.inside.blocks c.in-Some.gap.place _ c.requires.nonempty gap.0)))
