use Rattle.std.proofs.Common.{ap, length, arith, List}
use Rattle.lsm_extent.specs.declared.extent.Extent.{Extent}
use Rattle.lsm_extent.specs.Area.{Area}
use Rattle.lsm_extent.proofs.Searching.{firsts_rise}
use Rattle.lsm_extent.proofs.ExtentLaws.{taken_out}
use Rattle.lsm_extent.proofs.extents.Extents.give.Goals as goal

pub begun_before-place-requires : goal.begun_before-place-requires
begun_before-place-requires g c = rw c.deref.ensures.value (firsts_rise 0 c.self.inside.blocks c.self.inside.held.items c.self.invariant)

pub remove-requires : goal.remove-requires
remove-requires g c =
    let split = rw c.deref.ensures.value at c.begun_before-place.ensures.split in
    let among = rw (← c.self.view_is) at c.requires in
    omega (arith, c.deref.ensures.len, ap length c.deref.ensures.value, (taken_out c.self.inside.blocks c.begun_before-place.result c.args.extent c.self.inside.held.items c.self.invariant among split).within)

pub invariant_of-self : goal.invariant_of-self
invariant_of-self g c =
    let split = rw c.deref.ensures.value at c.begun_before-place.ensures.split in
    let among = rw (← c.self.view_is) at c.requires in
    rw c.remove.ensures.items (taken_out c.self.inside.blocks c.begun_before-place.result c.args.extent c.self.inside.held.items c.self.invariant among split).laid

pub returns-clause-given : goal.returns-clause-given
returns-clause-given g c =
    let split = rw c.deref.ensures.value at c.begun_before-place.ensures.split in
    let among = rw (← c.self.view_is) at c.requires in
    rw (c.remove.ensures.items, ← c.self.view_is)
    (ap (λ (held : List Extent). let area : Area = record { blocks = c.self.inside.blocks; held = held } in area) (taken_out c.self.inside.blocks c.begun_before-place.result c.args.extent c.self.inside.held.items c.self.invariant among split).given)

pub returns-clause-frees : goal.returns-clause-frees
returns-clause-frees g c =
    let split = rw c.deref.ensures.value at c.begun_before-place.ensures.split in
    let among = rw (← c.self.view_is) at c.requires in
    rw (c.remove.ensures.items, ← c.self.view_is) (taken_out c.self.inside.blocks c.begun_before-place.result c.args.extent c.self.inside.held.items c.self.invariant among split).frees
