use Rattle.std.proofs.Common.{ap, sym, refl, List, Result, Ok, Err, OnErr}
use Rattle.lsm_extent.specs.declared.extent.Extent.{Extent}
use Rattle.lsm_extent.specs.Area.{Area}
use Rattle.lsm_extent.proofs.Walking.{free_in_gap}
use Rattle.lsm_extent.proofs.Handing.{laid_with, with_extent_at}
use Rattle.lsm_extent.proofs.extents.Extents.claim.Goals as goal

-- what holds anyway holds at an error
on_err_from : {T E : Type 0} {P : Type 0} → (r : Result T E) → P → OnErr r P
on_err_from (Ok x) p = tt
on_err_from (Err e) p = p

pub returns-in_err-insert-clause-were_free : goal.returns-in_err-insert-clause-were_free
returns-in_err-insert-clause-were_free g c =
    let gap = rw c.deref.ensures.value at c.in-Some.ensures in
    on_err_from c.from_residual.result (rw (← c.self.view_is) (free_in_gap c.self.inside.held.items c.self.inside.blocks c.in-Some.place c.args.first c.args.blocks gap))

pub invariant_of-self-2 : goal.invariant_of-self-2
invariant_of-self-2 g c =
    let gap = rw c.deref.ensures.value at c.in-Some.ensures in
    rw c.in_ok-insert.ensures.items (laid_with c.self.inside.held.items c.self.inside.blocks c.in-Some.place (record { first = c.args.first; blocks = c.args.blocks }) c.requires.nonempty gap)

pub returns-clause-claimed : goal.returns-clause-claimed
returns-clause-claimed g c =
    let gap = rw c.deref.ensures.value at c.in-Some.ensures in
    (rw (← c.self.view_is) (free_in_gap c.self.inside.held.items c.self.inside.blocks c.in-Some.place c.args.first c.args.blocks gap), refl)

pub returns-clause-held : goal.returns-clause-held
returns-clause-held g c =
    let gap = rw c.deref.ensures.value at c.in-Some.ensures in
    rw (c.in_ok-insert.ensures.items, ← c.self.view_is)
    (ap (λ (held : List Extent). let area : Area = record { blocks = c.self.inside.blocks; held = held } in area) (sym (with_extent_at c.self.inside.held.items c.self.inside.blocks c.in-Some.place (record { first = c.args.first; blocks = c.args.blocks }) c.requires.nonempty gap)))
