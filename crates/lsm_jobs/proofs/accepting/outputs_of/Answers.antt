use Rattle.std.proofs.Common.{◌≡◌, List, refl, subst, arith}
use Rattle.std.specs.Arc.{arc_value}
use Rattle.lsm_table.specs.Division.{TableBlocks}
use Rattle.lsm_jobs.specs.Placing.{ArePlaced}
use Rattle.lsm_jobs.specs.Outputs.{AreTablesOf}
use Rattle.lsm_jobs.proofs.Accepted.{tables_of, placed_count, fewer_free, has_room, all_inside}
use Rattle.lsm_jobs.proofs.accepting.outputs_of.Goals as goal

pub overflow_sub-left : goal.overflow_sub-left
overflow_sub-left g c =
    omega (
      arith,
      c.free_blocks.ensures,
      c.free_blocks-free.ensures,
      fewer_free c.in_ok-tables.tables.items c.args.extents.now c.place_all.new.extents c.partition.ensures c.partition-2.ensures c.in_ok-tables.ensures.taken,
    )

pub new-requires-clause-placed : goal.new-requires-clause-placed
new-requires-clause-placed g c =
    let list : c.as_slice.result.now ≡ (arc_value c.in_ok-shared.shared).items = rw (c.as_slice.ensures.value, c.deref.ensures, c.in_ok-shared.ensures) refl in
    subst (λ (images : List TableBlocks). AreTablesOf images c.in_ok-tables.tables.items) list (tables_of c.args.number c.args.extents.now c.as_slice.result.now c.in_ok-tables.tables.items c.in_ok-tables.ensures.placed)

pub new-requires-clause-left : goal.new-requires-clause-left
new-requires-clause-left g c =
    let of = tables_of c.args.number c.args.extents.now c.as_slice.result.now c.in_ok-tables.tables.items c.in_ok-tables.ensures.placed in
    omega (
      arith,
      c.free_blocks.ensures,
      c.free_blocks-free.ensures,
      fewer_free c.in_ok-tables.tables.items c.args.extents.now c.place_all.new.extents c.partition.ensures c.partition-2.ensures c.in_ok-tables.ensures.taken,
      placed_count c.as_slice.result.now c.in_ok-tables.tables.items of,
    )

pub returns-clause-placing : goal.returns-clause-placing
returns-clause-placing g c =
    let list : c.as_slice.result.now ≡ (arc_value c.args.images.now).items = rw (c.as_slice.ensures.value, c.deref.ensures) refl in
    let placed : ArePlaced c.args.number c.args.extents.now (arc_value c.args.images.now).items c.in_ok-tables.tables.items =
    subst (λ (images : List TableBlocks). ArePlaced c.args.number c.args.extents.now images c.in_ok-tables.tables.items) list c.in_ok-tables.ensures.placed in
    rw c.new.ensures (record {
      placed = placed;
      room = has_room c.args.number c.args.extents.now (arc_value c.args.images.now).items c.in_ok-tables.tables.items placed;
      taken = c.in_ok-tables.ensures.taken;
      held = c.in_ok-tables.ensures.held;
      inside = all_inside c.args.number c.args.extents.now.blocks c.args.extents.now (arc_value c.args.images.now).items c.in_ok-tables.tables.items refl placed;
    })

pub returns-clause-shown : goal.returns-clause-shown
returns-clause-shown g c =
    let of = tables_of c.args.number c.args.extents.now c.as_slice.result.now c.in_ok-tables.tables.items c.in_ok-tables.ensures.placed in
    rw c.new.ensures (
      c.in_ok-input.ensures,
      omega (
        arith,
        c.free_blocks.ensures,
        c.free_blocks-free.ensures,
        fewer_free c.in_ok-tables.tables.items c.args.extents.now c.place_all.new.extents c.partition.ensures c.partition-2.ensures c.in_ok-tables.ensures.taken,
        placed_count c.as_slice.result.now c.in_ok-tables.tables.items of,
      ),
    )
