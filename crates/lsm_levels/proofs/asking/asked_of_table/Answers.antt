use Rattle.std.proofs.Common.{◌<◌, length, sym, ap, arith}
use Rattle.lsm_table.specs.Outlines.{Outline}
use Rattle.lsm_levels.proofs.AskedLaws.{place_within, asked_by_hash, filtered_out, let_through}
use Rattle.lsm_levels.proofs.asking.asked_of_table.Goals as goal

pub overflow_cast-name : goal.overflow_cast-name
overflow_cast-name g c =
    let t = c.args.table.now.outline in
    let within : c.in_ok-place.place < length t.edges = place_within t.first t.edges c.args.query.now.key.now c.args.query.now.at c.in_ok-place.place (sym (rw c.table-told.ensures.same at c.in_ok-place.ensures.place)) in
    omega (arith, within, ap (λ (o : Outline). length o.edges) c.table-told.ensures.same, c.data_blocks-blocks.ensures.count, c.data_blocks-blocks.ensures.high)

pub overflow_cast-result : goal.overflow_cast-result
overflow_cast-result g c =
    let t = c.args.table.now.outline in
    let within : c.in_ok-place.place < length t.edges = place_within t.first t.edges c.args.query.now.key.now c.args.query.now.at c.in_ok-place.place (sym (rw c.table-told.ensures.same at c.in_ok-place.ensures.place)) in
    omega (arith, within, ap (λ (o : Outline). length o.edges) c.table-told.ensures.same, c.data_blocks-blocks.ensures.count, c.data_blocks-blocks.ensures.high)

pub overflow_add-result : goal.overflow_add-result
overflow_add-result g c =
    let t = c.args.table.now.outline in
    let within : c.in_ok-place.place < length t.edges = place_within t.first t.edges c.args.query.now.key.now c.args.query.now.at c.in_ok-place.place (sym (rw c.table-told.ensures.same at c.in_ok-place.ensures.place)) in
    omega (arith, within, c.requires.ends, c.first_block.ensures)

pub overflow_mul-result : goal.overflow_mul-result
overflow_mul-result g c =
    let t = c.args.table.now.outline in
    let within : c.in_ok-place.place < length t.edges = place_within t.first t.edges c.args.query.now.key.now c.args.query.now.at c.in_ok-place.place (sym (rw c.table-told.ensures.same at c.in_ok-place.ensures.place)) in
    omega (arith, within, c.requires.ends, c.first_block.ensures)

pub overflow_add-result-2 : goal.overflow_add-result-2
overflow_add-result-2 g c =
    let t = c.args.table.now.outline in
    let within : c.in_ok-place.place < length t.edges = place_within t.first t.edges c.args.query.now.key.now c.args.query.now.at c.in_ok-place.place (sym (rw c.table-told.ensures.same at c.in_ok-place.ensures.place)) in
    omega (arith, within, c.requires.ends, c.first_block.ensures)

pub returns-then-not-perhaps_hashed : goal.returns-then-not-perhaps_hashed
returns-then-not-perhaps_hashed g c =
    let q = c.args.query.now in
    let tested = asked_by_hash c.table-told.result.now.filter q.key.now q.hash c.perhaps_hashed.result q.hashed c.perhaps_hashed.ensures in
    filtered_out q.area q.key.now q.at c.args.table.now c.table-told.result.now c.perhaps_hashed.result c.table-told.ensures.same tested c.if-not-perhaps_hashed.true

pub returns : goal.returns
returns g c =
    let q = c.args.query.now in
    let tested = asked_by_hash c.table-told.result.now.filter q.key.now q.hash c.perhaps_hashed.result q.hashed c.perhaps_hashed.ensures in
    let_through q.area q.key.now q.at c.args.table.now c.table-told.result.now c.perhaps_hashed.result c.table-told.ensures.same tested
    c.in_ok-place.place c.number.result c.first_block.result c.if-not-perhaps_hashed.false c.in_ok-place.ensures.place c.number.ensures c.first_block.ensures
