use Rattle.std.proofs.Common.{[], ◌∙◌, ◌+◌, ◌*◌, ◌<◌, ℕ, get_or, take, drop, ap, sym, subst, arith}
use Rattle.lsm_filter.specs.Bits.{filter_of}
use Rattle.lsm_table.specs.Division.{TableBlocks}
use Rattle.lsm_table.specs.Extents.{extent_size, extent_in_blocks, keys_of}
use Rattle.lsm_jobs.specs.Outputs.{placed_blocks}
use Rattle.lsm_jobs.proofs.Sectors.{block_here, none_at, here_ends, block_written}
use Rattle.lsm_jobs.proofs.outputs.write_one.Goals as goal

pub returns-in_default-clause-written : goal.returns-in_default-clause-written
returns-in_default-clause-written g c = absurd (none_at c.args.images.now c.args.tables.now 0 c.args.at c.requires.of c.requires.at (sym c.in_default.ensures.place))

pub block-bytes-requires : goal.block-bytes-requires
block-bytes-requires g c =
    let here = block_here c.args.images.now c.args.tables.now c.args.at c.in-Some.i c.in-Some.block c.requires.of c.in-Some.ensures.place in
    subst (λ (x : TableBlocks). c.in-Some.block < extent_size x) (sym c.index-images-i.is) (here.block c.index-images-i.result)

pub overflow_cast-block : goal.overflow_cast-block
overflow_cast-block g c =
    let here = block_here c.args.images.now c.args.tables.now c.args.at c.in-Some.i c.in-Some.block c.requires.of c.in-Some.ensures.place in
    omega (arith, g.met.D.Device.small c.args.device.now, here_ends c.args.images.now c.args.tables.now c.args.at c.in-Some.i c.in-Some.block (g.D.Device.medium c.args.device.now).size c.args.area c.first_block.result c.index-tables-i.result c.index-images-i.result here c.index-tables-i.is c.index-images-i.is c.requires.within c.first_block.ensures)

pub overflow_add-first_block : goal.overflow_add-first_block
overflow_add-first_block g c =
    let here = block_here c.args.images.now c.args.tables.now c.args.at c.in-Some.i c.in-Some.block c.requires.of c.in-Some.ensures.place in
    omega (arith, g.met.D.Device.small c.args.device.now, here_ends c.args.images.now c.args.tables.now c.args.at c.in-Some.i c.in-Some.block (g.D.Device.medium c.args.device.now).size c.args.area c.first_block.result c.index-tables-i.result c.index-images-i.result here c.index-tables-i.is c.index-images-i.is c.requires.within c.first_block.ensures)

pub overflow_mul-first_block : goal.overflow_mul-first_block
overflow_mul-first_block g c =
    let here = block_here c.args.images.now c.args.tables.now c.args.at c.in-Some.i c.in-Some.block c.requires.of c.in-Some.ensures.place in
    omega (arith, g.met.D.Device.small c.args.device.now, here_ends c.args.images.now c.args.tables.now c.args.at c.in-Some.i c.in-Some.block (g.D.Device.medium c.args.device.now).size c.args.area c.first_block.result c.index-tables-i.result c.index-images-i.result here c.index-tables-i.is c.index-images-i.is c.requires.within c.first_block.ensures)

pub overflow_add-area : goal.overflow_add-area
overflow_add-area g c =
    let here = block_here c.args.images.now c.args.tables.now c.args.at c.in-Some.i c.in-Some.block c.requires.of c.in-Some.ensures.place in
    omega (arith, g.met.D.Device.small c.args.device.now, here_ends c.args.images.now c.args.tables.now c.args.at c.in-Some.i c.in-Some.block (g.D.Device.medium c.args.device.now).size c.args.area c.first_block.result c.index-tables-i.result c.index-images-i.result here c.index-tables-i.is c.index-images-i.is c.requires.within c.first_block.ensures)

pub write_block-requires : goal.write_block-requires
write_block-requires g c =
    let here = block_here c.args.images.now c.args.tables.now c.args.at c.in-Some.i c.in-Some.block c.requires.of c.in-Some.ensures.place in
    here_ends c.args.images.now c.args.tables.now c.args.at c.in-Some.i c.in-Some.block (g.D.Device.medium c.args.device.now).size c.args.area c.first_block.result c.index-tables-i.result c.index-images-i.result here c.index-tables-i.is c.index-images-i.is c.requires.within c.first_block.ensures

pub returns-clause-written : goal.returns-clause-written
returns-clause-written g c =
    let here = block_here c.args.images.now c.args.tables.now c.args.at c.in-Some.i c.in-Some.block c.requires.of c.in-Some.ensures.place in
    let image = c.index-images-i.result in
    block_written c.args.area (c.args.area + 8 * (c.first_block.result + c.in-Some.block)) c.block-bytes.result (take 1 (drop c.args.at (placed_blocks c.args.tables.now))) _ c.write_block.result (g.D.Device.medium c.args.device.now) (g.D.Device.medium c.write_block.new.device)
    (here.one c.index-tables-i.result image c.index-tables-i.is c.index-images-i.is) (ap (λ (n : ℕ). c.args.area + 8 * (n + c.in-Some.block)) c.first_block.ensures)
    (c.block-bytes.ensures ∙ ap (λ (n : ℕ). get_or (extent_in_blocks n (filter_of (keys_of image)) image) c.in-Some.block []) c.number.ensures)
    c.write_block.ensures.moments c.write_block.ensures.pends c.write_block.ensures.faults c.write_block.ensures.stops c.write_block.ensures.same_size c.write_block.ensures.same_lasting
