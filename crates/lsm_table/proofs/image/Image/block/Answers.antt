use Rattle.std.proofs.Common.{◌∙◌, ◌-◌, ◌*◌, ℕ, List, length, take, drop, ap, sym, arith}
use Rattle.std.proofs.lemmas.List.{take_all}
use Rattle.lsm_codec.specs.Indexes.{index_blocks}
use Rattle.lsm_codec.proofs.IndexLaws.{length-index_blocks}
use Rattle.lsm_filter.specs.Bits.{filter_of}
use Rattle.lsm_table.specs.BlockEdges.{edges_of}
use Rattle.lsm_table.specs.Extents.{keys_of}
use Rattle.lsm_table.proofs.Blocked.{at_data, at_filter, at_index, at_footer}
use Rattle.lsm_table.proofs.image.Image.block.Goals as goal

pub returns-then-at-data : goal.returns-then-at-data
returns-then-at-data g c =
    c.data_block.ensures ∙ sym (at_data c.args.number (filter_of (keys_of c.args.self.now)) c.args.self.now c.args.at (omega (arith, c.if-at-data.true, c.data_blocks-data.ensures.count)))

pub returns-then-at-data-2 : goal.returns-then-at-data-2
returns-then-at-data-2 g c =
    let whole = take_all 4096 c.block.result.now (omega (arith, c.block.ensures.whole)) in
    c.block_at.ensures ∙ whole ∙ c.block.ensures.bytes ∙ c.filter.ensures.built
    ∙ sym (at_filter c.args.number (filter_of (keys_of c.args.self.now)) c.args.self.now c.args.at (omega (arith, c.if-at-data-2.true, c.data_blocks-data.ensures.count)))

pub block_at-requires-then-at-data-3-clause-inside : goal.block_at-requires-then-at-data-3-clause-inside
block_at-requires-then-at-data-3-clause-inside g c =
    omega (arith, ap length c.index.ensures, length-index_blocks (edges_of c.args.self.now), c.if-at-data-3.true, c.index_blocks.ensures.count, c.if-at-data.false, c.if-at-data-2.false)

pub returns-then-at-data-3 : goal.returns-then-at-data-3
returns-then-at-data-3 g c =
    c.block_at-then-at-data-3.ensures
    ∙ ap (λ (bs : List ℕ). take 4096 (drop (4096 * (c.args.at - c.data_blocks-data.result - 1)) bs)) c.index.ensures
    ∙ ap (λ (n : ℕ). take 4096 (drop (4096 * (c.args.at - n - 1)) (index_blocks (edges_of c.args.self.now)))) c.data_blocks-data.ensures.count
    ∙ sym (at_index c.args.number (filter_of (keys_of c.args.self.now)) c.args.self.now c.args.at
    (omega (arith, c.if-at-data.false, c.if-at-data-2.false, c.data_blocks-data.ensures.count))
    (omega (arith, c.if-at-data-3.true, c.index_blocks.ensures.count, c.data_blocks-data.ensures.count)))

pub returns : goal.returns
returns g c =
    c.footer.ensures
    ∙ sym (at_footer c.args.number (filter_of (keys_of c.args.self.now)) c.args.self.now c.args.at
    (omega (arith, c.if-at-data-3.false, c.index_blocks.ensures.count, c.data_blocks-data.ensures.count)) c.requires)
