use Rattle.std.proofs.Common.{◌≡◌, ◌+◌, [], List, drop, get_or, sym, subst, arith}
use Rattle.std.proofs.lemmas.List.{append-nil, drop_all}
use Rattle.std.specs.Vec.Iter.{into_iter_items}
use Rattle.lsm_codec.specs.Versions.{Version}
use Rattle.lsm_table.specs.Division.{TableBlocks, IsTables}
use Rattle.lsm_table.specs.Counting.{EndTables}
use Rattle.lsm_table.proofs.Tables.{rest_input, next_end, made_more, none_left}
use Rattle.lsm_table.proofs.division.next_images.Goals as goal

pub next_image-requires-clause-ends : goal.next_image-requires-clause-ends
next_image-requires-clause-ends g c = (next_end (into_iter_items c.loop-len.left) c.args.lens.now c.loop-len.len-index c.loop-len-test.true c.loop-len.invariant.lens).0

pub loop-len-preserved : goal.loop-len-preserved
loop-len-preserved g c =
    let left = into_iter_items c.loop-len.left in
    let n = get_or c.args.lens.now c.loop-len.len-index 0 in
    let ends = next_end left c.args.lens.now c.loop-len.len-index c.loop-len-test.true c.loop-len.invariant.lens in
    let next = c.in_ok-next_image.ensures in
    record {
      input = rest_input left (into_iter_items c.next_image.new.left) n next.rest c.loop-len.invariant.input;
      lens = subst (λ (es : List Version). EndTables es (drop (c.loop-len.len-index + 1) c.args.lens.now)) (sym next.rest) ends.1;
      so_far = made_more (into_iter_items c.args.left.now) left (into_iter_items c.next_image.new.left) c.loop-len.images.items c.push.new.self.items n c.in_ok-next_image.field-0 c.in_ok-push.ensures.items c.loop-len.invariant.input ends.0 next c.loop-len.invariant.so_far;
    }

pub returns : goal.returns
returns g c =
    let left = into_iter_items c.loop-len.left in
    let none : left ≡ [] = subst (EndTables left) (drop_all c.loop-len.len-index c.args.lens.now (omega (arith, c.loop-len-test.false))) c.loop-len.invariant.lens in
    subst (λ (ts : List TableBlocks). IsTables (into_iter_items c.args.left.now) ts) (append-nil c.loop-len.images.items) (c.loop-len.invariant.so_far [] (none_left left none))
