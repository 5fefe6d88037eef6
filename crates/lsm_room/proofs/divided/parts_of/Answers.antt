use Rattle.std.proofs.Common.{◌≡◌, ap, ◌∙◌, arith}
use Rattle.lsm_table.specs.Outlines.{Outline}
use Rattle.lsm_table.specs.Places.{blocks_before}
use Rattle.lsm_room.proofs.Parts.{before_few, parts_enough}
use Rattle.lsm_room.proofs.divided.parts_of.Goals as goal

pub returns : goal.returns
returns g c =
    let before : c.blocks_before-before.result ≡ blocks_before c.args.key.now c.args.table.now.outline.edges = c.blocks_before-before.ensures ∙ ap (λ (o : Outline). blocks_before c.args.key.now o.edges) c.table.ensures.same in
    let few = before_few c.args.key.now c.args.table.now.outline.edges in
    parts_enough c.args.live c.args.key.now c.args.table.now c.outputs_for-front.result c.outputs_for.result c.beside.result c.saturating_add.result c.max-behind.result c.from-entries.result
    (record {
      front_data = omega (arith, before, few, c.data_of.ensures.count, c.data_of.ensures.few, c.saturating_add.ensures);
      back_data = omega (arith, before, few, c.data_of.ensures.count, c.saturating_sub.ensures, c.max-behind.ensures);
      entries = omega (arith, c.from-entries.ensures, c.entries.ensures.count, ap (λ (o : Outline). o.entries) c.table-2.ensures.same);
      front = c.outputs_for-front.ensures.enough;
      back = c.outputs_for.ensures.enough;
      beside = c.beside.ensures;
    })
