use Rattle.std.proofs.Common.{length, map, ap, arith}
use Rattle.std.proofs.lemmas.List.{length-map}
use Rattle.lsm_table.proofs.Outlines.{few_blocks}
use Rattle.lsm_table.proofs.image.Image.new.Goals as goal

pub index_of-requires : goal.index_of-requires
index_of-requires g c = omega (arith, few_blocks (map (λ b. b.items) c.args.blocks.items) c.requires.table, length-map c.args.blocks.items (λ b. b.items), ap (λ bs. length bs) c.deref.ensures.value)
