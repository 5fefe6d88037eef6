use Rattle.std.proofs.Common.{◌∙◌, ap, sym, refl, length}
use Rattle.lsm_table.specs.Division.{entries_of}
use Rattle.lsm_table.proofs.Outlines.{edge_count}
use Rattle.lsm_table.proofs.image.Image.table_record.Goals as goal

pub returns-clause-of : goal.returns-clause-of
returns-clause-of g c = record {
  number = refl;
  data_blocks = c.data_blocks.ensures.count ∙ sym (edge_count c.args.self.now c.data_blocks.ensures.fits);
  index_blocks = c.index_blocks.ensures.count;
  entries = c.self.invariant.all ∙ ap (λ t. length (entries_of t)) c.self.view_is;
}
