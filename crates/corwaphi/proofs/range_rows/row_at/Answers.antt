use Rattle.std.proofs.Common.{List, ap, ◌∙◌}
use Rattle.std.specs.Prelude.{slice_get}
use Rattle.lsm_codec.specs.Keys.{Bytes}
use Rattle.corwaphi.proofs.AdvancingLaws.{is_first}
use Rattle.corwaphi.proofs.range_rows.row_at.Goals as goal

pub returns-clause-first : goal.returns-clause-first
returns-clause-first c = is_first c.args.page.now.rows c.args.told _ (c.get.ensures ∙ ap (λ (rows : List (Bytes × Bytes)). slice_get rows c.args.told) c.rows-rows.ensures)
