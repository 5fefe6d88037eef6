use Rattle.std.proofs.Common.{sym, ◌∙◌}
use Rattle.lsm_codec.specs.Footers.{summary_of}
use Rattle.lsm_table.proofs.Outlines.{is_outline}
use Rattle.lsm_table.proofs.table.Table.open_with.Goals as goal

pub invariant_of-result : goal.invariant_of-result
invariant_of-result g c = is_outline c.args.table (summary_of c.args.footer.now) c.in_ok-first.first c.args.index c.in_ok-filter.filter c.requires.footer c.requires.index c.in_ok-first.ensures (sym c.go_together.ensures ∙ c.if-not-go_together.false)
