use Rattle.std.proofs.Common.{◌≡◌, ◌++◌, string_bytes}
use Rattle.std.specs.List.{flat_map}
use Rattle.lsmctl.specs.Replies.{row_line}
use Rattle.lsmctl.proofs.reply.push_row_lines.Given as goal

abbrev pub invariant-loop-row : goal.invariant-loop-row
invariant-loop-row l = record {
  can : goal.iterator-loop-row.can_next l.row-iterator;
  finite : goal.iterator-loop-row.is_finite l.row-iterator;
  added : string_bytes l.text ++ flat_map row_line l.row-iterator ≡ string_bytes l.fn.text ++ flat_map row_line l.page.rows;
}
