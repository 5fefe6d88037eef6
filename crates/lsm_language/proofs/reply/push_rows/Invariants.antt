use Rattle.std.proofs.Common.{◌≡◌, ◌++◌, string_bytes, codes}
use Rattle.std.specs.List.{flat_map}
use Rattle.lsm_language.specs.Replies.{row_pair}
use Rattle.lsm_language.proofs.reply.push_rows.Given as goal

abbrev pub invariant-loop-row : goal.invariant-loop-row
invariant-loop-row l = record {
  can : goal.iterator-loop-row.can_next l.row-iterator;
  finite : goal.iterator-loop-row.is_finite l.row-iterator;
  added : string_bytes l.text ++ flat_map row_pair l.row-iterator ≡ string_bytes l.fn.text ++ (codes "rows " ++ flat_map row_pair l.page.rows);
}
