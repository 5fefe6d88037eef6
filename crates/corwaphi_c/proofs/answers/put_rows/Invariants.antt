use Rattle.std.proofs.Common.{◌≡◌, ◌≤◌, ◌++◌, true, length, take}
use Rattle.std.specs.List.{flat_map, list_any}
use Rattle.corwaphi_c.specs.Pages.{is_wide, row_text}
use Rattle.corwaphi_c.proofs.answers.put_rows.Given as goal

abbrev pub invariant-loop-row : goal.invariant-loop-row
invariant-loop-row l = record {
  can : goal.iterator-loop-row.can_next l.row-iterator;
  finite : goal.iterator-loop-row.is_finite l.row-iterator;
  same : length l.room ≡ length l.fn.room;
  within : l.at ≤ length l.room;
  text : take l.at l.room ++ flat_map row_text l.row-iterator ≡ flat_map row_text l.fn.rows;
  wide : list_any is_wide l.row-iterator ≡ true → list_any is_wide l.fn.rows ≡ true;
}
