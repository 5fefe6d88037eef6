-- Hulls of tables, from the last table to the first.
use Rattle.std.specs.Prelude.{List, [], ◌∷◌, Option, Some}
use Rattle.lsm_levels.specs.Tables.{Table, KeyRange, spanned}
use Rattle.lsm_levels.specs.declared.hulls.KeyRange as shown

-- the range that two keys show
abbrev pub range_shown : shown.KeyRange → KeyRange
range_shown range = record { first = range.first.now; last = range.last.now }

-- the hull of tables and of a range
abbrev pub hull_onto : List Table → Option KeyRange → Option KeyRange
hull_onto [] rest = rest
hull_onto (t ∷ tables) rest = Some (spanned t (hull_onto tables rest))
