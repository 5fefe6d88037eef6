use Rattle.std.proofs.Common.{◌∙◌, sym}
use Rattle.lsm_merge.proofs.Placing.{takes_less, takes_equal, takes_greater}
use Rattle.lsm_merge.proofs.merging.first_of.Goals as goal

pub returns-in-Less : goal.returns-in-Less
returns-in-Less g c = takes_less _ _ c.index-left-0.result c.index-right-0.result (record { left_ordered = c.requires.left_ordered; right_ordered = c.requires.right_ordered; left_has_one = c.requires.left_has_one; right_has_one = c.requires.right_has_one; left_first = c.index-left-0.is; right_first = c.index-right-0.is }) (sym c.compare.ensures ∙ c.in-Less.is)

pub returns-in-Equal : goal.returns-in-Equal
returns-in-Equal g c = takes_equal _ _ c.index-left-0.result c.index-right-0.result (record { left_ordered = c.requires.left_ordered; right_ordered = c.requires.right_ordered; left_has_one = c.requires.left_has_one; right_has_one = c.requires.right_has_one; left_first = c.index-left-0.is; right_first = c.index-right-0.is }) (sym c.compare.ensures ∙ c.in-Equal.is)

pub returns-in-Greater : goal.returns-in-Greater
returns-in-Greater g c = takes_greater _ _ c.index-left-0.result c.index-right-0.result (record { left_ordered = c.requires.left_ordered; right_ordered = c.requires.right_ordered; left_has_one = c.requires.left_has_one; right_has_one = c.requires.right_has_one; left_first = c.index-left-0.is; right_first = c.index-right-0.is }) (sym c.compare.ensures ∙ c.in-Greater.is)
