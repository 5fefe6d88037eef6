use Rattle.std.proofs.Common.{rules, ◌∙◌}
use Rattle.lsm_trail.proofs.Moves.{begins}
use Rattle.lsm_trail.proofs.opened.open_board.Goals as goal

pub of_words-requires : goal.of_words-requires
of_words-requires g c = begins _ _ c.requires.1 (c.as_slice.ensures.value ∙ search rules)
