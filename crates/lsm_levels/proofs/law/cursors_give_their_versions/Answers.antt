use Rattle.lsm_levels.proofs.CursorGives.{cursor_law}
use Rattle.lsm_levels.proofs.law.cursors_give_their_versions.Goals as goal

pub returns : goal.returns
returns c = cursor_law
