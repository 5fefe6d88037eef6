use Rattle.lsm_serve.proofs.CourseLaws.{course}
use Rattle.lsm_serve.proofs.law.answered_lines_go_on.Goals as goal

pub returns : goal.returns
returns c = course c.steps_go_on.ensures
