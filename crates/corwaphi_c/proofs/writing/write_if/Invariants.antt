use Rattle.corwaphi_c.proofs.writing.write_if.Given as goal

abbrev pub ghost-commit_if : goal.ghost-commit_if
ghost-commit_if g a = g.past
