use Rattle.corwaphi_c.proofs.writing.put.Given as goal

abbrev pub ghost-commit_one : goal.ghost-commit_one
ghost-commit_one g a = g.past
