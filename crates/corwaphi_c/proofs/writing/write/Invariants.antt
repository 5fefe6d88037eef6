use Rattle.corwaphi_c.proofs.writing.write.Given as goal

abbrev pub ghost-commit : goal.ghost-commit
ghost-commit g a = g.past
