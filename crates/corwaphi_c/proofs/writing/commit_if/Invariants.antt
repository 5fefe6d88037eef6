use Rattle.corwaphi_c.proofs.writing.commit_if.Given as goal

abbrev pub ghost-new : goal.ghost-new
ghost-new g a = g.past
