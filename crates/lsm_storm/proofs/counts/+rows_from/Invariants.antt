use Rattle.lsm_storm.proofs.counts.+rows_from.Given as goal

abbrev pub decreases-rows_from : goal.decreases-rows_from
decreases-rows_from l = l.pages
