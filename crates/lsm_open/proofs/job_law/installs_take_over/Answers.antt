use Rattle.lsm_open.proofs.Taking.{flush_keeps, merge_keeps}
use Rattle.lsm_open.proofs.job_law.installs_take_over.Goals as goal

pub returns-clause-flush : goal.returns-clause-flush
returns-clause-flush c = λ p xs own ys start d next_table keeps are some installed. flush_keeps p xs own ys start d next_table keeps are some installed

pub returns-clause-merge : goal.returns-clause-merge
returns-clause-merge c = λ p xs own ys start d next_table runs x keeps are some installed. merge_keeps p xs own ys start d next_table runs x keeps are some installed
