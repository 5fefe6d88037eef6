use Rattle.lsm_log.proofs.Epochs.{later_is_free, blank_is_not_above, none_above_more, above_crash, above_sync, above_elsewhere, above_by_log}
use Rattle.lsm_log.proofs.region.epoch_laws.Goals as goal

pub returns-clause-free : goal.returns-clause-free
returns-clause-free c = later_is_free

pub returns-clause-blank : goal.returns-clause-blank
returns-clause-blank c = blank_is_not_above

pub returns-clause-later : goal.returns-clause-later
returns-clause-later c = none_above_more

pub returns-clause-crash : goal.returns-clause-crash
returns-clause-crash c = above_crash

pub returns-clause-sync : goal.returns-clause-sync
returns-clause-sync c = above_sync

pub returns-clause-elsewhere : goal.returns-clause-elsewhere
returns-clause-elsewhere c = λ generation from count d ws none outside. above_elsewhere generation from count d none ws outside

pub returns-clause-by_log : goal.returns-clause-by_log
returns-clause-by_log c = λ generation from count d new log none reached grown. above_by_log generation from count d none new log reached grown
