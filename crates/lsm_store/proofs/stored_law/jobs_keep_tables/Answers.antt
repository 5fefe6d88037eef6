use Rattle.lsm_store.proofs.KeptJobs.{one_more_placed, more_written, written_each, one_dropped, commit_keeps, sync_keeps, rotate_keeps, flush_taken, merge_taken}
use Rattle.lsm_store.proofs.stored_law.jobs_keep_tables.Goals as goal

pub returns-clause-placed : goal.returns-clause-placed
returns-clause-placed c = one_more_placed

pub returns-clause-written : goal.returns-clause-written
returns-clause-written c = more_written

pub returns-clause-moments : goal.returns-clause-moments
returns-clause-moments c = written_each

pub returns-clause-dropped : goal.returns-clause-dropped
returns-clause-dropped c = one_dropped

pub returns-clause-committed : goal.returns-clause-committed
returns-clause-committed c = commit_keeps

pub returns-clause-synced : goal.returns-clause-synced
returns-clause-synced c = sync_keeps

pub returns-clause-rotated : goal.returns-clause-rotated
returns-clause-rotated c = rotate_keeps

pub returns-clause-flush : goal.returns-clause-flush
returns-clause-flush c = flush_taken

pub returns-clause-merge : goal.returns-clause-merge
returns-clause-merge c = merge_taken
