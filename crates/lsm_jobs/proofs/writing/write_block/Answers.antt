use Rattle.std.proofs.Common.{rules}
use Rattle.lsm_device.proofs.WrittenRuns.{moments_of, pends_of, written_of, fault_of}
use Rattle.lsm_jobs.proofs.writing.write_block.Goals as goal

pub returns-in_err-write_run-clause-moments : goal.returns-in_err-write_run-clause-moments
returns-in_err-write_run-clause-moments g c = λ t. moments_of 8 c.args.block.now c.told-block c.args.sector _ _ _ (c.write_run.ensures.moments t)

pub returns-in_err-write_run-clause-calls : goal.returns-in_err-write_run-clause-calls
returns-in_err-write_run-clause-calls g c = (fault_of 8 c.args.block.now c.told-block _ _ c.in_err-write_run.ensures.faulted).at_most

pub returns-in_err-write_run-clause-faults : goal.returns-in_err-write_run-clause-faults
returns-in_err-write_run-clause-faults g c =
    let one = (fault_of 8 c.args.block.now c.told-block _ _ c.in_err-write_run.ensures.faulted).one_fault in
    search rules

pub returns-clause-moments : goal.returns-clause-moments
returns-clause-moments g c = λ t. moments_of 8 c.args.block.now c.told-block c.args.sector _ _ _ (c.write_run.ensures.moments t)

pub returns-clause-pends : goal.returns-clause-pends
returns-clause-pends g c = λ t. pends_of 8 c.args.block.now c.told-block c.args.sector _ _ (c.in_ok-write_run.ensures.pends t)

pub returns-clause-calls : goal.returns-clause-calls
returns-clause-calls g c = (written_of 8 c.args.block.now c.told-block _ _ c.in_ok-write_run.ensures.counted).at_most

pub returns-clause-faults : goal.returns-clause-faults
returns-clause-faults g c = (written_of 8 c.args.block.now c.told-block _ _ c.in_ok-write_run.ensures.counted).no_fault
