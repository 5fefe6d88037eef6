use Rattle.std.proofs.Common.{Some, ◌∙◌}
use Rattle.lsm_store.specs.Backing.{machine_of}
use Rattle.lsm_machine.specs.Work.{Take}
use Rattle.lsm_shared.proofs.Giving.{stat_tells, stopped_gives, told_by}
use Rattle.lsm_shared.proofs.working.gives_none.Goals as goal

pub returns-then-is_err : goal.returns-then-is_err
returns-then-is_err g c =
    let m = machine_of c.args.store.now in
    stopped_gives m (Take (Some c.args.choice)) (stat_tells m _ _ c.stat.ensures c.is_err.ensures.value ∙ c.if-is_err.true)

pub returns : goal.returns
returns g c =
    let m = machine_of c.args.store.now in
    told_by m (Some c.args.choice) c.has_job.result (stat_tells m _ _ c.stat.ensures c.is_err.ensures.value ∙ c.if-is_err.false) c.has_job.ensures
