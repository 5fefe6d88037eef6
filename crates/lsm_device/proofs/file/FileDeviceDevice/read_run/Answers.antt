use Rattle.lsm_device.proofs.Answered.{on_ok_by, on_err_by}
use Rattle.lsm_device.proofs.file.FileDeviceDevice.read_run.Goals as goal

pub returns-clause-counted : goal.returns-clause-counted
returns-clause-counted c = on_ok_by c.answer.result c.keep-ok.result c.answer.ensures c.count_read_run.ensures.counted

pub returns-clause-faulted : goal.returns-clause-faulted
returns-clause-faulted c = on_err_by c.answer.result c.keep-ok.result c.answer.ensures c.count_read_run.ensures.faulted
