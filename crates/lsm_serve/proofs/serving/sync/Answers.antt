use Rattle.std.proofs.Common.{◌∙◌, Err, ap}
use Rattle.lsm_serve.proofs.ServingLaws.{synced-done, synced-stopped}
use Rattle.lsm_serve.proofs.serving.sync.Goals as goal

pub returns-in-Ok : goal.returns-in-Ok
returns-in-Ok g c = synced-done c.sync.result _ _ c.sync.ensures.serves c.in-Ok.is

pub returns-in-Err-Stopped : goal.returns-in-Err-Stopped
returns-in-Err-Stopped g c = synced-stopped c.sync.result _ _ c.sync.ensures.serves (c.in-Err-Stopped.is ∙ ap Err c.in-Err-Stopped.field-0-is)
