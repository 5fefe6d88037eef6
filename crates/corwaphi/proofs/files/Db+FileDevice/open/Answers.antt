use Rattle.corwaphi.proofs.Opened.{was_opened}
use Rattle.corwaphi.proofs.files.Db+FileDevice.open.Goals as goal

pub returns-in-Ok : goal.returns-in-Ok
returns-in-Ok g c = was_opened c.args.options.cache _ c.over.result c.in-Ok.ensures.no_calls c.over.ensures
