use Rattle.corwaphi.proofs.Opened.{was_made}
use Rattle.corwaphi.proofs.files.Db+FileDevice.create.Goals as goal

pub returns-in-Ok : goal.returns-in-Ok
returns-in-Ok g c = was_made c.args.options.sectors c.args.options.cache _ c.over.result c.in-Ok.ensures c.over.ensures
