use Rattle.corwaphi.proofs.Opened.{either_made, either_opened}
use Rattle.corwaphi.proofs.files.Db+FileDevice.open_or_create.Goals as goal

pub returns-then-is_missing : goal.returns-then-is_missing
returns-then-is_missing g c = either_made c.args.options.sectors c.args.options.cache c.create.result c.create.ensures

pub returns : goal.returns
returns g c = either_opened c.args.options.sectors c.args.options.cache c.open-opened.result c.open-opened.ensures
