use Rattle.std.proofs.Common.{rules}
use Rattle.lsmctl.proofs.parser.subcommand.Goals as goal

pub returns-in_ok-file-in-put : goal.returns-in_ok-file-in-put
returns-in_ok-file-in-put c = search rules
