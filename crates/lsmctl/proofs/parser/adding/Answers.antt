use Rattle.lsmctl.proofs.ProgramLaws.{IsCommand-subcommand}
use Rattle.lsmctl.proofs.parser.adding.Goals as goal

pub returns : goal.returns
returns c = λ app above. IsCommand-subcommand c.in_ok-subcommand-2.ensures above c.in_ok-subcommand.ensures
