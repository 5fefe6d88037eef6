use Rattle.std.proofs.Common.{◌∙◌, sym, ap, is_some}
use Rattle.clap.specs.Words.{found_of}
use Rattle.clap.proofs.WalkLemmas.{first_value-rows}
use Rattle.lsmctl.proofs.parser.at.Goals as goal

pub returns-in-Some : goal.returns-in-Some
returns-in-Some c = sym (first_value-rows (found_of c.args.given.now) c.args.place.now) ∙ sym c.in-Some.ensures

pub returns-in-None : goal.returns-in-None
returns-in-None c = ap is_some (sym (first_value-rows (found_of c.args.given.now) c.args.place.now) ∙ sym c.in-None.ensures)
