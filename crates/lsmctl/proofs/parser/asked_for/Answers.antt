use Rattle.std.proofs.Common.{rules, ◌∙◌, sym, map}
use Rattle.clap.specs.Words.{found_of, rows_of}
use Rattle.lsmctl.specs.Runs.{AskNothing}
use Rattle.lsmctl.proofs.RunLaws.{AskNothing-words}
use Rattle.lsmctl.proofs.ProgramLaws.{found_together}
use Rattle.lsmctl.proofs.parser.asked_for.Goals as goal

pub returns-clause-asked : goal.returns-clause-asked
returns-clause-asked g c = record {
  name = c.in-Some-subcommand.name.now;
  rows = rows_of (found_of c.in-Some-subcommand.given.now);
  faultless = c.in_ok-matches.ensures.faultless;
  dashless = search rules;
  found = sym c.in_ok-matches.ensures.found ∙ found_together _ _ _ _ c.in-Some-subcommand.ensures.name c.in-Some-subcommand.ensures.rows;
  asks = c.in_ok-subcommand.ensures;
}

pub returns-in_err-subcommand-clause-faults : goal.returns-in_err-subcommand-clause-faults
returns-in_err-subcommand-clause-faults g c =
    let words = map g.S.AsStr.text c.args.words.now in
    let nothing : AskNothing words = AskNothing-words words c.in-Some-subcommand.name.now (rows_of (found_of c.in-Some-subcommand.given.now))
    (sym c.in_ok-matches.ensures.found ∙ found_together _ _ _ _ c.in-Some-subcommand.ensures.name c.in-Some-subcommand.ensures.rows) c.in_err-subcommand.ensures in
    search rules
