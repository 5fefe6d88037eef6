use Rattle.lsmctl.proofs.parser.with_rows.Goals as goal

pub returns : goal.returns
returns c = λ app above. c.in_ok-command-4.ensures _ (c.in_ok-command-3.ensures _ (c.in_ok-command-2.ensures _ (c.in_ok-command.ensures app above)))
