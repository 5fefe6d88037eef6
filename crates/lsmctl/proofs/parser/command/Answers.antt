use Rattle.lsmctl.proofs.parser.command.Goals as goal

pub returns : goal.returns
returns c =
    let changes = c.in_ok-command-2.ensures _ c.in_ok-command.ensures in
    c.in_ok-command-8.ensures _ (c.in_ok-command-7.ensures _ (c.in_ok-command-6.ensures _ (c.in_ok-command-5.ensures _
    (c.in_ok-command-4.ensures _ (c.in_ok-command-3.ensures _ changes)))))
