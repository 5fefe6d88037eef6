use Rattle.std.proofs.Common.{◌≡◌, ◌∙◌, sym, ap, map, refl, inl, subst}
use Rattle.clap.specs.Words.{App, HasKind, app_of, fault_of, is_simple, is_simple_and_free, subcommand_of}
use Rattle.lsmctl.specs.Program.{program}
use Rattle.lsmctl.proofs.RunLaws.{AskNothing-error}
use Rattle.lsmctl.proofs.ProgramLaws.{is_simple-program, is_simple_and_free-program}
use Rattle.lsmctl.proofs.parser.parsed.Goals as goal

pub returns-in-Ok-clause-found : goal.returns-in-Ok-clause-found
returns-in-Ok-clause-found g c =
    let words = map g.S.AsStr.text c.args.words.now in
    let shape : app_of c.in_ok-command.command ≡ program = c.in_ok-command.ensures.shape in
    let matches = c.in-Ok.ensures.matches (ap is_simple shape ∙ is_simple-program) in
    matches.1 ∙ ap (λ (a : App). subcommand_of a words) shape

pub returns-in-Ok-clause-faultless : goal.returns-in-Ok-clause-faultless
returns-in-Ok-clause-faultless g c =
    let words = map g.S.AsStr.text c.args.words.now in
    let shape : app_of c.in_ok-command.command ≡ program = c.in_ok-command.ensures.shape in
    sym (ap (λ (a : App). fault_of a words) shape) ∙ c.in-Ok.ensures.kinds (ap is_simple_and_free shape ∙ is_simple_and_free-program)

pub returns-in_ok-mistake_of-in-Err-clause-faults : goal.returns-in_ok-mistake_of-in-Err-clause-faults
returns-in_ok-mistake_of-in-Err-clause-faults g c =
    let words = map g.S.AsStr.text c.args.words.now in
    let e = c.in-Err.error in
    let shape : app_of c.in_ok-command.command ≡ program = c.in_ok-command.ensures.shape in
    let kinds : HasKind (fault_of (app_of c.in_ok-command.command) words) e = c.in-Err.ensures.kinds (ap is_simple_and_free shape ∙ is_simple_and_free-program) in
    inl (refl, AskNothing-error words e (subst (λ (a : App). HasKind (fault_of a words) e) shape kinds) c.in_ok-mistake_of-in-Err.ensures)
