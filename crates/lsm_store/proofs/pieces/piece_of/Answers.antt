use Rattle.std.proofs.Common.{sym, ◌∙◌, ap}
use Rattle.lsm_machine.proofs.NextPieces.{work_of_turn, turn_told}
use Rattle.lsm_store.proofs.pieces.piece_of.Goals as goal

pub returns-in-Read : goal.returns-in-Read
returns-in-Read c = λ slot is. ap (work_of_turn c.args.turn.job) (sym c.in-Read.is) ∙ turn_told c.args.turn slot is

pub returns-in-Build : goal.returns-in-Build
returns-in-Build c = λ slot is. ap (work_of_turn c.args.turn.job) (sym c.in-Build.is) ∙ turn_told c.args.turn slot is

pub returns-in-Write : goal.returns-in-Write
returns-in-Write c = λ slot is. ap (work_of_turn c.args.turn.job) (sym c.in-Write.is) ∙ turn_told c.args.turn slot is

pub returns-in-Install : goal.returns-in-Install
returns-in-Install c = λ slot is. ap (work_of_turn c.args.turn.job) (sym c.in-Install.is) ∙ turn_told c.args.turn slot is
