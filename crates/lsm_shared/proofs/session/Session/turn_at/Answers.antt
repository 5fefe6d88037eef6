use Rattle.std.proofs.Common.{Some, None, ap, sym, ◌∙◌, subst}
use Rattle.lsm_store.specs.Backing.{machine_of}
use Rattle.lsm_machine.specs.Pieces.{work_of_piece}
use Rattle.lsm_machine.specs.Work.{Take, Read, Write}
use Rattle.lsm_machine.specs.declared.piece.Piece.{Piece}
use Rattle.lsm_shared.specs.Sessions.{SessionView}
use Rattle.lsm_shared.specs.Turns.{Gives}
use Rattle.lsm_shared.proofs.Giving.{next_gives, read_gives, write_gives}
use Rattle.lsm_shared.proofs.Turning.{idle_was}
use Rattle.lsm_shared.proofs.session.Session.turn_at.Goals as goal

pub returns-in-None : goal.returns-in-None
returns-in-None g c = idle_was _ _ _ _ c.self.view_is _ _ c.in-None.ensures c.requires

pub did-requires-clause-gives : goal.did-requires-clause-gives
did-requires-clause-gives g c =
    let waits = ap (λ (p : Piece). Some (work_of_piece p)) (sym c.in-Some-Take.field-0-is) ∙ c.in-Some-Take.ensures in
    subst (λ (v : SessionView). Gives (machine_of v.store) (Take None)) c.self.view_is (next_gives (machine_of c.self.inside.store) c.args.place waits)

pub did-requires-in-Some-Read-clause-gives : goal.did-requires-in-Some-Read-clause-gives
did-requires-in-Some-Read-clause-gives g c = subst (λ (v : SessionView). Gives (machine_of v.store) (Read c.in-Some-Read.job)) c.self.view_is (read_gives (machine_of c.self.inside.store) c.in-Some-Read.job)

pub did-requires-in-Some-Write-clause-gives : goal.did-requires-in-Some-Write-clause-gives
did-requires-in-Some-Write-clause-gives g c = subst (λ (v : SessionView). Gives (machine_of v.store) (Write c.in-Some-Write.job)) c.self.view_is (write_gives (machine_of c.self.inside.store) c.in-Some-Write.job)
