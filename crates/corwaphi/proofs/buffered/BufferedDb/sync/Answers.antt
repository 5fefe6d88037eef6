use Rattle.std.proofs.Common.{inr, refl, subst, sym}
use Rattle.lsm_machine.specs.Calls.{Number}
use Rattle.corwaphi.specs.Buffering.{Buffered, Commits, operations_of}
use Rattle.corwaphi.proofs.buffered.BufferedDb.sync.Goals as goal

pub returns : goal.returns
returns g c =
    let mid : Buffered = record { store = c.self.inside.db; waiting = operations_of c.self.inside.waiting } in
    inr (c.in_ok-commit.field-0, mid, subst (λ (b : Buffered). Commits c.args.self.now (Number c.in_ok-commit.field-0) b) (sym c.self.view_is) c.in_ok-commit.ensures, c.sync.ensures.serves, refl)
