use Rattle.std.proofs.Common.{◌∙◌, ap}
use Rattle.lsm_store.specs.Backing.{StoreView, machine_of}
use Rattle.lsm_machine.specs.Pieces.{piece_at}
use Rattle.lsm_store.proofs.store.Store.piece_at.Goals as goal

pub returns : goal.returns
returns g c = c.piece_at.ensures ∙ ap (λ (v : StoreView). piece_at (machine_of v) c.args.place) c.self.view_is
