use Rattle.std.proofs.Common.{ap, sym, ◌∙◌}
use Rattle.lsm_machine.specs.Pieces.{places_from}
use Rattle.lsm_trail.specs.Knowledge.{Known}
use Rattle.lsm_shared.proofs.Turning.{turn_begun}
use Rattle.lsm_shared.proofs.session.Session.piece.Goals as goal

pub returns : goal.returns
returns g c =
    let number = sym c.me.invariant.1 ∙ ap (λ (k : Known). k.number) (c.me.view_is ∙ c.show.ensures.known) in
    turn_begun c.turn_among.result _ _ _ _ _ _ _ _ _ c.show.ensures.same (c.places_from-places.ensures ∙ ap places_from number) c.show.ensures.finds c.show.ensures.known c.turn_among.ensures
