use Rattle.std.proofs.Common.{◌≡◌, true, false, List, subst, sym, ◌∙◌}
use Rattle.lsm_codec.specs.Keys.{Bytes}
use Rattle.lsm_room.specs.Outputs.{FindsRoom}
use Rattle.lsm_room.proofs.standing.Standing.rewriting.Goals as goal

pub returns-then-is_sure_at : goal.returns-then-is_sure_at
returns-then-is_sure_at g c = λ stays. record {
  whole = λ down. absurd (let clash : false ≡ true = sym stays ∙ down in cc);
  room = λ job is.
      subst (λ (keys : List Bytes). FindsRoom c.args.self.now.extents.now c.args.self.now.levels.now c.args.self.now.live job keys) c.deref.ensures.value
      (c.is_sure_at.ensures.room c.if-is_sure_at.true job is);
}
