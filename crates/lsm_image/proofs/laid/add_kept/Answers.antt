use Rattle.std.proofs.Common.{◌≡◌, ◌++◌, ◌∷◌, [], false, get_or, map, sym, ap, ◌∙◌, rules}
use Rattle.std.proofs.lemmas.List.{map_push}
use Rattle.lsm_image.specs.declared.laid.Laid.{Laid}
use Rattle.lsm_image.specs.Laid.{write_of}
use Rattle.lsm_image.proofs.Begun.{kept_more, kept_less}
use Rattle.lsm_image.proofs.laid.add_kept.Goals as goal
use Rattle.lsm_image.proofs.laid.add_kept.Goals.{then-is_kept+in_ok-push, else-is_kept}

pub loop-i-preserved : goal.loop-i-preserved
loop-i-preserved g c = elim c.if-is_kept.branch [
  | then-is_kept+in_ok-push w ↦
      let none : Laid = record { at = 0; bytes = []; sync_followed = false } in
      let added : w.push.new.self.items ≡ c.loop-i.laid.items ++ get_or c.args.pending.now c.loop-i.i none ∷ [] = search rules in
      rw w.laid-is (kept_more c.args.keep.now c.args.pending.now c.loop-i.i c.loop-i-test.true none (map write_of c.loop-i.laid.items) _ c.loop-i.invariant (sym c.is_kept.ensures ∙ w.if-is_kept.true)
      (map write_of w.push.new.self.items) (ap (map write_of) added ∙ map_push write_of c.loop-i.laid.items (get_or c.args.pending.now c.loop-i.i none)))
  | else-is_kept w ↦
      let none : Laid = record { at = 0; bytes = []; sync_followed = false } in
      rw w.laid-is (kept_less c.args.keep.now c.args.pending.now c.loop-i.i c.loop-i-test.true none (map write_of c.loop-i.laid.items) _ c.loop-i.invariant (sym c.is_kept.ensures ∙ w.if-is_kept.false))
]
